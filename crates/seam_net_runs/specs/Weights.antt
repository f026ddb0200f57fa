-- Numbers that are given to nodes and, by the node to which they go, to messages; and their sum over a net.
use Rattle.std.specs.Prelude.{ℕ, ◌+◌, ◌≤◌, Bool, List, [], ◌∷◌, if◌then◌else◌}
use Rattle.seam_machine.specs.Views.{Stepped, NetView}
use Rattle.seam_machine.specs.Nets.{happens}
use Rattle.seam_machine.specs.Totals.{total}
use Rattle.seam_machine.specs.declared.machines.Input.{Input}
use Rattle.seam_machine.specs.declared.machines.Input.TheVariants.{Task, From}
use Rattle.seam_machine.specs.declared.machines.Event.{Event}

-- the sum of what the elements weigh, each by its place, where the first is at place i
abbrev pub totals : {X : Type 0} → (ℕ → X → ℕ) → ℕ → List X → ℕ
totals f i [] = 0
totals f i (x ∷ xs) = f i x + totals f (i + 1) xs

-- what one node's links weigh, where a message m to node b weighs g b m
abbrev pub row_weight : {M : Type 0} → (ℕ → M → ℕ) → List (List M) → ℕ
row_weight g row = totals (λ b. total (g b)) 0 row

-- what the messages in the links weigh together
abbrev pub links_weight : {M : Type 0} → (ℕ → M → ℕ) → List (List (List M)) → ℕ
links_weight g rows = total (row_weight g) rows

-- what the nodes and the messages in the links weigh together
abbrev pub weight : {N M : Type 0} → (N → ℕ) → (ℕ → M → ℕ) → NetView N M → ℕ
weight f g w = total f w.nodes + links_weight g w.rows

-- what an input of node k weighs
abbrev pub input_weight : {M : Type 0} → (ℕ → M → ℕ) → ℕ → Input M → ℕ
input_weight g k Task = 0
input_weight g k (From a m) = g k m

-- what the items that a step sends weigh together
abbrev pub sent_weight : {M : Type 0} → (ℕ → M → ℕ) → List (ℕ × M) → ℕ
sent_weight g items = total (λ p. g p.0 p.1) items

-- how many events of a run are of a kind
abbrev pub counted : {N M : Type 0} → (N → Input M → Stepped N M) → (NetView N M → Event → Bool) → NetView N M → List Event → ℕ
counted steps kind w [] = 0
counted steps kind w (e ∷ es) = (if kind w e then 1 else 0) + counted steps kind (happens steps w e) es

-- the event lowers the number; an event of the kind at least does not raise it
abbrev pub Lowers : {N M : Type 0} → (N → Input M → Stepped N M) → (NetView N M → Event → Bool) → (NetView N M → ℕ) → NetView N M → Event
    → Type 0
Lowers steps kind n w e = n (happens steps w e) + 1 ≤ n w + (if kind w e then 1 else 0)
