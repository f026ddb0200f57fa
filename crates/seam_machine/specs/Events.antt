-- What an enabled event meets, and what is true of each node and of each link.
use Rattle.std.specs.Prelude.{◌≡◌, ℕ, ◌==◌, ◌&&◌, Bool, false, List, [], Option, None, Some, slice_get, drop, if◌then◌else◌}
use Rattle.seam_machine.specs.Views.{NetView}
use Rattle.seam_machine.specs.Nets.{link, input_from}
use Rattle.seam_machine.specs.Sends.{items_to}
use Rattle.seam_machine.specs.declared.machines.Input.{Input}
use Rattle.seam_machine.specs.declared.machines.Event.{Event}

-- the event's node is there, and so is what it is fed
pub record Occurs {N M : Type 0} (w : NetView N M) (e : Event) : Type 0 where
  pub node : N
  pub input : Input M
  pub is_node : slice_get w.nodes e.node ≡ Some node
  pub is_fed : input_from w.rows e.node e.from ≡ Some input

-- P is true of each node, with its number
abbrev pub EachNode : {N : Type 0} → (ℕ → N → Type 0) → List N → Type 0
EachNode {N} P nodes = (k : ℕ) (s : N) → slice_get nodes k ≡ Some s → P k s

-- Q is true of each link, with the numbers of its ends
abbrev pub EachLink : {M : Type 0} → (ℕ → ℕ → List M → Type 0) → List (List (List M)) → Type 0
EachLink Q rows = (a b : ℕ) → Q a b (link rows a b)

-- the message comes from node a
abbrev pub is_from : Option ℕ → ℕ → Bool
is_from None a = false
is_from (Some b) a = a == b

-- what an event at node k leaves of the link from x to y: its first message is gone where the event fed it to the node
abbrev pub link_left : {M : Type 0} → List (List (List M)) → ℕ → Option ℕ → ℕ → ℕ → List M
link_left rows k from x y = if is_from from x && (y == k) then drop 1 (link rows x y) else link rows x y

-- what node k's step adds to the link from x to y
abbrev pub link_added : {M : Type 0} → ℕ → List (ℕ × M) → ℕ → ℕ → List M
link_added k sent x y = if x == k then items_to y sent else []
