-- A world is quiet where no node has a task and no link a message.
use Rattle.std.proofs.Common.{◌≡◌, ℕ, zero, suc, Bool, true, false, not, ◌&&◌, List, [], ◌∷◌, refl, subst}
use Rattle.std.specs.Prelude.{slice_index_or}
use Rattle.std.specs.List.{list_all}
use Rattle.seam_node_steps.specs.Prelude.{IsQuiet, link, EachNode, has_any, NodeView, World, node_has_work}
use Rattle.seam_machine.proofs.Quiet.{quiet_from}

abbrev is_idle : NodeView → Bool
is_idle s = not (node_has_work s)

abbrev is_empty : {A : Type 0} → List A → Bool
is_empty xs = not (has_any xs)

abbrev all_empty : {A : Type 0} → List (List A) → Bool
all_empty ls = list_all is_empty ls

abbrev pub is_quiet : World → Bool
is_quiet w = list_all is_idle w.nodes && list_all all_empty w.rows

both : (a b : Bool) → (a && b) ≡ true → (a ≡ true) × (b ≡ true)
both true b h = (refl, h)
both false b h = cc

not_true : (b : Bool) → not b ≡ true → b ≡ false
not_true true h = cc
not_true false h = refl

none_in : {A : Type 0} (xs : List A) → is_empty xs ≡ true → xs ≡ []
none_in [] h = refl
none_in (x ∷ xs) h = cc

idle_at : (ns : List NodeView) → list_all is_idle ns ≡ true → EachNode (λ k s. node_has_work s ≡ false) ns
idle_at [] h k s e = cc
idle_at (n ∷ ns) h zero s e = let same : n ≡ s = cc in let idle =
    (both (is_idle n) (list_all is_idle ns) h).0 in not_true (node_has_work s) (subst (λ m. is_idle m ≡ true) same idle)
idle_at (n ∷ ns) h (suc k) s e = idle_at ns (both (is_idle n) (list_all is_idle ns) h).1 k s e

empty_at : {A : Type 0} (ls : List (List A)) (b : ℕ) → all_empty ls ≡ true → slice_index_or ls b [] ≡ []
empty_at [] b h = refl
empty_at (l ∷ ls) zero h = none_in l (both (is_empty l) (all_empty ls) h).0
empty_at (l ∷ ls) (suc b) h = empty_at ls b (both (is_empty l) (all_empty ls) h).1

row_at : {A : Type 0} (rows : List (List (List A))) (a b : ℕ) → list_all all_empty rows ≡ true → link rows a b ≡ []
row_at [] a b h = refl
row_at (r ∷ rs) zero b h = empty_at r b (both (all_empty r) (list_all all_empty rs) h).0
row_at (r ∷ rs) (suc a) b h = row_at rs a b (both (all_empty r) (list_all all_empty rs) h).1

pub quiet_of : (w : World) → is_quiet w ≡ true → IsQuiet node_has_work w
quiet_of w h =
    let two = both (list_all is_idle w.nodes) (list_all all_empty w.rows) h in
    quiet_from node_has_work w (λ a b. row_at w.rows a b two.1) (idle_at w.nodes two.0)
