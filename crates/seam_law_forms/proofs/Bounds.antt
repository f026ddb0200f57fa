-- A balanced tree is one, with the cuts of the tree that was balanced.
use Rattle.std.proofs.Common.{ℕ, List, [], ◌∷◌, All, refl, sym, subst, arith}
use Rattle.std.proofs.lemmas.List.Elements.{All-head, All-tail, All-from_get_or}
use Rattle.seam_geo.specs.declared.pos.Pos.{Pos}
use Rattle.seam_tree.specs.Division.{Division, HasBoundary, IsTree}
use Rattle.seam_tree.specs.Change.{with_place}
use Rattle.seam_tree.proofs.Changes.{with_place_tree}
use Rattle.seam_balance.specs.Order.{boundaries_from_root}
use Rattle.seam_balance.specs.Balance.{BalancedInTurn, IsBalanced, HasSameCuts}
use Rattle.seam_balance.proofs.Turns.{order_has, same_cuts_refl, same_cuts_moved}

in_turn : (positions : List Pos) (shift : ℕ) (t : Division) (bs : List ℕ) (mid new : Division) → HasSameCuts t mid → IsTree mid →
    All (HasBoundary t) bs → BalancedInTurn positions shift mid bs new → IsTree new × HasSameCuts t new
in_turn positions shift t [] mid new same tree have is = (subst IsTree (sym is) tree, subst (HasSameCuts t) (sym is) same)
in_turn positions shift t (b ∷ bs) mid new same tree have (at, best, rest) =
    let has = All-head (HasBoundary t) b bs have in
    let cells = same.cells in
    let from = has.from_one in
    let to = has.to_last in
    let there : HasBoundary mid b = record { from_one = from; to_last = omega (arith, to, cells) } in
    in_turn positions shift t bs (with_place mid b at) new (same_cuts_moved t mid b at same tree there)
    (with_place_tree mid b at tree best.allowed.none_empty) (All-tail (HasBoundary t) b bs have) rest

pub balanced_is : (positions : List Pos) (shift : ℕ) (t new : Division) → IsTree t → IsBalanced positions shift t new →
    IsTree new × HasSameCuts t new
balanced_is positions shift t new tree is =
    in_turn positions shift t (boundaries_from_root t) t new (same_cuts_refl t) tree
    (All-from_get_or (HasBoundary t) (boundaries_from_root t) 0 (λ i within. order_has t t (boundaries_from_root t) i refl refl within)) is
