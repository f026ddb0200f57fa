-- A cell that is none of the tree keeps what it has.
use Rattle.std.proofs.Common.{◌≡◌, ◌<◌, ◌≤◌, ℕ, zero, suc, true, false}
use Rattle.std.proofs.Common.{cond, eqb, nat_le, max, length, refl, ap, sym, ◌∙◌, arith}
use Rattle.std.proofs.lemmas.Bool.Decides.{nat_tests}
use Rattle.seam_node_steps.specs.Prelude.{Pos, distance_to, Division, IsTree, IsInSpace, cells_of, cut_after, leaf_at, distance_to_cell}
use Rattle.seam_node_steps.specs.Prelude.{home_at}
use Rattle.seam_geo.specs.Rect.{distance_along}
use Rattle.seam_tree.specs.Division.{whole, area_after}
use Rattle.seam_tree.specs.Boundary.{above, below}

differs : (a b : ℕ) → b < a → eqb a b ≡ false
differs a b lt = grind (arith, nat_tests)

-- its area is that of the whole space
area_beyond : (t : Division) → ((n : ℕ) → n < length t.cuts → (cut_after t n).cell ≤ n) → (cell n : ℕ) → n ≤ length t.cuts → n < cell →
    area_after t n cell ≡ whole t
area_beyond t was cell zero le lt = refl
area_beyond t was cell (suc n) le lt =
    let cut = cut_after t n in
    let before : cut.cell ≤ n = was n (omega arith) in
    ap (λ b. cond b (above (area_after t n cut.cell) cut.boundary)
    (cond (eqb cell cut.cell) (below (area_after t n cell) cut.boundary) (area_after t n cell))) (differs cell (suc n) lt)
    ∙ (ap (λ b. cond b (below (area_after t n cell) cut.boundary) (area_after t n cell)) (differs cell cut.cell (omega arith))
    ∙ area_beyond t was cell n (omega arith) (omega arith))

along : (size x : ℕ) → x < size → distance_along 0 size x ≡ 0
along size x lt = omega arith

none_within : (kept : ℕ) → nat_le 0 kept ≡ true
none_within kept = grind (arith, nat_tests)

pub home_beyond : (t : Division) (kept cell : ℕ) (p : Pos) → IsTree t → IsInSpace t p → cells_of t ≤ cell → cell ≡ home_at kept t cell p
home_beyond t kept cell p is inside beyond =
    let far : distance_to_cell t cell p ≡ 0 =
    ap (λ a. distance_to a p) (area_beyond t is.cell_was_there cell (length t.cuts) (omega arith) (omega arith))
    ∙ ((λ i. max (along t.size p.x inside.x_inside i) (along t.size p.z inside.z_inside i))) in
    sym (ap (λ d. cond (nat_le d kept) cell (leaf_at t p)) far ∙ ap (λ b. cond b cell (leaf_at t p)) (none_within kept))
