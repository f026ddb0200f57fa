-- The boundaries of a tree lie in its space.
use Rattle.std.proofs.Common.{◌≡◌, ℕ, zero, suc, ◌<◌, ◌≤◌, ◌^◌, Bool, true, false, cond, length, refl, sym, arith, subst}
use Rattle.std.specs.Prelude.{◌==◌}
use Rattle.std.proofs.lemmas.Bool.Decides.{nat_tests}
use Rattle.seam_geo.specs.declared.pos.Pos.{Pos}
use Rattle.seam_tree.specs.declared.boundary.Axis.{Axis}
use Rattle.seam_tree.specs.declared.boundary.Axis.TheVariants as axis
use Rattle.seam_tree.specs.Boundary.{above, below, moved_along, place_along, RunsThrough}
use Rattle.seam_tree.specs.Division.{Division, IsTree, area_after, cut_after}
use Rattle.seam_tree.proofs.Areas.{proper_step, tree_proper}

-- a position is in a square of this size, or at its edge
abbrev IsWithin : ℕ → Pos → Type 0
IsWithin size p = (p.x ≤ size) × (p.z ≤ size)

moved_within : (a : Axis) (at size : ℕ) (p : Pos) → IsWithin size p → at < place_along a p → IsWithin size (moved_along a p at)
moved_within axis.X at size p within small = (omega (arith, within.0, small), within.1)
moved_within axis.Z at size p within small = (within.0, omega (arith, within.1, small))

place_within : (a : Axis) (at size : ℕ) (p : Pos) → IsWithin size p → at < place_along a p → at ≤ size
place_within axis.X at size p within small = omega (arith, within.0, small)
place_within axis.Z at size p within small = omega (arith, within.1, small)

module _ (t : Division) (tree : IsTree t) where
  -- the boundary of a cut runs through the area of the cell that it cut
  runs : (n : ℕ) → suc n ≤ length t.cuts → RunsThrough (cut_after t n).boundary (area_after t n (cut_after t n).cell)
  runs n w = (proper_step t n (tree.cell_was_there n (omega (arith, w))) (tree_proper t (suc n) tree w)).1

  areas_within : (n : ℕ) → n ≤ length t.cuts → (cell : ℕ) → IsWithin t.size (area_after t n cell).high
  areas_within zero w cell = (omega arith, omega arith)
  areas_within (suc n) w cell =
      by (cell == suc n) (cell == (cut_after t n).cell) refl (areas_within n (omega (arith, w))) (runs n w)
    where
      by : (p q : Bool) → (cell == (cut_after t n).cell) ≡ q → ((c : ℕ) → IsWithin t.size (area_after t n c).high) →
          RunsThrough (cut_after t n).boundary (area_after t n (cut_after t n).cell) →
          IsWithin t.size
          (cond p (above (area_after t n (cut_after t n).cell) (cut_after t n).boundary)
          (cond q (below (area_after t n cell) (cut_after t n).boundary) (area_after t n cell))).high
      by true q is before through = before (cut_after t n).cell
      by false true is before through =
          let same : cell ≡ (cut_after t n).cell = grind (arith, nat_tests, is) in
          subst (λ (c : ℕ). IsWithin t.size (below (area_after t n c) (cut_after t n).boundary).high) (sym same)
          (moved_within (cut_after t n).boundary.axis (cut_after t n).boundary.at t.size (area_after t n (cut_after t n).cell).high
          (before (cut_after t n).cell) through.to_high)
      by false false is before through = before cell

  -- each boundary lies in the space
  pub place_is_small : (k : ℕ) → k < length t.cuts → (cut_after t k).boundary.at < 2 ^ 32
  place_is_small k w =
      let cut = cut_after t k in
      let within =
      place_within cut.boundary.axis cut.boundary.at t.size (area_after t k cut.cell).high (areas_within k (omega (arith, w)) cut.cell)
      (runs k (omega (arith, w))).to_high in
      let most = tree.size_to in
      omega (arith, within, most)
