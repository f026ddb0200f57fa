-- What one more cut makes of a cell's area and of a position's cell.
use Rattle.std.proofs.Common.{◌≡◌, ◌≢◌, ◌⊎◌, ℕ, suc, ◌+◌, ◌<◌, ◌≤◌, arith, add-one, inl, inr}
use Rattle.std.proofs.lemmas.Bool.{cases_lt}
use Rattle.std.proofs.lemmas.Bool.Decides.{nat_tests}
use Rattle.seam_geo.specs.declared.pos.Pos.{Pos}
use Rattle.seam_tree.specs.Boundary.{place_along, below, above}
use Rattle.seam_tree.specs.Division.{Division, area_after, leaf_after, cut_after}

pub area_new : (t : Division) (n cell : ℕ) → cell ≡ n + 1 →
    area_after t (n + 1) cell ≡ above (area_after t n (cut_after t n).cell) (cut_after t n).boundary
area_new t n cell is = rw add-one (grind (arith, nat_tests))

pub area_cut : (t : Division) (n cell : ℕ) → cell ≢ n + 1 → cell ≡ (cut_after t n).cell →
    area_after t (n + 1) cell ≡ below (area_after t n cell) (cut_after t n).boundary
area_cut t n cell other is = rw add-one (grind (arith, nat_tests))

pub area_other : (t : Division) (n cell : ℕ) → cell ≢ n + 1 → cell ≢ (cut_after t n).cell → area_after t (n + 1) cell ≡ area_after t n cell
area_other t n cell other not_cut = rw add-one (grind (arith, nat_tests))

pub leaf_new : (t : Division) (n : ℕ) (p : Pos) → (cut_after t n).cell ≡ leaf_after t n p →
    (cut_after t n).boundary.at ≤ place_along (cut_after t n).boundary.axis p → leaf_after t (n + 1) p ≡ n + 1
leaf_new t n p cut from = rw add-one (grind (arith, nat_tests))

pub leaf_other : (t : Division) (n : ℕ) (p : Pos) → (cut_after t n).cell ≢ leaf_after t n p → leaf_after t (n + 1) p ≡ leaf_after t n p
leaf_other t n p other = rw add-one (grind (arith, nat_tests))

pub leaf_below : (t : Division) (n : ℕ) (p : Pos) → place_along (cut_after t n).boundary.axis p < (cut_after t n).boundary.at →
    leaf_after t (n + 1) p ≡ leaf_after t n p
leaf_below t n p to = rw add-one (grind (arith, nat_tests))

pub ruleset area_steps = (area_new, area_cut, area_other)

pub ruleset leaf_steps = (leaf_new, leaf_other, leaf_below)

pub same_or_not : (m n : ℕ) → (m ≡ n) ⊎ (m ≢ n)
same_or_not m n =
    elim (cases_lt m n) [
      | inl l ↦ inr (λ e. omega arith)
      | inr g ↦ elim (cases_lt n m) [ inl l ↦ inr (λ e. omega arith) | inr h ↦ inl (omega arith) ]
    ]

-- a cell after one more cut: the new one, the one that was cut, or another
pub data AreaStep (t : Division) (n cell : ℕ) : Type 0 where
  is_new : cell ≡ suc n → area_after t (suc n) cell ≡ above (area_after t n (cut_after t n).cell) (cut_after t n).boundary →
      AreaStep t n cell
  is_cut : cell ≤ n → cell ≡ (cut_after t n).cell → area_after t (suc n) cell ≡ below (area_after t n cell) (cut_after t n).boundary →
      AreaStep t n cell
  is_other : cell ≤ n → cell ≢ (cut_after t n).cell → area_after t (suc n) cell ≡ area_after t n cell → AreaStep t n cell

pub area_step : (t : Division) (n cell : ℕ) → cell ≤ suc n → AreaStep t n cell
area_step t n cell within =
    elim (same_or_not cell (suc n)) [
      | inl e ↦ is_new e (grind (arith, nat_tests))
      | inr other ↦ elim (same_or_not cell (cut_after t n).cell) [
        | inl e ↦ is_cut (omega arith) e (grind (arith, nat_tests))
        | inr not_cut ↦ is_other (omega arith) not_cut (grind (arith, nat_tests))
      ]
    ]

-- a position after one more cut: it went to the new cell, or stayed in its own
pub data LeafStep (t : Division) (n : ℕ) (p : Pos) : Type 0 where
  goes : (cut_after t n).cell ≡ leaf_after t n p → (cut_after t n).boundary.at ≤ place_along (cut_after t n).boundary.axis p →
      leaf_after t (suc n) p ≡ suc n → LeafStep t n p
  stays_below : (cut_after t n).cell ≡ leaf_after t n p → place_along (cut_after t n).boundary.axis p < (cut_after t n).boundary.at →
      leaf_after t (suc n) p ≡ leaf_after t n p → LeafStep t n p
  stays_apart : (cut_after t n).cell ≢ leaf_after t n p → leaf_after t (suc n) p ≡ leaf_after t n p → LeafStep t n p

pub leaf_step : (t : Division) (n : ℕ) (p : Pos) → LeafStep t n p
leaf_step t n p =
    elim (same_or_not (cut_after t n).cell (leaf_after t n p)) [
      | inl e ↦ elim (cases_lt (place_along (cut_after t n).boundary.axis p) (cut_after t n).boundary.at) [
        | inl l ↦ stays_below e l (grind (arith, nat_tests))
        | inr g ↦ goes e g (grind (arith, nat_tests))
      ]
      | inr other ↦ stays_apart other (grind (arith, nat_tests))
    ]
