-- The first cuts decide the areas that they leave, whatever cuts come later.
use Rattle.std.proofs.Common.{◌≡◌, ℕ, zero, suc, ◌<◌, ◌==◌, nat_le, ◌&&◌, ap, ◌∙◌, arith, if◌then◌else◌}
use Rattle.seam_geo.specs.declared.pos.Pos.{Pos}
use Rattle.seam_tree.specs.declared.cut.Cut.{Cut}
use Rattle.seam_tree.specs.Boundary.{place_along, below, above}
use Rattle.seam_tree.specs.Division.{Division, area_after, leaf_after, cut_after}

-- the two trees are of one space, and have the same first n cuts
pub record AgreeBelow (t u : Division) (n : ℕ) : Type 0 where
  pub size : t.size ≡ u.size
  pub cuts : (k : ℕ) → k < n → cut_after t k ≡ cut_after u k

pub area_agree : (t u : Division) (n : ℕ) → AgreeBelow t u n → (cell : ℕ) → area_after t n cell ≡ area_after u n cell
area_agree t u zero same cell = λ i. record { low = record { x = 0; z = 0 }; high = record { x = same.size i; z = same.size i } }
area_agree t u (suc n) same cell =
    let ih : (c : ℕ) → area_after t n c ≡ area_after u n c =
    area_agree t u n (record { size = same.size; cuts = λ k l. same.cuts k (omega arith) }) in
    let cut : cut_after t n ≡ cut_after u n = same.cuts n (omega arith) in
    let parent : area_after t n (cut_after t n).cell ≡ area_after u n (cut_after u n).cell =
    ih (cut_after t n).cell ∙ ap (λ (c : Cut). area_after u n c.cell) cut in
    λ i. if cell == suc n then above (parent i) (cut i).boundary
    else (if cell == (cut i).cell then below (ih cell i) (cut i).boundary else ih cell i)

-- one more cut that is the same takes the positions to the same cells
pub leaf_agree_step : (t u : Division) (n : ℕ) (p : Pos) → cut_after t n ≡ cut_after u n → leaf_after t n p ≡ leaf_after u n p →
    leaf_after t (suc n) p ≡ leaf_after u (suc n) p
leaf_agree_step t u n p cut leaf =
    λ i. if ((cut i).cell == leaf i) && nat_le (cut i).boundary.at (place_along (cut i).boundary.axis p) then suc n else leaf i
