-- Where the home's area holds all that lies within reach of a position, no other cell is that near, and none is a haunt.
use Rattle.std.proofs.Common.{◌≡◌, ◌<◌, ◌≤◌, ◌+◌, ◌-◌, ℕ, max, sym, ap, ◌∙◌, arith, inl, inr}
use Rattle.std.specs.FinSet as set
use Rattle.std.specs.Cmp.{nat_cmp_total}
use Rattle.std.specs.Ordering.{nat_cmp}
use Rattle.std.proofs.lemmas.Bool.{false_from_ne_true}
use Rattle.seam_geo.specs.declared.pos.Pos.{Pos}
use Rattle.seam_geo.specs.Pos.{distance}
use Rattle.seam_geo.specs.Rect.{Area, Holds, IsNearest, distance_to}
use Rattle.seam_geo.proofs.Nearest.{distance_to_nearest}
use Rattle.seam_tree.specs.Division.{Division, area, cells_of, leaf_at, IsTree}
use Rattle.seam_tree.specs.Cells.{Cells}
use Rattle.seam_tree.proofs.Areas.{IsLeaf, leaf_at_is, tree_inside}
use Rattle.seam_haunt.specs.Haunts.{IsHaunt, haunts_of}
use Rattle.seam_haunt.proofs.Chosen.{haunts_of_each}

-- the area holds each position within reach
abbrev pub HoldsAround : Area → Pos → ℕ → Type 0
HoldsAround a p reach = (q : Pos) → distance p q ≤ reach → Holds a q

-- as its corners tell
pub corners_around : (a : Area) (low high p : Pos) (reach : ℕ) → low ≡ a.low → high ≡ a.high →
    (low.x ≤ p.x - reach) × (p.x + reach < high.x) → (low.z ≤ p.z - reach) × (p.z + reach < high.z) → HoldsAround a p reach
corners_around a low high p reach low_is high_is x z q near = record {
  from_x = omega (arith, ap (λ (c : Pos). c.x) low_is, x.0, near);
  to_x = omega (arith, ap (λ (c : Pos). c.x) high_is, x.1, near);
  from_z = omega (arith, ap (λ (c : Pos). c.z) low_is, z.0, near);
  to_z = omega (arith, ap (λ (c : Pos). c.z) high_is, z.1, near);
}

pub around_corners : (a : Area) (low high p : Pos) (reach : ℕ) → low ≡ a.low → high ≡ a.high → HoldsAround a p reach
    → ((low.x ≤ p.x - reach) × (p.x + reach < high.x)) × ((low.z ≤ p.z - reach) × (p.z + reach < high.z))
around_corners a low high p reach low_is high_is around =
    let least : Holds a (record { x = p.x - reach; z = p.z - reach }) = around _ (omega arith) in
    let greatest : Holds a (record { x = p.x + reach; z = p.z + reach }) = around _ (omega arith) in
    rw (low_is, high_is) ((least.from_x, greatest.to_x), (least.from_z, greatest.to_z))

-- areas share no position, so a cell that is near shares that of the home
near_is_home : (t : Division) (p : Pos) (home cell reach : ℕ) → IsTree t → home < cells_of t → HoldsAround (area t home) p reach
    → cell < cells_of t → distance_to (area t cell) p ≤ reach → cell ≡ home
near_is_home t p home cell reach tree home_there around there near =
    let nearest : IsNearest (area t cell) p (distance_to (area t cell) p) =
    distance_to_nearest (area t cell) p (tree.none_empty cell there) in
    let q : Pos = nearest.reached.0 in
    let held : Holds (area t cell) q = nearest.reached.1 in
    let within : distance p q ≤ reach = omega (arith, nearest.reached.2, near) in
    let leaf : IsLeaf t q (leaf_at t q) = leaf_at_is t q tree (tree_inside t cell q tree there held) in
    leaf.only cell there held ∙ sym (leaf.only home home_there (around q within))

no_haunt : (t : Division) (p : Pos) (home : ℕ) (old : Cells) (near far cell : ℕ) → IsTree t → home < cells_of t
    → HoldsAround (area t home) p (max near far) → IsHaunt p home old t near far cell → ⊥
no_haunt t p home old near far cell tree there around h =
    h.away (near_is_home t p home cell (max near far) tree there around h.there
    (elim h.close [ inl n ↦ omega (arith, n) | inr both ↦ omega (arith, both.1) ]))

pub haunts_are_none : (t : Division) (p : Pos) (home : ℕ) (old : Cells) (near far : ℕ) → IsTree t → home < cells_of t
    → HoldsAround (area t home) p (max near far) → haunts_of p home old t near far ≡ set.empty
haunts_are_none t p home old near far tree there around =
    set.same_set nat_cmp_total set.nat_cmp-IsAntisymmetric _ _ (λ cell.
    false_from_ne_true (set.contains (haunts_of p home old t near far) cell) (λ held.
    no_haunt t p home old near far cell tree there around ((haunts_of_each p home old t near far cell).0 held))
    ∙ sym (set.contains-empty nat_cmp cell))
