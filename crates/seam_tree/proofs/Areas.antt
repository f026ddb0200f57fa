-- The cells' areas share the space out: each position is in the area of its cell, and in no other.
use Rattle.std.proofs.Common.{◌≡◌, ℕ, zero, suc, ◌+◌, ◌<◌, ◌≤◌, refl, sym, ◌∙◌, subst, arith, length, ◌-◌}
use Rattle.seam_geo.specs.declared.pos.Pos.{Pos}
use Rattle.seam_geo.specs.Rect.{Area, IsProper, Holds}
use Rattle.seam_tree.specs.Boundary.{place_along, below, above, RunsThrough}
use Rattle.seam_tree.specs.Division.{Division, area_after, leaf_after, cut_after, whole, area, leaf_at, cells_of, area_divided_by, IsTree}
use Rattle.seam_tree.specs.Division.{IsInSpace, HasBoundary}
use Rattle.seam_tree.proofs.Steps.{is_new, is_cut, is_other, area_step, goes, stays_below, stays_apart, leaf_step}
use Rattle.seam_tree.proofs.Parts.{proper_parts, holds_below, holds_above, below_holds, above_holds}

-- each of the first n cuts cut a cell that was there
abbrev pub CellsWereThere : Division → ℕ → Type 0
CellsWereThere t n = (k : ℕ) → k < n → (cut_after t k).cell ≤ k

-- no cell's area is empty after the first n cuts
abbrev pub ProperAfter : Division → ℕ → Type 0
ProperAfter t n = (c : ℕ) → c ≤ n → IsProper (area_after t n c)

abbrev there_before : (t : Division) (n : ℕ) → CellsWereThere t (suc n) → CellsWereThere t n
there_before t n there = λ k below_n. there k (omega arith)

-- the parts of the area that the next cut divided
pub proper_step : (t : Division) (n : ℕ) → (cut_after t n).cell ≤ n → ProperAfter t (suc n) →
    IsProper (area_after t n (cut_after t n).cell) × RunsThrough (cut_after t n).boundary (area_after t n (cut_after t n).cell)
proper_step t n there proper =
    let cell : ℕ = (cut_after t n).cell in
    let upper : IsProper (above (area_after t n cell) (cut_after t n).boundary) =
    elim (area_step t n (suc n) (omega arith)) [
      | is_new _ e ↦ subst IsProper e (proper (suc n) (omega arith))
      | is_cut within _ _ ↦ absurd (omega arith)
      | is_other within _ _ ↦ absurd (omega arith)
    ] in
    let lower : IsProper (below (area_after t n cell) (cut_after t n).boundary) =
    elim (area_step t n cell (omega arith)) [
      | is_new e _ ↦ absurd (omega arith)
      | is_cut _ _ e ↦ subst IsProper e (proper cell (omega arith))
      | is_other _ other _ ↦ absurd (other refl)
    ] in
    proper_parts (area_after t n cell) (cut_after t n).boundary lower upper

pub proper_before : (t : Division) (n : ℕ) → (cut_after t n).cell ≤ n → ProperAfter t (suc n) → ProperAfter t n
proper_before t n there proper c within =
    elim (area_step t n c (omega arith)) [
      | is_new e _ ↦ absurd (omega arith)
      | is_cut _ is _ ↦ subst (λ (k : ℕ). IsProper (area_after t n k)) (sym is) (proper_step t n there proper).0
      | is_other _ _ e ↦ subst IsProper e (proper c (omega arith))
    ]

pub leaf_within : (t : Division) (n : ℕ) (p : Pos) → leaf_after t n p ≤ n
leaf_within t zero p = omega arith
leaf_within t (suc n) p =
    elim (leaf_step t n p) [
      | goes _ _ e ↦ omega (arith, e)
      | stays_below _ _ e ↦ omega (arith, e, leaf_within t n p)
      | stays_apart _ e ↦ omega (arith, e, leaf_within t n p)
    ]

-- a position of the space lies in its cell's area
pub leaf_holds : (t : Division) (n : ℕ) (p : Pos) → CellsWereThere t n → Holds (whole t) p → Holds (area_after t n (leaf_after t n p)) p
leaf_holds t zero p there inside = inside
leaf_holds t (suc n) p there inside =
    let before : Holds (area_after t n (leaf_after t n p)) p = leaf_holds t n p (there_before t n there) inside in
    let within : leaf_after t n p ≤ n = leaf_within t n p in
    let at_cell : Pos → ℕ → Type 0 = λ q c. Holds (area_after t (suc n) c) q in
    elim (leaf_step t n p) [
      | goes cut from e ↦ subst (at_cell p) (sym e) (
          elim (area_step t n (suc n) (omega arith)) [
            | is_new _ is ↦ subst (λ (a : Area). Holds a p) (sym is)
                (holds_above _ _ p (subst (λ (c : ℕ). Holds (area_after t n c) p) (sym cut) before) from)
            | is_cut w _ _ ↦ absurd (omega arith)
            | is_other w _ _ ↦ absurd (omega arith)
          ])
      | stays_below cut to e ↦ subst (at_cell p) (sym e) (
          elim (area_step t n (leaf_after t n p) (omega arith)) [
            | is_new is _ ↦ absurd (omega arith)
            | is_cut _ _ is ↦ subst (λ (a : Area). Holds a p) (sym is) (holds_below _ _ p before to)
            | is_other _ other _ ↦ absurd (other (sym cut))
          ])
      | stays_apart apart e ↦ subst (at_cell p) (sym e) (
          elim (area_step t n (leaf_after t n p) (omega arith)) [
            | is_new is _ ↦ absurd (omega arith)
            | is_cut _ is _ ↦ absurd (apart (sym is))
            | is_other _ _ is ↦ subst (λ (a : Area). Holds a p) (sym is) before
          ])
    ]

-- no other cell's area holds it
pub leaf_only : (t : Division) (n c : ℕ) (p : Pos) → CellsWereThere t n → ProperAfter t n → c ≤ n → Holds (area_after t n c) p →
    c ≡ leaf_after t n p
leaf_only t zero c p there proper within h = omega arith
leaf_only t (suc n) c p there proper within h =
    let cell : ℕ = (cut_after t n).cell in
    let cell_there : cell ≤ n = there n (omega arith) in
    let runs : RunsThrough (cut_after t n).boundary (area_after t n cell) = (proper_step t n cell_there proper).1 in
    let ih : (k : ℕ) → k ≤ n → Holds (area_after t n k) p → k ≡ leaf_after t n p =
    λ k w held. leaf_only t n k p (there_before t n there) (proper_before t n cell_there proper) w held in
    elim (area_step t n c within) [
      | is_new e is ↦
          let parts : Holds (area_after t n cell) p × ((cut_after t n).boundary.at ≤ place_along (cut_after t n).boundary.axis p) =
          above_holds _ _ p runs (subst (λ (a : Area). Holds a p) is h) in
          let leaf : cell ≡ leaf_after t n p = ih cell cell_there parts.0 in
          elim (leaf_step t n p) [
            | goes _ _ to ↦ e ∙ sym to
            | stays_below _ l _ ↦ absurd (omega (arith, l, parts.1))
            | stays_apart apart _ ↦ absurd (apart leaf)
          ]
      | is_cut w e is ↦
          let held : Holds (below (area_after t n cell) (cut_after t n).boundary) p =
          subst (λ (k : ℕ). Holds (below (area_after t n k) (cut_after t n).boundary) p) e (subst (λ (a : Area). Holds a p) is h) in
          let parts : Holds (area_after t n cell) p × (place_along (cut_after t n).boundary.axis p < (cut_after t n).boundary.at) =
          below_holds _ _ p runs held in
          let leaf : cell ≡ leaf_after t n p = ih cell cell_there parts.0 in
          elim (leaf_step t n p) [
            | goes _ g _ ↦ absurd (omega (arith, g, parts.1))
            | stays_below _ _ to ↦ e ∙ leaf ∙ sym to
            | stays_apart apart _ ↦ absurd (apart leaf)
          ]
      | is_other w other is ↦
          let leaf : c ≡ leaf_after t n p = ih c w (subst (λ (a : Area). Holds a p) is h) in
          elim (leaf_step t n p) [
            | goes cut _ _ ↦ absurd (other (leaf ∙ sym cut))
            | stays_below cut _ _ ↦ absurd (other (leaf ∙ sym cut))
            | stays_apart _ to ↦ leaf ∙ sym to
          ]
    ]

-- each area lies in the space
pub area_inside : (t : Division) (n c : ℕ) (p : Pos) → CellsWereThere t n → ProperAfter t n → c ≤ n → Holds (area_after t n c) p →
    Holds (whole t) p
area_inside t zero c p there proper within h = h
area_inside t (suc n) c p there proper within h =
    let cell : ℕ = (cut_after t n).cell in
    let cell_there : cell ≤ n = there n (omega arith) in
    let runs : RunsThrough (cut_after t n).boundary (area_after t n cell) = (proper_step t n cell_there proper).1 in
    let ih : (k : ℕ) → k ≤ n → Holds (area_after t n k) p → Holds (whole t) p =
    λ k w held. area_inside t n k p (there_before t n there) (proper_before t n cell_there proper) w held in
    elim (area_step t n c within) [
      | is_new e is ↦ ih cell cell_there (above_holds _ _ p runs (subst (λ (a : Area). Holds a p) is h)).0
      | is_cut w e is ↦ ih cell cell_there
          (below_holds _ _ p runs (subst (λ (k : ℕ). Holds (below (area_after t n k) (cut_after t n).boundary) p) e
          (subst (λ (a : Area). Holds a p) is h))).0
      | is_other w other is ↦ ih c w (subst (λ (a : Area). Holds a p) is h)
    ]

there_down : (t : Division) (n k : ℕ) → CellsWereThere t (n + k) → CellsWereThere t n
there_down t n k there = λ j l. there j (omega arith)

-- what was proper after more cuts was so before
pub proper_down : (t : Division) (n k : ℕ) → CellsWereThere t (n + k) → ProperAfter t (n + k) → ProperAfter t n
proper_down t n zero there proper = subst (ProperAfter t) (omega arith) proper
proper_down t n (suc k) there proper =
    let more : n + suc k ≡ suc (n + k) = omega arith in
    let proper' : ProperAfter t (suc (n + k)) = subst (ProperAfter t) more proper in
    proper_down t n k (λ j l. there j (omega arith)) (proper_before t (n + k) (there (n + k) (omega arith)) proper')

pub tree_proper : (t : Division) (n : ℕ) → IsTree t → n ≤ length t.cuts → ProperAfter t n
tree_proper t n tree within =
    let all : n + (length t.cuts - n) ≡ length t.cuts = omega arith in
    let proper : ProperAfter t (length t.cuts) = λ c w. tree.none_empty c (omega arith) in
    proper_down t n (length t.cuts - n) (λ j l. tree.cell_was_there j (omega arith)) (subst (ProperAfter t) (sym all) proper)

pub divided_proper : (t : Division) (b : ℕ) → IsTree t → HasBoundary t b → IsProper (area_divided_by t b)
divided_proper t b tree there =
    let from : 1 ≤ b = there.from_one in
    let to : b < cells_of t = there.to_last in
    tree_proper t (b - 1) tree (omega arith) (cut_after t (b - 1)).cell (tree.cell_was_there (b - 1) (omega arith))

-- a position's cell: its area holds the position, and no other cell's does
pub record IsLeaf (t : Division) (p : Pos) (leaf : ℕ) : Type 0 where
  pub cell : leaf < cells_of t
  pub holds : Holds (area t leaf) p
  pub only : (c : ℕ) → c < cells_of t → Holds (area t c) p → c ≡ leaf

pub leaf_at_is : (t : Division) (p : Pos) → IsTree t → IsInSpace t p → IsLeaf t p (leaf_at t p)
leaf_at_is t p tree inside = record {
  cell = omega (arith, leaf_within t (length t.cuts) p);
  holds =
      leaf_holds t (length t.cuts) p tree.cell_was_there
      (record { from_x = omega arith; to_x = inside.x_inside; from_z = omega arith; to_z = inside.z_inside });
  only = λ c within held. leaf_only t (length t.cuts) c p tree.cell_was_there (λ k w. tree.none_empty k (omega arith)) (omega arith) held;
}

pub tree_inside : (t : Division) (c : ℕ) (p : Pos) → IsTree t → c < cells_of t → Holds (area t c) p → IsInSpace t p
tree_inside t c p tree within held =
    let inside : Holds (whole t) p =
    area_inside t (length t.cuts) c p tree.cell_was_there (λ k w. tree.none_empty k (omega arith)) (omega arith) held in
    record { x_inside = inside.to_x; z_inside = inside.to_z }
