-- The table of the cells' areas, filled cut after cut; and an area that is empty leaves one that is.
use Rattle.std.proofs.Common.{◌≡◌, ◌⊎◌, ℕ, zero, suc, ◌+◌, ◌-◌, ◌<◌, ◌≤◌, List, length, set, get_or, Option, Some, None}
use Rattle.std.proofs.Common.{refl, sym, ◌∙◌, ap, subst, arith, inl, inr}
use Rattle.std.specs.Option.{IfNone, IsSome}
use Rattle.std.proofs.lemmas.Bool.{cases_lt}
use Rattle.seam_geo.specs.Rect.{Area, IsProper}
use Rattle.seam_tree.specs.declared.boundary.Axis.{Axis}
use Rattle.seam_tree.specs.declared.boundary.Axis.TheVariants.{X, Z}
use Rattle.seam_tree.specs.Boundary.{across, below, above, RunsThrough, LeavesPartEmpty, IsEmptyArea}
use Rattle.seam_tree.specs.Division.{Division, area_after, cut_after, whole, SomeEmpty}
use Rattle.seam_tree.specs.Table.{table_after}
use Rattle.seam_tree.proofs.Steps.{is_new, is_cut, is_other, area_step, same_or_not}
use Rattle.seam_tree.proofs.Parts.{proper_below, proper_above}
use Rattle.seam_tree.proofs.Areas.{CellsWereThere, ProperAfter}
use Rattle.seam_tree.proofs.Tables.{table_at, table_step}
use Rattle.seam_tree.proofs.Moves.{area_of_new, area_of_cut, area_of_other}

-- the table is that after the first n cuts, and no area is empty
pub record IsFilled (t : Division) (n : ℕ) (areas : List Area) : Type 0 where
  pub table : areas ≡ table_after t n
  pub proper : ProperAfter t n

proper_after_cut : (t : Division) (n : ℕ) → (cut_after t n).cell ≤ n → ProperAfter t n
    → RunsThrough (cut_after t n).boundary (area_after t n (cut_after t n).cell) → ProperAfter t (suc n)
proper_after_cut t n there proper runs c within =
    elim (area_step t n c within) [
      | is_new _ e ↦ subst IsProper (sym e) (proper_above _ _ (proper (cut_after t n).cell there) runs)
      | is_cut old is e ↦ subst IsProper (sym e) (proper_below _ _ (proper c old)
          (subst (λ (k : ℕ). RunsThrough (cut_after t n).boundary (area_after t n k)) (sym is) runs))
      | is_other old _ e ↦ subst IsProper (sym e) (proper c old)
    ]

-- one more cut writes its two parts into the table
pub filled_step : (t : Division) (n : ℕ) (areas : List Area) (k m : ℕ) (lower upper : Area) → IsFilled t n areas → n < 15
    → (cut_after t n).cell ≤ n → k ≡ (cut_after t n).cell → m ≡ n + 1
    → RunsThrough (cut_after t n).boundary (area_after t n (cut_after t n).cell)
    → lower ≡ below (area_after t n (cut_after t n).cell) (cut_after t n).boundary
    → upper ≡ above (area_after t n (cut_after t n).cell) (cut_after t n).boundary
    → IsFilled t (n + 1) (set (set areas k lower) m upper)
filled_step t n areas k m lower upper f small there cell next runs low high =
    let suc_n : suc n ≡ n + 1 = omega arith in
    record {
      table =
          ap (λ (a : List Area). set (set a k lower) m upper) f.table
          ∙ table_step t n k m lower upper small there cell next low high;
      proper = subst (ProperAfter t) suc_n (proper_after_cut t n there f.proper runs);
    }

-- after the first n cuts some cell's area is empty
abbrev pub EmptyAfter : Division → ℕ → Type 0
EmptyAfter t n = (c : ℕ) × (c ≤ n) × IsEmptyArea (area_after t n c)

-- a space without positions
pub empty_whole : (t : Division) → (IsProper (whole t) → ⊥) → EmptyAfter t 0
empty_whole t not_proper =
    elim (cases_lt 0 t.size) [
      | inl l ↦ absurd (not_proper (record { wide = l; deep = l }))
      | inr g ↦ (0, omega arith, inl g)
    ]

part_of_empty_along : (a : Area) (axis : Axis) (at : ℕ) → IsEmptyArea a →
    IsEmptyArea (below a (across axis at)) ⊎ IsEmptyArea (above a (across axis at))
part_of_empty_along a X at (inl x) =
    elim (cases_lt a.low.x at) [ inl l ↦ inr (inl (omega arith)) | inr g ↦ inl (inl g) ]
part_of_empty_along a X at (inr z) = inl (inr z)
part_of_empty_along a Z at (inl x) = inl (inl x)
part_of_empty_along a Z at (inr z) =
    elim (cases_lt a.low.z at) [ inl l ↦ inr (inr (omega arith)) | inr g ↦ inl (inr g) ]

empty_part_along : (a : Area) (axis : Axis) (at : ℕ) → LeavesPartEmpty (across axis at) a →
    IsEmptyArea (below a (across axis at)) ⊎ IsEmptyArea (above a (across axis at))
empty_part_along a X at (inl low) = inl (inl low)
empty_part_along a X at (inr high) = inr (inl high)
empty_part_along a Z at (inl low) = inl (inr low)
empty_part_along a Z at (inr high) = inr (inr high)

parts_after : (t : Division) (n : ℕ) → (cut_after t n).cell ≤ n
    → IsEmptyArea (below (area_after t n (cut_after t n).cell) (cut_after t n).boundary)
    ⊎ IsEmptyArea (above (area_after t n (cut_after t n).cell) (cut_after t n).boundary)
    → EmptyAfter t (suc n)
parts_after t n there (inl lower) = ((cut_after t n).cell, omega arith, subst IsEmptyArea (sym (area_of_cut t n there)) lower)
parts_after t n there (inr upper) = (suc n, omega arith, subst IsEmptyArea (sym (area_of_new t n)) upper)

pub not_empty_area : (a : Area) → IsProper a → IsEmptyArea a → ⊥
not_empty_area a proper (inl x) = omega (arith, proper.wide, x)
not_empty_area a proper (inr z) = omega (arith, proper.deep, z)

not_empty : (t : Division) (n : ℕ) → ProperAfter t n → EmptyAfter t n → ⊥
not_empty t n proper (c, within, empty) = not_empty_area (area_after t n c) (proper c within) empty

-- where a boundary leaves a part of its cell empty, there is an empty area from then on
pub empty_by_cut : (t : Division) (n : ℕ) → (cut_after t n).cell ≤ n →
    LeavesPartEmpty (cut_after t n).boundary (area_after t n (cut_after t n).cell) → EmptyAfter t (suc n)
empty_by_cut t n there empty =
    parts_after t n there (empty_part_along (area_after t n (cut_after t n).cell) (cut_after t n).boundary.axis (cut_after t n).boundary.at
    empty)

empty_stays_once : (t : Division) (n : ℕ) → (cut_after t n).cell ≤ n → EmptyAfter t n → EmptyAfter t (suc n)
empty_stays_once t n there (c, within, empty) =
    elim (same_or_not c (cut_after t n).cell) [
      | inl is ↦ parts_after t n there (part_of_empty_along (area_after t n (cut_after t n).cell) (cut_after t n).boundary.axis
          (cut_after t n).boundary.at
          (subst (λ (k : ℕ). IsEmptyArea (area_after t n k)) is empty))
      | inr other ↦ (c, omega arith, subst IsEmptyArea (sym (area_of_other t n c within other)) empty)
    ]

empty_stays_by : (t : Division) (n k : ℕ) → CellsWereThere t (n + k) → EmptyAfter t n → EmptyAfter t (n + k)
empty_stays_by t n zero there empty = subst (EmptyAfter t) (omega arith) empty
empty_stays_by t n (suc k) there empty =
    let more : suc (n + k) ≡ n + suc k = omega arith in
    subst (EmptyAfter t) more (empty_stays_once t (n + k) (there (n + k) (omega arith))
    (empty_stays_by t n k (λ j l. there j (omega arith)) empty))

pub empty_stays : (t : Division) (n m : ℕ) → n ≤ m → CellsWereThere t m → EmptyAfter t n → EmptyAfter t m
empty_stays t n m le there empty =
    let all : n + (m - n) ≡ m = omega arith in
    subst (EmptyAfter t) all (empty_stays_by t n (m - n) (subst (CellsWereThere t) (sym all) there) empty)

-- what is read at a cell's place is its area
pub filled_at : (t : Division) (n : ℕ) (areas : List Area) (k c : ℕ) (d : Area) → IsFilled t n areas → n < 16 → k ≡ c → c ≤ n →
    get_or areas k d ≡ area_after t n c
filled_at t n areas k c d f small is within =
    ap (λ (a : List Area). get_or a k d) f.table
    ∙ ap (λ (j : ℕ). get_or (table_after t n) j d) is
    ∙ table_at t n c d (omega arith)

-- where no area is empty, the table is given
pub some_where_proper : (t : Division) (n : ℕ) (given : Option (List Area)) → ProperAfter t n → IfNone given (EmptyAfter t n) → IsSome given
some_where_proper t n None proper empty = absurd (not_empty t n proper empty)
some_where_proper t n (Some areas) proper empty = refl

-- where the table is not given, some area is empty
pub some_empty_unless_given : (t : Division) (given : Option (List Area)) → IfNone given (EmptyAfter t (length t.cuts)) →
    IfNone given (SomeEmpty t)
some_empty_unless_given t None empty = (empty.0, omega (arith, empty.1), empty.2)
some_empty_unless_given t (Some areas) empty = empty
