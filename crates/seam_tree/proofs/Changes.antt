-- What a cut and a shift change, and that a tree stays one.
use Rattle.std.proofs.Common.{◌≡◌, ◌≢◌, ℕ, zero, suc, ◌+◌, ◌-◌, ◌<◌, ◌≤◌, List, [], ◌∷◌, ◌++◌, length, get_or, slice_get, refl, sym, ◌∙◌}
use Rattle.std.proofs.Common.{ap, subst, arith, inl, inr, length-append, add-one, Option, Some, None}
use Rattle.std.specs.Option.{option_map}
use Rattle.std.proofs.lemmas.Bool.Decides.{nat_tests}
use Rattle.seam_geo.specs.declared.pos.Pos.{Pos}
use Rattle.seam_geo.specs.Rect.{Area, IsProper, Holds}
use Rattle.seam_tree.specs.declared.boundary.Boundary.{Boundary}
use Rattle.seam_tree.specs.declared.cut.Cut.{Cut}
use Rattle.seam_tree.specs.Boundary.{place_along, below, above, RunsThrough}
use Rattle.seam_tree.specs.Division.{Division, area, area_after, leaf_after, cut_after, whole, cells_of, cut_number, no_cut, IsTree}
use Rattle.seam_tree.specs.Division.{NoneEmpty, HasBoundary}
use Rattle.seam_tree.specs.Change.{with_cut, with_place, cut_moved, cuts_moved, CutsCell, LiesBetween, IsBetween}
use Rattle.seam_tree.proofs.Steps.{is_new, is_cut, is_other, area_step, goes, stays_below, stays_apart, leaf_step, same_or_not}
use Rattle.seam_tree.proofs.Parts.{proper_below, proper_above}
use Rattle.seam_tree.proofs.Areas.{CellsWereThere, leaf_holds}
use Rattle.seam_tree.proofs.Agree.{AgreeBelow, area_agree, leaf_agree_step}
use Rattle.seam_tree.proofs.Padded.{length_cuts_moved}

get_or_before : (cuts : List Cut) (c : Cut) (k : ℕ) → k < length cuts → get_or (cuts ++ c ∷ []) k no_cut ≡ get_or cuts k no_cut
get_or_before [] c k l = absurd (omega arith)
get_or_before (x ∷ cuts) c zero l = refl
get_or_before (x ∷ cuts) c (suc k) l = get_or_before cuts c k (omega arith)

get_or_last : (cuts : List Cut) (c : Cut) → get_or (cuts ++ c ∷ []) (length cuts) no_cut ≡ c
get_or_last [] c = refl
get_or_last (x ∷ cuts) c = get_or_last cuts c

slice_get_before : (cuts : List Cut) (c : Cut) (k : ℕ) → k ≢ length cuts → slice_get (cuts ++ c ∷ []) k ≡ slice_get cuts k
slice_get_before [] c zero other = absurd (other refl)
slice_get_before [] c (suc k) other = refl
slice_get_before (x ∷ cuts) c zero other = refl
slice_get_before (x ∷ cuts) c (suc k) other = slice_get_before cuts c k (λ e. other (ap suc e))

slice_get_last : (cuts : List Cut) (c : Cut) → slice_get (cuts ++ c ∷ []) (length cuts) ≡ Some c
slice_get_last [] c = refl
slice_get_last (x ∷ cuts) c = slice_get_last cuts c

pub agree_with_cut : (t : Division) (cell : ℕ) (b : Boundary) → AgreeBelow (with_cut t cell b) t (length t.cuts)
agree_with_cut t cell b = record { size = refl; cuts = λ k l. get_or_before t.cuts (record { cell = cell; boundary = b }) k l }

pub cells_with_cut : (t : Division) (cell : ℕ) (b : Boundary) → length (with_cut t cell b).cuts ≡ suc (length t.cuts)
cells_with_cut t cell b = length-append t.cuts (record { cell = cell; boundary = b } ∷ []) ∙ add-one (length t.cuts)

-- the areas after a further cut
area_with_cut : (t : Division) (cell : ℕ) (b : Boundary) (c : ℕ) →
    area (with_cut t cell b) c ≡ area_after (with_cut t cell b) (suc (length t.cuts)) c
area_with_cut t cell b c = ap (λ (n : ℕ). area_after (with_cut t cell b) n c) (cells_with_cut t cell b)

pub last_cut : (t : Division) (cell : ℕ) (b : Boundary) →
    cut_after (with_cut t cell b) (length t.cuts) ≡ record { cell = cell; boundary = b }
last_cut t cell b = get_or_last t.cuts (record { cell = cell; boundary = b })

area_upper : (t : Division) (cell : ℕ) (b : Boundary) → cell < cells_of t → area (with_cut t cell b) (cells_of t) ≡ above (area t cell) b
area_upper t cell b there =
    let u : Division = with_cut t cell b in
    let n : ℕ = length t.cuts in
    let number : cells_of t ≡ suc n = add-one n in
    ap (area u) number ∙ area_with_cut t cell b (suc n) ∙ elim (area_step u n (suc n) (omega arith)) [
      | is_new _ e ↦ e ∙ ap (λ (c : Cut). above (area_after u n c.cell) c.boundary) (last_cut t cell b)
          ∙ ap (λ (a : Area). above a b) (area_agree u t n (agree_with_cut t cell b) cell)
      | is_cut w _ _ ↦ absurd (omega arith)
      | is_other w _ _ ↦ absurd (omega arith)
    ]

area_lower : (t : Division) (cell : ℕ) (b : Boundary) → cell < cells_of t → area (with_cut t cell b) cell ≡ below (area t cell) b
area_lower t cell b there =
    let u : Division = with_cut t cell b in
    let n : ℕ = length t.cuts in
    let is : (cut_after u n).cell ≡ cell = ap (λ (c : Cut). c.cell) (last_cut t cell b) in
    area_with_cut t cell b cell ∙ elim (area_step u n cell (omega arith)) [
      | is_new e _ ↦ absurd (omega arith)
      | is_cut _ _ e ↦ e ∙ ap (λ (c : Cut). below (area_after u n cell) c.boundary) (last_cut t cell b)
          ∙ ap (λ (a : Area). below a b) (area_agree u t n (agree_with_cut t cell b) cell)
      | is_other _ other _ ↦ absurd (other (sym is))
    ]

area_kept : (t : Division) (cell : ℕ) (b : Boundary) (c : ℕ) → c < cells_of t → c ≢ cell → area (with_cut t cell b) c ≡ area t c
area_kept t cell b c there other =
    let u : Division = with_cut t cell b in
    let n : ℕ = length t.cuts in
    let is : (cut_after u n).cell ≡ cell = ap (λ (x : Cut). x.cell) (last_cut t cell b) in
    area_with_cut t cell b c ∙ elim (area_step u n c (omega arith)) [
      | is_new e _ ↦ absurd (omega arith)
      | is_cut _ same _ ↦ absurd (other (same ∙ is))
      | is_other _ _ e ↦ e ∙ area_agree u t n (agree_with_cut t cell b) c
    ]

number_again : (n : ℕ) → n + 1 - 1 ≡ n
number_again n = omega arith

pub cut_number_from_one : (t : Division) (b : ℕ) → 1 ≤ b → cut_number t b ≡ slice_get t.cuts (b - 1)
cut_number_from_one t b from = grind (arith, nat_tests)

cut_number_new : (t : Division) (cell : ℕ) (b : Boundary) →
    cut_number (with_cut t cell b) (cells_of t) ≡ Some (record { cell = cell; boundary = b })
cut_number_new t cell b =
    let at : slice_get (with_cut t cell b).cuts (cells_of t - 1) ≡ Some (record { cell = cell; boundary = b }) =
    ap (slice_get (with_cut t cell b).cuts) (number_again (length t.cuts)) ∙ slice_get_last t.cuts (record { cell = cell; boundary = b }) in
    grind (arith, nat_tests, at)

cut_number_other : (t : Division) (cell : ℕ) (b : Boundary) (k : ℕ) → k ≢ cells_of t → cut_number (with_cut t cell b) k ≡ cut_number t k
cut_number_other t cell b zero other = refl
cut_number_other t cell b (suc k) other =
    cut_number_from_one (with_cut t cell b) (suc k) (omega arith)
    ∙ slice_get_before t.cuts (record { cell = cell; boundary = b }) (suc k - 1) (λ e. other (omega arith))
    ∙ sym (cut_number_from_one t (suc k) (omega arith))

pub with_cut_cuts : (t : Division) (cell : ℕ) (b : Boundary) → cell < cells_of t → CutsCell t (with_cut t cell b) cell b
with_cut_cuts t cell b there = record {
  size = refl;
  cells = omega (arith, cells_with_cut t cell b);
  lower = area_lower t cell b there;
  upper = area_upper t cell b there;
  other_cells = area_kept t cell b;
  boundary = ap (option_map (λ (c : Cut). c.boundary)) (cut_number_new t cell b);
  cut_cell = ap (option_map (λ (c : Cut). c.cell)) (cut_number_new t cell b);
  other_boundaries = λ k other. ap (option_map (λ (c : Cut). c.boundary)) (cut_number_other t cell b k other);
  other_cuts = λ k other. ap (option_map (λ (c : Cut). c.cell)) (cut_number_other t cell b k other);
}

none_empty_with_cut : (t : Division) (cell : ℕ) (b : Boundary) → NoneEmpty t → cell < cells_of t → RunsThrough b (area t cell) →
    NoneEmpty (with_cut t cell b)
none_empty_with_cut t cell b proper there runs c within =
    elim (same_or_not c (cells_of t)) [
      | inl e ↦ subst IsProper (sym (ap (area (with_cut t cell b)) e ∙ area_upper t cell b there))
          (proper_above (area t cell) b (proper cell there) runs)
      | inr old ↦ elim (same_or_not c cell) [
        | inl e ↦ subst IsProper (sym (ap (area (with_cut t cell b)) e ∙ area_lower t cell b there))
            (proper_below (area t cell) b (proper cell there) runs)
        | inr other ↦ let c_there : c < cells_of t = omega (arith, cells_with_cut t cell b) in
            subst IsProper (sym (area_kept t cell b c c_there other)) (proper c c_there)
      ]
    ]

pub with_cut_tree : (t : Division) (cell : ℕ) (b : Boundary) → IsTree t → cell < cells_of t → RunsThrough b (area t cell) →
    cells_of t < 16 → IsTree (with_cut t cell b)
with_cut_tree t cell b tree there runs room = record {
  size_from = tree.size_from;
  size_to = tree.size_to;
  cells_to = omega (arith, cells_with_cut t cell b);
  cell_was_there = λ n within. elim (same_or_not n (length t.cuts)) [
    | inl e ↦ let is : (cut_after (with_cut t cell b) n).cell ≡ cell =
        ap (λ (k : ℕ). (cut_after (with_cut t cell b) k).cell) e ∙ ap (λ (x : Cut). x.cell) (last_cut t cell b) in omega (arith, is)
    | inr other ↦
        let before : n < length t.cuts = omega (arith, cells_with_cut t cell b) in
        let is : (cut_after (with_cut t cell b) n).cell ≡ (cut_after t n).cell =
        ap (λ (x : Cut). x.cell) (get_or_before t.cuts (record { cell = cell; boundary = b }) n before) in
        omega (arith, is, tree.cell_was_there n before)
  ];
  none_empty = none_empty_with_cut t cell b tree.none_empty there runs;
}

pub get_or_moved_cell : (cuts : List Cut) (n at k : ℕ) → (get_or (cuts_moved cuts n at) k no_cut).cell ≡ (get_or cuts k no_cut).cell
get_or_moved_cell [] n at k = refl
get_or_moved_cell (c ∷ cuts) zero at zero = refl
get_or_moved_cell (c ∷ cuts) zero at (suc k) = refl
get_or_moved_cell (c ∷ cuts) (suc n) at zero = refl
get_or_moved_cell (c ∷ cuts) (suc n) at (suc k) = get_or_moved_cell cuts n at k

slice_get_moved_here : (cuts : List Cut) (n at : ℕ) →
    slice_get (cuts_moved cuts n at) n ≡ option_map (λ (c : Cut). cut_moved c at) (slice_get cuts n)
slice_get_moved_here [] n at = refl
slice_get_moved_here (c ∷ cuts) zero at = refl
slice_get_moved_here (c ∷ cuts) (suc n) at = slice_get_moved_here cuts n at

slice_get_moved_other : (cuts : List Cut) (n at k : ℕ) → k ≢ n → slice_get (cuts_moved cuts n at) k ≡ slice_get cuts k
slice_get_moved_other [] n at k other = refl
slice_get_moved_other (c ∷ cuts) zero at zero other = absurd (other refl)
slice_get_moved_other (c ∷ cuts) zero at (suc k) other = refl
slice_get_moved_other (c ∷ cuts) (suc n) at zero other = refl
slice_get_moved_other (c ∷ cuts) (suc n) at (suc k) other = slice_get_moved_other cuts n at k (λ e. other (ap suc e))

pub option_moved_boundary : (o : Option Cut) (at : ℕ) →
    option_map (λ (c : Cut). c.boundary) (option_map (λ (c : Cut). cut_moved c at) o)
    ≡ option_map (λ (was : Boundary). record { axis = was.axis; at = at }) (option_map (λ (c : Cut). c.boundary) o)
option_moved_boundary None at = refl
option_moved_boundary (Some c) at = refl

pub option_moved_cell : (o : Option Cut) (at : ℕ) →
    option_map (λ (c : Cut). c.cell) (option_map (λ (c : Cut). cut_moved c at) o) ≡ option_map (λ (c : Cut). c.cell) o
option_moved_cell None at = refl
option_moved_cell (Some c) at = refl

pub cut_number_moved : (t : Division) (b at : ℕ) →
    cut_number (with_place t b at) b ≡ option_map (λ (c : Cut). cut_moved c at) (cut_number t b)
cut_number_moved t zero at = refl
cut_number_moved t (suc b) at =
    cut_number_from_one (with_place t (suc b) at) (suc b) (omega arith)
    ∙ slice_get_moved_here t.cuts (suc b - 1) at
    ∙ ap (option_map (λ (c : Cut). cut_moved c at)) (sym (cut_number_from_one t (suc b) (omega arith)))

pub cut_number_unmoved : (t : Division) (b at k : ℕ) → 1 ≤ b → k ≢ b → cut_number (with_place t b at) k ≡ cut_number t k
cut_number_unmoved t b at zero from other = refl
cut_number_unmoved t b at (suc k) from other =
    cut_number_from_one (with_place t b at) (suc k) (omega arith)
    ∙ slice_get_moved_other t.cuts (b - 1) at (suc k - 1) (λ e. other (omega arith))
    ∙ sym (cut_number_from_one t (suc k) (omega arith))

pub with_place_tree : (t : Division) (b at : ℕ) → IsTree t → NoneEmpty (with_place t b at) → IsTree (with_place t b at)
with_place_tree t b at tree proper = record {
  size_from = tree.size_from;
  size_to = tree.size_to;
  cells_to = omega (arith, length_cuts_moved t.cuts (b - 1) at, tree.cells_to);
  cell_was_there = λ n within.
      let before : n < length t.cuts = omega (arith, length_cuts_moved t.cuts (b - 1) at) in
      omega (arith, get_or_moved_cell t.cuts (b - 1) at n, tree.cell_was_there n before);
  none_empty = proper;
}

pub get_or_moved_other : (cuts : List Cut) (n at k : ℕ) → k ≢ n → get_or (cuts_moved cuts n at) k no_cut ≡ get_or cuts k no_cut
get_or_moved_other [] n at k other = refl
get_or_moved_other (c ∷ cuts) zero at zero other = absurd (other refl)
get_or_moved_other (c ∷ cuts) zero at (suc k) other = refl
get_or_moved_other (c ∷ cuts) (suc n) at zero other = refl
get_or_moved_other (c ∷ cuts) (suc n) at (suc k) other = get_or_moved_other cuts n at k (λ e. other (ap suc e))

pub get_or_moved_here : (cuts : List Cut) (n at : ℕ) → n < length cuts →
    get_or (cuts_moved cuts n at) n no_cut ≡ cut_moved (get_or cuts n no_cut) at
get_or_moved_here [] n at within = absurd (omega arith)
get_or_moved_here (c ∷ cuts) zero at within = refl
get_or_moved_here (c ∷ cuts) (suc n) at within = get_or_moved_here cuts n at (omega arith)

-- at the moved cut itself, a position outside the strip goes where it went
leaf_moved_here : (t u : Division) (n at : ℕ) (p : Pos) → cut_after u n ≡ cut_moved (cut_after t n) at → CellsWereThere t n →
    Holds (whole t) p
    → (Holds (area_after t n (cut_after t n).cell) p →
    IsBetween (cut_after t n).boundary.at at (place_along (cut_after t n).boundary.axis p) → ⊥)
    → leaf_after u n p ≡ leaf_after t n p → leaf_after u (suc n) p ≡ leaf_after t (suc n) p
leaf_moved_here t u n at p moved there inside outside leaf =
    let cell : (cut_after u n).cell ≡ (cut_after t n).cell = ap (λ (c : Cut). c.cell) moved in
    let place : (cut_after u n).boundary.at ≡ at = ap (λ (c : Cut). c.boundary.at) moved in
    let along : place_along (cut_after u n).boundary.axis p ≡ place_along (cut_after t n).boundary.axis p =
    ap (λ (c : Cut). place_along c.boundary.axis p) moved in
    let held : (cut_after t n).cell ≡ leaf_after t n p → Holds (area_after t n (cut_after t n).cell) p =
    λ is. subst (λ (c : ℕ). Holds (area_after t n c) p) (sym is) (leaf_holds t n p there inside) in
    elim (leaf_step u n p) [
      | goes cut from e ↦ elim (leaf_step t n p) [
        | goes _ _ to ↦ e ∙ sym to
        | stays_below cut' below_place _ ↦ absurd (outside (held cut') (inr (omega (arith, place, along), below_place)))
        | stays_apart apart _ ↦ absurd (apart (sym cell ∙ cut ∙ leaf))
      ]
      | stays_below cut to_place e ↦ elim (leaf_step t n p) [
        | goes cut' from _ ↦ absurd (outside (held cut') (inl (from, omega (arith, place, along))))
        | stays_below _ _ to ↦ e ∙ leaf ∙ sym to
        | stays_apart apart _ ↦ absurd (apart (sym cell ∙ cut ∙ leaf))
      ]
      | stays_apart apart e ↦ elim (leaf_step t n p) [
        | goes cut' _ _ ↦ absurd (apart (cell ∙ cut' ∙ sym leaf))
        | stays_below cut' _ _ ↦ absurd (apart (cell ∙ cut' ∙ sym leaf))
        | stays_apart _ to ↦ e ∙ leaf ∙ sym to
      ]
    ]

pub leaf_moved : (t : Division) (b at : ℕ) (p : Pos) → HasBoundary t b → CellsWereThere t (length t.cuts) → Holds (whole t) p →
    ¬ LiesBetween t b at p
    → (n : ℕ) → n ≤ length t.cuts → leaf_after (with_place t b at) n p ≡ leaf_after t n p
leaf_moved t b at p has there inside outside zero within = refl
leaf_moved t b at p has there inside outside (suc n) within =
    let before : leaf_after (with_place t b at) n p ≡ leaf_after t n p = leaf_moved t b at p has there inside outside n (omega arith) in
    elim (same_or_not n (b - 1)) [
      | inl e ↦
          let moved : cut_after (with_place t b at) n ≡ cut_moved (cut_after t n) at =
          ap (λ (k : ℕ). get_or (cuts_moved t.cuts k at) n no_cut) (sym e) ∙ get_or_moved_here t.cuts n at (omega arith) in
          let outside_here : Holds (area_after t n (cut_after t n).cell) p →
          IsBetween (cut_after t n).boundary.at at (place_along (cut_after t n).boundary.axis p) → ⊥ =
          subst (λ (k : ℕ). Holds (area_after t k (cut_after t k).cell) p →
          IsBetween (cut_after t k).boundary.at at (place_along (cut_after t k).boundary.axis p) → ⊥) (sym e)
          (λ held between. outside (record { divided = held; between = between })) in
          leaf_moved_here t (with_place t b at) n at p moved (λ k l. there k (omega arith)) inside outside_here before
      | inr other ↦ leaf_agree_step (with_place t b at) t n p (get_or_moved_other t.cuts (b - 1) at n other) before
    ]

-- the other cuts stay, and the moved one has the new place
pub cut_moved_other : (t : Division) (b at k : ℕ) → k ≢ b - 1 → cut_after (with_place t b at) k ≡ cut_after t k
cut_moved_other t b at k other = get_or_moved_other t.cuts (b - 1) at k other

pub cut_moved_here : (t : Division) (b at : ℕ) → HasBoundary t b →
    cut_after (with_place t b at) (b - 1) ≡ cut_moved (cut_after t (b - 1)) at
cut_moved_here t b at there =
    let from : 1 ≤ b = there.from_one in
    let to : b < cells_of t = there.to_last in
    get_or_moved_here t.cuts (b - 1) at (omega arith)

pub agree_with_place : (t : Division) (b at n : ℕ) → n ≤ b - 1 → AgreeBelow (with_place t b at) t n
agree_with_place t b at n le = record { size = refl; cuts = λ k l. cut_moved_other t b at k (λ e. omega arith) }
