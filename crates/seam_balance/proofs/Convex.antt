-- The places at which no cell's area is empty have no gap between them.
use Rattle.std.proofs.Common.{◌≡◌, ◌≢◌, ◌⊎◌, ℕ, zero, suc, ◌-◌, ◌<◌, ◌≤◌, List, length, get_or, refl, sym, ◌∙◌, ap, subst, arith, inl, inr}
use Rattle.std.proofs.Common.{[], ◌∷◌}
use Rattle.std.proofs.lemmas.Bool.{cases_eq}
use Rattle.seam_geo.specs.Rect.{Area, IsProper}
use Rattle.seam_tree.specs.declared.boundary.Axis.{Axis}
use Rattle.seam_tree.specs.declared.boundary.Axis.TheVariants.{X, Z}
use Rattle.seam_tree.specs.declared.boundary.Boundary.{Boundary}
use Rattle.seam_tree.specs.declared.cut.Cut.{Cut}
use Rattle.seam_tree.specs.Boundary.{across, below, above, RunsThrough, LiesWithin}
use Rattle.seam_tree.specs.Division.{Division, area, area_after, cut_after, cells_of, no_cut, NoneEmpty, SomeEmpty, HasBoundary, IsTree}
use Rattle.seam_tree.specs.Division.{area_divided_by}
use Rattle.seam_tree.specs.Change.{with_place, cut_moved, cuts_moved}
use Rattle.seam_tree.proofs.Steps.{is_new, is_cut, is_other, area_step}
use Rattle.seam_tree.proofs.Padded.{length_cuts_moved}
use Rattle.seam_tree.proofs.Agree.{area_agree}
use Rattle.seam_tree.proofs.Changes.{get_or_moved_cell, cut_moved_other, cut_moved_here, agree_with_place}
use Rattle.seam_tree.proofs.Moves.{within_refl}
use Rattle.seam_tree.proofs.Filled.{not_empty_area}
use Rattle.seam_tree.proofs.Areas.{tree_proper, proper_step}

proper_within : (a b : Area) → LiesWithin a b → IsProper a → IsProper b
proper_within a b w proper =
    record { wide = omega (arith, w.low_x, w.high_x, proper.wide); deep = omega (arith, w.low_z, w.high_z, proper.deep) }

-- the lower part is the greater the further its boundary lies
below_within_along : (axis : Axis) (a b : Area) (at to : ℕ) → LiesWithin a b → at ≤ to →
    LiesWithin (below a (across axis at)) (below b (across axis to))
below_within_along X a b at to w le = record { low_x = w.low_x; low_z = w.low_z; high_x = le; high_z = w.high_z }
below_within_along Z a b at to w le = record { low_x = w.low_x; low_z = w.low_z; high_x = w.high_x; high_z = le }

-- and the upper part the nearer
above_within_along : (axis : Axis) (a b : Area) (at to : ℕ) → LiesWithin a b → to ≤ at →
    LiesWithin (above a (across axis at)) (above b (across axis to))
above_within_along X a b at to w le = record { low_x = le; low_z = w.low_z; high_x = w.high_x; high_z = w.high_z }
above_within_along Z a b at to w le = record { low_x = w.low_x; low_z = le; high_x = w.high_x; high_z = w.high_z }

-- the cut after n others, whichever the place
cut_cell : (t : Division) (b at n : ℕ) → (cut_after (with_place t b at) n).cell ≡ (cut_after t n).cell
cut_cell t b at n = get_or_moved_cell t.cuts (b - 1) at n

-- between two places each area holds what it holds at one of them
abbrev HoldsOne : Division → ℕ → ℕ → ℕ → ℕ → ℕ → ℕ → Type 0
HoldsOne t b low middle high n cell =
    LiesWithin (area_after (with_place t b low) n cell) (area_after (with_place t b middle) n cell)
    ⊎ LiesWithin (area_after (with_place t b high) n cell) (area_after (with_place t b middle) n cell)

-- the area after one more cut, by what the cut makes of it
new_area : (t : Division) (b at n : ℕ) → area_after (with_place t b at) (suc n) (suc n)
    ≡ above (area_after (with_place t b at) n (cut_after t n).cell) (cut_after (with_place t b at) n).boundary
new_area t b at n =
    elim (area_step (with_place t b at) n (suc n) (omega arith)) [
      | is_new _ e ↦ e ∙ ap (λ (c : ℕ). above (area_after (with_place t b at) n c) (cut_after (with_place t b at) n).boundary)
          (cut_cell t b at n)
      | is_cut w _ _ ↦ absurd (omega arith)
      | is_other w _ _ ↦ absurd (omega arith)
    ]

cut_area : (t : Division) (b at n : ℕ) → (cut_after t n).cell ≤ n →
    area_after (with_place t b at) (suc n) (cut_after t n).cell
    ≡ below (area_after (with_place t b at) n (cut_after t n).cell) (cut_after (with_place t b at) n).boundary
cut_area t b at n there =
    elim (area_step (with_place t b at) n (cut_after t n).cell (omega arith)) [
      | is_new e _ ↦ absurd (omega arith)
      | is_cut _ _ e ↦ e
      | is_other _ other _ ↦ absurd (other (sym (cut_cell t b at n)))
    ]

other_area : (t : Division) (b at n cell : ℕ) → cell ≤ n → cell ≢ (cut_after t n).cell →
    area_after (with_place t b at) (suc n) cell ≡ area_after (with_place t b at) n cell
other_area t b at n cell within other =
    elim (area_step (with_place t b at) n cell (omega arith)) [
      | is_new e _ ↦ absurd (omega arith)
      | is_cut _ is _ ↦ absurd (other (is ∙ cut_cell t b at n))
      | is_other _ _ e ↦ e
    ]

-- the moved cut itself: the new cell holds what it holds at the high place, the cut one what it holds at the low place
same_before : (t : Division) (b at to n cell : ℕ) → n ≤ b - 1 →
    area_after (with_place t b at) n cell ≡ area_after (with_place t b to) n cell
same_before t b at to n cell le =
    area_agree (with_place t b at) t n (agree_with_place t b at n le) cell
    ∙ sym (area_agree (with_place t b to) t n (agree_with_place t b to n le) cell)

abbrev place_of : Division → ℕ → ℕ → Boundary
place_of t n at = record { axis = (cut_after t n).boundary.axis; at = at }

boundary_here : (t : Division) (b at n : ℕ) → HasBoundary t b → n ≡ b - 1 → (cut_after (with_place t b at) n).boundary ≡ place_of t n at
boundary_here t b at n there is =
    subst (λ (k : ℕ). (cut_after (with_place t b at) k).boundary ≡ place_of t k at) (sym is)
    (ap (λ (c : Cut). c.boundary) (cut_moved_here t b at there))

boundary_other : (t : Division) (b at n : ℕ) → n ≢ b - 1 → (cut_after (with_place t b at) n).boundary ≡ (cut_after t n).boundary
boundary_other t b at n other = ap (λ (c : Cut). c.boundary) (cut_moved_other t b at n other)

within_by : {a b c d : Area} → a ≡ c → b ≡ d → LiesWithin c d → LiesWithin a b
within_by {a} {b} {c} {d} e f w = subst (λ (x : Area). LiesWithin x b) (sym e) (subst (λ (y : Area). LiesWithin c y) (sym f) w)

new_area_at : (t : Division) (b at n : ℕ) (x : Boundary) → (cut_after (with_place t b at) n).boundary ≡ x →
    area_after (with_place t b at) (suc n) (suc n) ≡ above (area_after (with_place t b at) n (cut_after t n).cell) x
new_area_at t b at n x is = new_area t b at n ∙ ap (λ (y : Boundary). above (area_after (with_place t b at) n (cut_after t n).cell) y) is

cut_area_at : (t : Division) (b at n : ℕ) (x : Boundary) → (cut_after t n).cell ≤ n → (cut_after (with_place t b at) n).boundary ≡ x →
    area_after (with_place t b at) (suc n) (cut_after t n).cell ≡ below (area_after (with_place t b at) n (cut_after t n).cell) x
cut_area_at t b at n x there is =
    cut_area t b at n there ∙ ap (λ (y : Boundary). below (area_after (with_place t b at) n (cut_after t n).cell) y) is

same_within : (t : Division) (b at to n cell : ℕ) → n ≤ b - 1 →
    LiesWithin (area_after (with_place t b at) n cell) (area_after (with_place t b to) n cell)
same_within t b at to n cell le =
    subst (λ (a : Area). LiesWithin (area_after (with_place t b at) n cell) a) (same_before t b at to n cell le) (within_refl _)

holds_here : (t : Division) (b low middle high n cell : ℕ) → HasBoundary t b → n ≡ b - 1 → low ≤ middle → middle ≤ high →
    (cut_after t n).cell ≤ n → cell ≤ suc n → HoldsOne t b low middle high (suc n) cell
holds_here t b low middle high n cell there is le_low le_high cut_there within =
    let parent : ℕ = (cut_after t n).cell in
    let axis : Axis = (cut_after t n).boundary.axis in
    let before : n ≤ b - 1 = omega arith in
    elim (cases_eq cell (suc n)) [
      | inl e ↦ subst (HoldsOne t b low middle high (suc n)) (sym e) (inr (within_by
          (new_area_at t b high n (place_of t n high) (boundary_here t b high n there is))
          (new_area_at t b middle n (place_of t n middle) (boundary_here t b middle n there is))
          (above_within_along axis _ _ high middle (same_within t b high middle n parent before) le_high)))
      | inr old ↦ elim (cases_eq cell parent) [
        | inl e ↦ subst (HoldsOne t b low middle high (suc n)) (sym e) (inl (within_by
            (cut_area_at t b low n (place_of t n low) cut_there (boundary_here t b low n there is))
            (cut_area_at t b middle n (place_of t n middle) cut_there (boundary_here t b middle n there is))
            (below_within_along axis _ _ low middle (same_within t b low middle n parent before) le_low)))
        | inr other ↦
            let cell_there : cell ≤ n = omega arith in
            inl (within_by (other_area t b low n cell cell_there other) (other_area t b middle n cell cell_there other)
            (same_within t b low middle n cell before))
      ]
    ]

below_within : (x : Boundary) (a b : Area) → LiesWithin a b → LiesWithin (below a x) (below b x)
below_within x a b w = below_within_along x.axis a b x.at x.at w (omega arith)

above_within : (x : Boundary) (a b : Area) → LiesWithin a b → LiesWithin (above a x) (above b x)
above_within x a b w = above_within_along x.axis a b x.at x.at w (omega arith)

-- a later cut keeps it so
holds_later : (t : Division) (b low middle high n cell : ℕ) → n ≢ b - 1 → (cut_after t n).cell ≤ n → cell ≤ suc n
    → ((c : ℕ) → c ≤ n → HoldsOne t b low middle high n c) → HoldsOne t b low middle high (suc n) cell
holds_later t b low middle high n cell not_here cut_there within before =
    let parent : ℕ = (cut_after t n).cell in
    let x : Boundary = (cut_after t n).boundary in
    elim (cases_eq cell (suc n)) [
      | inl e ↦ subst (HoldsOne t b low middle high (suc n)) (sym e) (elim (before parent cut_there) [
        | inl w ↦ inl (within_by (new_area_at t b low n x (boundary_other t b low n not_here))
            (new_area_at t b middle n x (boundary_other t b middle n not_here)) (above_within x _ _ w))
        | inr w ↦ inr (within_by (new_area_at t b high n x (boundary_other t b high n not_here))
            (new_area_at t b middle n x (boundary_other t b middle n not_here)) (above_within x _ _ w))
      ])
      | inr old ↦ elim (cases_eq cell parent) [
        | inl e ↦ subst (HoldsOne t b low middle high (suc n)) (sym e) (elim (before parent cut_there) [
          | inl w ↦ inl (within_by (cut_area_at t b low n x cut_there (boundary_other t b low n not_here))
              (cut_area_at t b middle n x cut_there (boundary_other t b middle n not_here)) (below_within x _ _ w))
          | inr w ↦ inr (within_by (cut_area_at t b high n x cut_there (boundary_other t b high n not_here))
              (cut_area_at t b middle n x cut_there (boundary_other t b middle n not_here)) (below_within x _ _ w))
        ])
        | inr other ↦
            let cell_there : cell ≤ n = omega arith in
            elim (before cell cell_there) [
              | inl w ↦ inl (within_by (other_area t b low n cell cell_there other) (other_area t b middle n cell cell_there other) w)
              | inr w ↦ inr (within_by (other_area t b high n cell cell_there other) (other_area t b middle n cell cell_there other) w)
            ]
      ]
    ]

holds_one : (t : Division) (b low middle high : ℕ) → HasBoundary t b → low ≤ middle → middle ≤ high → (n : ℕ) →
    ((k : ℕ) → k < n → (cut_after t k).cell ≤ k) → (cell : ℕ) → cell ≤ n → HoldsOne t b low middle high n cell
holds_one t b low middle high there le_low le_high zero cuts cell within = inl (same_within t b low middle 0 cell (omega arith))
holds_one t b low middle high there le_low le_high (suc n) cuts cell within =
    let before : (c : ℕ) → c ≤ n → HoldsOne t b low middle high n c =
    holds_one t b low middle high there le_low le_high n (λ k l. cuts k (omega arith)) in
    elim (cases_eq n (b - 1)) [
      | inl is ↦ holds_here t b low middle high n cell there is le_low le_high (cuts n (omega arith)) within
      | inr other ↦ holds_later t b low middle high n cell other (cuts n (omega arith)) within before
    ]

-- where no cell is empty at two places, none is between them
pub none_empty_between : (t : Division) (b low middle high : ℕ) → IsTree t → HasBoundary t b → low ≤ middle → middle ≤ high →
    NoneEmpty (with_place t b low) → NoneEmpty (with_place t b high) → NoneEmpty (with_place t b middle)
none_empty_between t b low middle high tree there le_low le_high at_low at_high cell within =
    let length_low : length (with_place t b low).cuts ≡ length t.cuts = length_cuts_moved t.cuts (b - 1) low in
    let length_middle : length (with_place t b middle).cuts ≡ length t.cuts = length_cuts_moved t.cuts (b - 1) middle in
    let length_high : length (with_place t b high).cuts ≡ length t.cuts = length_cuts_moved t.cuts (b - 1) high in
    let proper : IsProper (area_after (with_place t b middle) (length t.cuts) cell) =
    elim (holds_one t b low middle high there le_low le_high (length t.cuts) tree.cell_was_there cell (omega arith)) [
      | inl w ↦ proper_within _ _ w (subst (λ (n : ℕ). IsProper (area_after (with_place t b low) n cell)) length_low
          (at_low cell (omega arith)))
      | inr w ↦ proper_within _ _ w (subst (λ (n : ℕ). IsProper (area_after (with_place t b high) n cell)) length_high
          (at_high cell (omega arith)))
    ] in
    subst (λ (n : ℕ). IsProper (area_after (with_place t b middle) n cell)) (sym length_middle) proper

pub some_not_none : (t : Division) → SomeEmpty t → NoneEmpty t → ⊥
some_not_none t some none = not_empty_area (area t some.0) (none some.0 some.1) some.2

-- the boundary at its own place
cuts_own_place : (cuts : List Cut) (n : ℕ) → cuts_moved cuts n (get_or cuts n no_cut).boundary.at ≡ cuts
cuts_own_place [] n = refl
cuts_own_place (c ∷ cuts) zero = refl
cuts_own_place (c ∷ cuts) (suc n) = ap (λ (xs : List Cut). c ∷ xs) (cuts_own_place cuts n)

pub with_own_place : (t : Division) (b : ℕ) → with_place t b (cut_after t (b - 1)).boundary.at ≡ t
with_own_place t b = λ i. record { size = t.size; cuts = cuts_own_place t.cuts (b - 1) i }

pub own_place_none_empty : (t : Division) (b : ℕ) → IsTree t → NoneEmpty (with_place t b (cut_after t (b - 1)).boundary.at)
own_place_none_empty t b tree = subst NoneEmpty (sym (with_own_place t b)) tree.none_empty

-- an allowed place lies within the area that the boundary divides
pub allowed_runs : (t : Division) (b at : ℕ) → IsTree t → HasBoundary t b → IsTree (with_place t b at) →
    RunsThrough (record { axis = (cut_after t (b - 1)).boundary.axis; at = at }) (area_divided_by t b)
allowed_runs t b at tree there moved =
    let from : 1 ≤ b = there.from_one in
    let to : b < cells_of t = there.to_last in
    let same_length : length (with_place t b at).cuts ≡ length t.cuts = length_cuts_moved t.cuts (b - 1) at in
    let runs : RunsThrough (cut_after (with_place t b at) (b - 1)).boundary
    (area_after (with_place t b at) (b - 1) (cut_after (with_place t b at) (b - 1)).cell) =
    (proper_step (with_place t b at) (b - 1) (moved.cell_was_there (b - 1) (omega arith))
    (tree_proper (with_place t b at) (suc (b - 1)) moved (omega arith))).1 in
    let here : cut_after (with_place t b at) (b - 1) ≡ cut_moved (cut_after t (b - 1)) at = cut_moved_here t b at there in
    let before : (c : ℕ) → area_after (with_place t b at) (b - 1) c ≡ area_after t (b - 1) c =
    area_agree (with_place t b at) t (b - 1) (agree_with_place t b at (b - 1) (omega arith)) in
    subst (λ (a : Area). RunsThrough (place_of t (b - 1) at) a) (before (cut_after t (b - 1)).cell)
    (subst (λ (c : Cut). RunsThrough c.boundary (area_after (with_place t b at) (b - 1) c.cell)) here runs)
