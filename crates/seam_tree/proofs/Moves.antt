-- What a shift changes, for each cell and boundary.
use Rattle.std.proofs.Common.{◌≡◌, ◌≢◌, ◌⊎◌, ℕ, zero, suc, ◌+◌, ◌-◌, ◌≤◌, length, refl, sym, ◌∙◌, ap, subst, arith, inl, inr}
use Rattle.std.specs.Option.{option_map}
use Rattle.seam_geo.specs.Rect.{Area}
use Rattle.seam_tree.specs.declared.boundary.Axis.{Axis}
use Rattle.seam_tree.specs.declared.boundary.Axis.TheVariants.{X, Z}
use Rattle.seam_tree.specs.declared.cut.Cut.{Cut}
use Rattle.seam_tree.specs.Boundary.{across, below, above, RunsThrough, LiesWithin}
use Rattle.seam_tree.specs.Division.{Division, area_after, area_divided_by, leaf_after, cut_after, cells_of, cell_cut_by, cut_number}
use Rattle.seam_tree.specs.Division.{IsTree, HasBoundary}
use Rattle.seam_tree.specs.Change.{with_place, MovesBoundary, CameBy, as_it_was, by_cut, by_shift}
use Rattle.seam_tree.proofs.Steps.{is_new, is_cut, is_other, area_step, same_or_not}
use Rattle.seam_tree.proofs.Padded.{length_cuts_moved}
use Rattle.seam_tree.proofs.Agree.{area_agree}
use Rattle.seam_tree.proofs.Areas.{tree_proper, proper_step}
use Rattle.seam_tree.proofs.Changes.{cut_moved_other, agree_with_place, cut_number_moved, cut_number_unmoved, option_moved_boundary}
use Rattle.seam_tree.proofs.Changes.{option_moved_cell, leaf_moved, cells_with_cut, get_or_moved_cell}

pub within_refl : (a : Area) → LiesWithin a a
within_refl a = record { low_x = omega arith; low_z = omega arith; high_x = omega arith; high_z = omega arith }

within_trans : (a b c : Area) → LiesWithin a b → LiesWithin b c → LiesWithin a c
within_trans a b c v w = record {
  low_x = omega (arith, v.low_x, w.low_x);
  low_z = omega (arith, v.low_z, w.low_z);
  high_x = omega (arith, v.high_x, w.high_x);
  high_z = omega (arith, v.high_z, w.high_z);
}

below_within_along : (axis : Axis) (a : Area) (at : ℕ) → RunsThrough (across axis at) a → LiesWithin (below a (across axis at)) a
below_within_along X a at runs =
    record { low_x = omega arith; low_z = omega arith; high_x = omega (arith, runs.to_high); high_z = omega arith }
below_within_along Z a at runs =
    record { low_x = omega arith; low_z = omega arith; high_x = omega arith; high_z = omega (arith, runs.to_high) }

above_within_along : (axis : Axis) (a : Area) (at : ℕ) → RunsThrough (across axis at) a → LiesWithin (above a (across axis at)) a
above_within_along X a at runs =
    record { low_x = omega (arith, runs.from_low); low_z = omega arith; high_x = omega arith; high_z = omega arith }
above_within_along Z a at runs =
    record { low_x = omega arith; low_z = omega (arith, runs.from_low); high_x = omega arith; high_z = omega arith }

-- a cell after one more cut
pub area_of_new : (t : Division) (n : ℕ) → area_after t (suc n) (suc n)
    ≡ above (area_after t n (cut_after t n).cell) (cut_after t n).boundary
area_of_new t n =
    elim (area_step t n (suc n) (omega arith)) [
      | is_new _ e ↦ e
      | is_cut w _ _ ↦ absurd (omega arith)
      | is_other w _ _ ↦ absurd (omega arith)
    ]

pub area_of_cut : (t : Division) (n : ℕ) → (cut_after t n).cell ≤ n →
    area_after t (suc n) (cut_after t n).cell ≡ below (area_after t n (cut_after t n).cell) (cut_after t n).boundary
area_of_cut t n there =
    elim (area_step t n (cut_after t n).cell (omega arith)) [
      | is_new e _ ↦ absurd (omega arith)
      | is_cut _ _ e ↦ e
      | is_other _ other _ ↦ absurd (other refl)
    ]

pub area_of_other : (t : Division) (n c : ℕ) → c ≤ n → c ≢ (cut_after t n).cell → area_after t (suc n) c ≡ area_after t n c
area_of_other t n c within other =
    elim (area_step t n c (omega arith)) [
      | is_new e _ ↦ absurd (omega arith)
      | is_cut _ is _ ↦ absurd (other is)
      | is_other _ _ e ↦ e
    ]

-- the two parts of a cell lie within it
new_within : (t : Division) (n : ℕ) → RunsThrough (cut_after t n).boundary (area_after t n (cut_after t n).cell) →
    LiesWithin (area_after t (suc n) (suc n)) (area_after t n (cut_after t n).cell)
new_within t n runs =
    subst (λ (a : Area). LiesWithin a (area_after t n (cut_after t n).cell)) (sym (area_of_new t n))
    (above_within_along (cut_after t n).boundary.axis _ (cut_after t n).boundary.at runs)

cut_within : (t : Division) (n : ℕ) → (cut_after t n).cell ≤ n →
    RunsThrough (cut_after t n).boundary (area_after t n (cut_after t n).cell) →
    LiesWithin (area_after t (suc n) (cut_after t n).cell) (area_after t n (cut_after t n).cell)
cut_within t n there runs =
    subst (λ (a : Area). LiesWithin a (area_after t n (cut_after t n).cell)) (sym (area_of_cut t n there))
    (below_within_along (cut_after t n).boundary.axis _ (cut_after t n).boundary.at runs)

-- a cell keeps its area, or lies within the divided one
abbrev KeepsOrWithin : Division → ℕ → ℕ → ℕ → ℕ → Type 0
KeepsOrWithin t b at n c = (area_after (with_place t b at) n c ≡ area_after t n c) ⊎ LiesWithin (area_after t n c) (area_divided_by t b)

moved_here : (t : Division) (b at n c : ℕ) → n ≡ b - 1 → (cut_after t n).cell ≤ n →
    RunsThrough (cut_after t n).boundary (area_after t n (cut_after t n).cell) →
    (cut_after (with_place t b at) n).cell ≡ (cut_after t n).cell → c ≤ suc n → KeepsOrWithin t b at (suc n) c
moved_here t b at n c is there runs same_cell within =
    let divided : area_after t n (cut_after t n).cell ≡ area_divided_by t b = ap (λ (k : ℕ). area_after t k (cut_after t k).cell) is in
    elim (same_or_not c (suc n)) [
      | inl e ↦ subst (KeepsOrWithin t b at (suc n)) (sym e)
          (inr (subst (LiesWithin (area_after t (suc n) (suc n))) divided (new_within t n runs)))
      | inr old ↦ elim (same_or_not c (cut_after t n).cell) [
        | inl e ↦ subst (KeepsOrWithin t b at (suc n)) (sym e)
            (inr (subst (LiesWithin (area_after t (suc n) (cut_after t n).cell)) divided (cut_within t n there runs)))
        | inr other ↦
            let c_there : c ≤ n = omega arith in
            inl (area_of_other (with_place t b at) n c c_there (λ e. other (e ∙ same_cell))
            ∙ area_agree (with_place t b at) t n (agree_with_place t b at n (omega arith)) c ∙ sym (area_of_other t n c c_there other))
      ]
    ]

moved_later : (t : Division) (b at n c : ℕ) → cut_after (with_place t b at) n ≡ cut_after t n → (cut_after t n).cell ≤ n →
    RunsThrough (cut_after t n).boundary (area_after t n (cut_after t n).cell)
    → ((k : ℕ) → k ≤ n → KeepsOrWithin t b at n k) → c ≤ suc n → KeepsOrWithin t b at (suc n) c
moved_later t b at n c same there runs before within =
    let u : Division = with_place t b at in
    let parent : ℕ = (cut_after t n).cell in
    elim (same_or_not c (suc n)) [
      | inl e ↦ subst (KeepsOrWithin t b at (suc n)) (sym e) (elim (before parent there) [
        | inl kept ↦ inl (area_of_new u n ∙ ap (λ (x : Cut). above (area_after u n x.cell) x.boundary) same
            ∙ ap (λ (a : Area). above a (cut_after t n).boundary) kept ∙ sym (area_of_new t n))
        | inr w ↦ inr (within_trans _ _ _ (new_within t n runs) w)
      ])
      | inr old ↦ elim (same_or_not c parent) [
        | inl e ↦ subst (KeepsOrWithin t b at (suc n)) (sym e) (elim (before parent there) [
          | inl kept ↦
              let cut : area_after u (suc n) parent ≡ below (area_after u n parent) (cut_after t n).boundary =
              subst (λ (x : Cut). area_after u (suc n) x.cell ≡ below (area_after u n x.cell) x.boundary) same
              (area_of_cut u n (subst (λ (x : Cut). x.cell ≤ n) (sym same) there)) in
              inl (cut ∙ ap (λ (a : Area). below a (cut_after t n).boundary) kept ∙ sym (area_of_cut t n there))
          | inr w ↦ inr (within_trans _ _ _ (cut_within t n there runs) w)
        ])
        | inr other ↦
            let c_there : c ≤ n = omega arith in
            elim (before c c_there) [
              | inl kept ↦ inl (area_of_other u n c c_there (λ e. other (e ∙ ap (λ (x : Cut). x.cell) same)) ∙ kept
                  ∙ sym (area_of_other t n c c_there other))
              | inr w ↦ inr (subst (λ (a : Area). LiesWithin a (area_divided_by t b)) (sym (area_of_other t n c c_there other)) w)
            ]
      ]
    ]

area_moved : (t : Division) (b at : ℕ) → IsTree t → HasBoundary t b → (n : ℕ) → n ≤ length t.cuts → (c : ℕ) → c ≤ n →
    KeepsOrWithin t b at n c
area_moved t b at tree there zero within c c_within = inl refl
area_moved t b at tree there (suc n) within c c_within =
    let cut_there : (cut_after t n).cell ≤ n = tree.cell_was_there n (omega arith) in
    let runs : RunsThrough (cut_after t n).boundary (area_after t n (cut_after t n).cell) =
    (proper_step t n cut_there (tree_proper t (suc n) tree within)).1 in
    elim (same_or_not n (b - 1)) [
      | inl e ↦ moved_here t b at n c e cut_there runs (get_or_moved_cell t.cuts (b - 1) at n) c_within
      | inr other ↦ moved_later t b at n c (cut_moved_other t b at n other) cut_there runs (area_moved t b at tree there n (omega arith))
          c_within
    ]

pub with_place_moves : (t : Division) (b at : ℕ) → IsTree t → HasBoundary t b → MovesBoundary t (with_place t b at) b at
with_place_moves t b at tree there = record {
  size = refl;
  cells = ap (λ (n : ℕ). n + 1) (length_cuts_moved t.cuts (b - 1) at);
  boundary = ap (option_map (λ (c : Cut). c.boundary)) (cut_number_moved t b at) ∙ option_moved_boundary (cut_number t b) at;
  other_boundaries = λ k other. ap (option_map (λ (c : Cut). c.boundary)) (cut_number_unmoved t b at k there.from_one other);
  cuts = λ k. elim (same_or_not k b) [
    | inl e ↦ ap (cell_cut_by (with_place t b at)) e ∙ ap (option_map (λ (c : Cut). c.cell)) (cut_number_moved t b at)
        ∙ option_moved_cell (cut_number t b) at ∙ ap (cell_cut_by t) (sym e)
    | inr other ↦ ap (option_map (λ (c : Cut). c.cell)) (cut_number_unmoved t b at k there.from_one other)
  ];
  areas = λ c within.
      elim (area_moved t b at tree there (length t.cuts) (omega arith) c (omega arith)) [
        | inl e ↦ inl (ap (λ (n : ℕ). area_after (with_place t b at) n c) (length_cuts_moved t.cuts (b - 1) at) ∙ e)
        | inr w ↦ inr w
      ];
  leaves = λ p inside outside.
      ap (λ (n : ℕ). leaf_after (with_place t b at) n p) (length_cuts_moved t.cuts (b - 1) at)
      ∙ leaf_moved t b at p there tree.cell_was_there
      (record { from_x = omega arith; to_x = inside.x_inside; from_z = omega arith; to_z = inside.z_inside }) outside (length t.cuts)
      (omega arith);
}

-- what came by cuts and shifts has the first tree's cells
pub came_cells : (t u : Division) → CameBy t u → (cells_of t ≤ cells_of u) × (u.size ≡ t.size)
came_cells t _ as_it_was = (omega arith, refl)
came_cells t _ (by_cut u cell b before) =
    let ih : (cells_of t ≤ cells_of u) × (u.size ≡ t.size) = came_cells t u before in
    (omega (arith, ih.0, cells_with_cut u cell b), ih.1)
came_cells t _ (by_shift u b at before) =
    let ih : (cells_of t ≤ cells_of u) × (u.size ≡ t.size) = came_cells t u before in
    (omega (arith, ih.0, length_cuts_moved u.cuts (b - 1) at), ih.1)
