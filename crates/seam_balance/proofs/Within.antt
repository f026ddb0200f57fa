-- The boundaries within a cell, one cut after another.
use Rattle.std.proofs.Common.{◌≡◌, ◌≢◌, ℕ, suc, ◌+◌, ◌-◌, ◌<◌, ◌≤◌, List, [], ◌∷◌, ◌++◌, length, drop, ap, ◌∙◌, arith}
use Rattle.std.proofs.Math.Seq.{drop-cons}
use Rattle.std.proofs.Math.ListN.{drop_of_length-le}
use Rattle.std.proofs.lemmas.Bool.Decides.{nat_tests}
use Rattle.seam_tree.specs.declared.cut.Cut.{Cut}
use Rattle.seam_tree.specs.Division.{Division, cells_of, cut_after, no_cut}
use Rattle.seam_balance.specs.Order.{boundaries_within}

-- those from a number on
abbrev pub within_from : Division → ℕ → ℕ → List ℕ
within_from t from cell = boundaries_within (drop (from - 1) t.cuts) from cell

next_cut : (t : Division) (from : ℕ) → 1 ≤ from → from < cells_of t →
    drop (from - 1) t.cuts ≡ cut_after t (from - 1) ∷ drop (from + 1 - 1) t.cuts
next_cut t from one there =
    let here : from - 1 < length t.cuts = omega arith in
    let next : suc (from - 1) ≡ from + 1 - 1 = omega arith in
    drop-cons t.cuts (from - 1) no_cut here ∙ ap (λ (n : ℕ). cut_after t (from - 1) ∷ drop n t.cuts) next

pub within_cut : (t : Division) (from cell : ℕ) → 1 ≤ from → from < cells_of t → (cut_after t (from - 1)).cell ≡ cell →
    within_from t from cell ≡ from ∷ (within_from t (from + 1) cell ++ within_from t (from + 1) from)
within_cut t from cell one there is =
    ap (λ (cuts : List Cut). boundaries_within cuts from cell) (next_cut t from one there) ∙ grind (arith, nat_tests)

pub within_other : (t : Division) (from cell : ℕ) → 1 ≤ from → from < cells_of t → (cut_after t (from - 1)).cell ≢ cell →
    within_from t from cell ≡ within_from t (from + 1) cell
within_other t from cell one there other =
    ap (λ (cuts : List Cut). boundaries_within cuts from cell) (next_cut t from one there) ∙ grind (arith, nat_tests)

-- after the last cut there are none
pub within_none : (t : Division) (from cell : ℕ) → cells_of t ≤ from → within_from t from cell ≡ []
within_none t from cell past =
    let all : length t.cuts ≤ from - 1 = omega arith in
    ap (λ (cuts : List Cut). boundaries_within cuts from cell) (drop_of_length-le t.cuts all)
