-- Trees that have the same cuts.
use Rattle.std.proofs.Common.{◌≡◌, ◌-◌, ◌<◌, ◌≤◌, ℕ, suc, Bool, true, false, cond, None, refl, sym, ◌∙◌, ap, arith}
use Rattle.std.specs.Prelude.{slice_get, ◌==◌}
use Rattle.seam_tree.specs.Division.{Division, cells_of, cut_number}
use Rattle.seam_judge_data.proofs.Lists.{same_by_gets}

cut_is : (t : Division) (k : ℕ) → cut_number t (suc k) ≡ slice_get t.cuts k
cut_is t k = by (suc k == 0) refl
  where
    by : (b : Bool) → (suc k == 0) ≡ b → cond b None (slice_get t.cuts (suc k - 1)) ≡ slice_get t.cuts k
    by true at = let none : suc k ≡ 0 = grind (arith, at) in absurd (omega (arith, none))
    by false at =
        let before : suc k - 1 ≡ k = omega arith in
        ap (slice_get t.cuts) before

pub same_trees : (s t : Division) → s.size ≡ t.size → cells_of s ≡ cells_of t →
    ((k : ℕ) → 1 ≤ k → k < cells_of s → cut_number s k ≡ cut_number t k) → s ≡ t
same_trees s t size cells each =
    let cuts =
    same_by_gets s.cuts t.cuts (omega (arith, cells))
    (λ k within. sym (cut_is s k) ∙ each (suc k) (omega arith) (omega (arith, within)) ∙ cut_is t k) in
    λ i. record { size = size i; cuts = cuts i }
