-- What was told of entities while that is what is known of them.
use Rattle.std.proofs.Common.{◌≡◌, ℕ, ◌∙◌, Bool, true, false, cond, eqb, Option, None, Some, refl, ap, sym, arith}
use Rattle.std.specs.Prelude.{◌≢◌}
use Rattle.std.specs.Ordering.{nat_cmp, is_eq, eq_by_cmp}
use Rattle.std.specs.Cmp.{nat_cmp_total, tied_itself}
use Rattle.std.specs.FinMap as table
use Rattle.std.proofs.lemmas.Bool.Decides.{nat_tests}
use Rattle.seam_node_steps.specs.Prelude.{Ghost, copy_in, GhostCopy, Here, RealView, Map, known_by}
use Rattle.seam_entity.specs.WitnessLooks.{other_of_real}
use Rattle.seam_cell_seen.specs.Known.{known_with}
use Rattle.seam_cell_told.specs.Told.{Told, told_of, AreAsKnown, AreAsKnownBut, AreStillAsKnown}

-- ---- a look, in which the real of the own entity is not among the others

module _ (h : Here) (reals : Map RealView) (ghosts : Map (Ghost GhostCopy)) (own : ℕ) (told : Told) where
  apart : (e : ℕ) → e ≢ own → eq_by_cmp nat_cmp e own ≡ false
  apart e other = grind (arith, nat_tests, other)

  -- what is told of others is known without the own real
  pub told_of_others : AreAsKnown (known_with h reals ghosts) told →
      (m : Map RealView) → m ≡ table.remove reals own → AreAsKnownBut own (known_with h m ghosts) told
  told_of_others are m out e c other at =
      ap (λ o. known_by h o (copy_in (table.get ghosts e)))
      (ap (λ n. table.get n e) out ∙ (table.get-remove nat_cmp_total reals own e
      ∙ ap (λ b. cond b None (table.get reals e)) (apart e other)))
      ∙ are e c at

  module _ (now : Told) (m : Map RealView) (out : m ≡ table.remove reals own)
      (are : AreAsKnown (known_with h reals ghosts) told) (still : AreStillAsKnown own (known_with h m ghosts) told now)
      (r q : RealView) (at : table.get reals own ≡ Some r) (alike : other_of_real h q ≡ other_of_real h r)
      (after : Map RealView) (put : after ≡ table.insert m own q) where
    by_entity : (t : Bool) (e : ℕ) (c : GhostCopy) → eqb e own ≡ t → told_of e now ≡ Some c → known_with h after ghosts e ≡ Some c
    by_entity true e c is told_it =
        let same : e ≡ own = grind (arith, nat_tests, is) in
        ap (known_with h after ghosts) same
        ∙ (ap (λ o. known_by h o (copy_in (table.get ghosts own)))
        (ap (λ n. table.get n own) put ∙ (table.get-insert nat_cmp_total m own q own
        ∙ ap (λ o. cond (is_eq o) (Some q) (table.get m own)) (tied_itself nat_cmp_total own)))
        ∙ (ap Some alike
        ∙ (sym (ap (λ o. known_by h o (copy_in (table.get ghosts own))) at)
        ∙ are own c (sym still.1 ∙ (ap (λ x. told_of x now) (sym same) ∙ told_it)))))
    by_entity false e c is told_it =
        let other : e ≢ own = grind (arith, nat_tests, is) in
        ap (λ o. known_by h o (copy_in (table.get ghosts e)))
        (ap (λ n. table.get n e) put ∙ (table.get-insert nat_cmp_total m own q e
        ∙ ap (λ b. cond b (Some q) (table.get m e)) (apart e other)))
        ∙ still.0 e c other told_it

    -- it is put back, and others see it as before
    pub told_after_look : AreAsKnown (known_with h after ghosts) now
    told_after_look e c told_it = by_entity (eqb e own) e c refl told_it
