-- Entities that enter one after another.
use Rattle.std.proofs.Common.{◌≡◌, ℕ, eqb, List, ◌∷◌, Some, refl, sym, ap, ◌∙◌, subst}
use Rattle.std.specs.List.{IsDistinct, list_any}
use Rattle.std.specs.Map.{keys_of, lookup}
use Rattle.seam_view.specs.declared.Seen.{Seen}
use Rattle.seam_view.specs.declared.Look.{Look}
use Rattle.seam_view.specs.declared.Look.TheVariants.{Enter}
use Rattle.seam_view.specs.Replica.{Replica, SetsAreIn, placed, seen_of, after_showing, after_look, after_looks}
use Rattle.seam_view.specs.Run.{with_lists, AreKept}
use Rattle.seam_view.proofs.Kept.{once_placed}
use Rattle.seam_view.proofs.EnterOrder.{lookup_placed}
use Rattle.seam_view.proofs.Shown.{shown_when_entered}
use Rattle.seam_view.proofs.Room.{sets_when_more, in_placed}

pub none_kept : (known : List Seen) (es : List (ℕ × ℕ)) (looks : List Look) → IsDistinct eqb (keys_of es) → AreKept known es looks es looks
none_kept known es looks once = record { once = once; same = λ r ls. refl; leaves = refl; sets = λ h. h }

-- one more has entered
module _ (known : List Seen) (xs new : List (ℕ × ℕ)) (s : Seen) (is : seen_of s.entity known ≡ Some s)
    (shown : new ≡ placed s.entity s.version xs) where
  after_one : (r : Replica) (ls : List (ℕ × ℕ)) → with_lists r new ls ≡ after_look known (with_lists r xs ls) (Enter s.entity)
  after_one r ls =
      let e = s.entity in
      let versions =
      shown_when_entered xs new ls e s.version (λ q. ap (lookup (eqb q)) shown ∙ lookup_placed e s.version q xs) in
      (λ i. record { radius = r.radius; hysteresis = r.hysteresis; entries = shown i; shown = versions i })
      ∙ sym (ap (after_showing (with_lists r xs ls) e) is)

  pub one_more_kept : (es : List (ℕ × ℕ)) (looks rest : List Look) → AreKept known es looks xs (Enter s.entity ∷ rest) →
      AreKept known es looks new rest
  one_more_kept es looks rest kept =
      let e = s.entity in
      let v = s.version in
      record {
        once = subst (λ ys. IsDistinct eqb (keys_of ys)) (sym shown) (once_placed e v xs kept.once);
        same = λ r ls. ap (λ q. after_looks known q rest) (after_one r ls) ∙ kept.same r ls;
        leaves = kept.leaves;
        sets = λ h.
            subst (λ ys. SetsAreIn (λ q. list_any (λ p. eqb q p.0) ys) rest) (sym shown)
            (sets_when_more (λ q. list_any (λ p. eqb q p.0) xs) (λ q. list_any (λ p. eqb q p.0) (placed e v xs)) (λ q. in_placed e v q xs)
            rest (kept.sets h));
      }
