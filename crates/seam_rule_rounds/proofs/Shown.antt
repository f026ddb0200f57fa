-- At which versions others are shown in a round.
use Rattle.std.proofs.Common.{◌≡◌, ◌≤◌, ◌<◌, ◌⊎◌, ℕ, Bool, true, false, List, Some, refl, sym, ap, ◌∙◌, subst, inl, inr, arith}
use Rattle.std.proofs.Common.{length, length-append}
use Rattle.std.specs.Prelude.{nat_le}
use Rattle.std.proofs.lemmas.Bool.{true≢false}
use Rattle.std.proofs.lemmas.Bool.Decides.{nat_tests}
use Rattle.seam_defs.specs.declared.flags.Part.TheVariants as part
use Rattle.seam_rule_rounds.specs.Prelude.{Call, Create, GhostCopy, Header, created_as, version_of, has_changed_at, public_at, other_at}
use Rattle.seam_rule_rounds.specs.Prelude.{Standing, IsOther, IsShownAt, RoundData, IsRound}
use Rattle.seam_rule_rounds.proofs.Public.{at_most_unless, public_at_most, public_changed, public_last}

module _ (h : Header) (c : Create) (order : List Call) where
  -- no version past the public one and up to this is one of a change
  past_is_none : (v w : ℕ) → public_at h c order v < w → w ≤ v → (w ≡ 0) ⊎ (has_changed_at h part.Cell c order w ≡ true) → ⊥
  past_is_none v w low high (inl zero_) = omega (arith, low, zero_)
  past_is_none v w low high (inr changed) = true≢false (sym changed ∙ public_last h c order v w low high)

  -- public versions rise with versions
  rises : (v w : ℕ) → v ≤ w → public_at h c order v ≤ public_at h c order w
  rises v w up =
      at_most_unless (public_at h c order v) (public_at h c order w)
      (λ above. let most = public_at_most h c order v in
      past_is_none w (public_at h c order v) above (omega (arith, most, up)) (public_changed h c order v))

  -- at a public version it is the public version
  is_its_own : (v : ℕ) → public_at h c order (public_at h c order v) ≡ public_at h c order v
  is_its_own v =
      let most = public_at_most h c order (public_at h c order v) in
      let least =
      at_most_unless (public_at h c order v) (public_at h c order (public_at h c order v))
      (λ above. past_is_none (public_at h c order v) (public_at h c order v) above (omega arith) (public_changed h c order v)) in
      omega (arith, most, least)

module _ (h : Header) (s t : Standing) (e : ℕ) (copy : GhostCopy) where
  pub as_the_rules_say : IsOther h s t e copy → IsShownAt h s t e copy
  as_the_rules_say so =
      let order = t.orders part.Cell e in
      let version : copy.version ≡ public_at h so.made order so.version = ap (λ (k : GhostCopy). k.version) so.same in
      let up = rises h so.made order (version_of s.orders part.Cell so.made) so.version so.had.0 in
      let most = public_at_most h so.made order so.version in
      let last = so.had.1 in
      record {
        made = so.made;
        is = so.is;
        lived = so.lived;
        public = ap (public_at h so.made order) version ∙ is_its_own h so.made order so.version ∙ sym version;
        from_start = subst (λ (v : ℕ). public_at h so.made order (version_of s.orders part.Cell so.made) ≤ v) (sym version) up;
        up_to = subst (λ (v : ℕ). v ≤ version_of t.orders part.Cell so.made) (sym version) (omega (arith, most, last));
        same = so.same ∙ ap (other_at h so.made order) (sym version);
      }

  pub as_in_the_round : ((c : Create) → created_as s.book e ≡ Some c → version_of s.orders part.Cell c ≤ version_of t.orders part.Cell c) →
      IsShownAt h s t e copy → IsOther h s t e copy
  as_in_the_round grows so = by (nat_le began copy.version) refl
    where
      order : List Call
      order = t.orders part.Cell e

      began : ℕ
      began = version_of s.orders part.Cell so.made

      by : (b : Bool) → nat_le began copy.version ≡ b → IsOther h s t e copy
      by true is = record {
        made = so.made;
        is = so.is;
        lived = so.lived;
        version = copy.version;
        had = (grind (arith, nat_tests, is), so.up_to);
        same = so.same ∙ ap (other_at h so.made order) (sym so.public);
      }
      by false is =
          let below : copy.version < began = grind (arith, nat_tests, is) in
          let up = rises h so.made order copy.version began (omega (arith, below)) in
          let start = so.from_start in
          let public = so.public in
          let one : copy.version ≡ public_at h so.made order began = omega (arith, up, start, public) in
          record {
            made = so.made;
            is = so.is;
            lived = so.lived;
            version = began;
            had = (omega arith, grows so.made so.is);
            same = so.same ∙ ap (other_at h so.made order) one;
          }

-- no version falls in a round
pub versions_rise : (h : Header) (s t : Standing) (r : RoundData) → IsRound h s r t → (c : Create) →
    version_of s.orders part.Cell c ≤ version_of t.orders part.Cell c
versions_rise h s t r round c =
    let more = ap length (round.did.further c.entity) ∙ length-append (s.orders part.Cell c.entity) (round.did.done c.entity) in
    omega (arith, more)
