-- What is true of entities in a round, by the lists that the code has.
use Rattle.std.proofs.Common.{◌≡◌, ◌≤◌, ◌<◌, ℕ, Bool, true, false, List, length, map, Bor, None, Some, refl, sym, ap, ◌∙◌, subst, arith}
use Rattle.std.proofs.Common.{IsTrue, ◌↔◌, nat_lt}
use Rattle.std.proofs.lemmas.Bool.Decides.{nat_tests}
use Rattle.std.proofs.lemmas.List.{length-map}
use Rattle.std.proofs.lemmas.Option.{same_Some}
use Rattle.seam_rule_rounds.specs.Prelude.{own_of, State, Call, Create, GhostCopy, Header, created_as, entries, creates_of, was_dead, flat}
use Rattle.seam_rule_rounds.specs.Prelude.{properties, version_of, public_at, other_at, Standing, IsOwn, IsOther}
use Rattle.seam_defs.specs.declared.flags.Part.TheVariants as part
use Rattle.seam_rule_lines.proofs.InOrderLemmas.{found_entity}

-- where none before the last holds, one holds where the last does
pub last_decides : (P : ℕ → Type 0) (began n i : ℕ) (r : Bool) → began ≤ n → n ≤ i → ((v : ℕ) → began ≤ v → v < i → P v → ⊥) →
    (IsTrue r ↔ P n) → (IsTrue r ↔ ((v : ℕ) × (began ≤ v) × (v ≤ n) × P v))
last_decides P began n i r from up none decides = (
  (λ so. (n, from, omega arith, decides.0 so)),
  (λ (v, low, high, holds). by v low high holds (nat_lt v n) refl),
)
  where
    by : (v : ℕ) → began ≤ v → v ≤ n → P v → (b : Bool) → nat_lt v n ≡ b → IsTrue r
    by v low high holds true is =
        let below : v < n = grind (arith, nat_tests, is) in absurd (none v low (omega (arith, below, up)) holds)
    by v low high holds false is =
        let same : v ≡ n = grind (arith, nat_tests, is, high) in decides.1 (subst P same holds)

module _ (h : Header) (s t : Standing) (c : Create) (v : ℕ) (state : State) (calls former : List (Bor Call))
    (calls_are : map (λ x. x.now) calls ≡ t.orders part.Cell c.entity) (former_are : map (λ x. x.now) former ≡ s.orders part.Cell c.entity)
  where
    ended : length calls ≡ version_of t.orders part.Cell c
    ended = sym (length-map calls (λ x. x.now)) ∙ ap length calls_are

    began : length former ≡ version_of s.orders part.Cell c
    began = sym (length-map former (λ x. x.now)) ∙ ap length former_are

    pub own_decided : (own : State) (r : Bool) → length former ≤ v → v ≤ length calls →
        own ≡ own_of (properties h c) (flat h part.Cell c (map (λ x. x.now) calls) v) → (IsTrue r ↔ (state ≡ own)) →
        (IsTrue r ↔ IsOwn h s t c v state)
    own_decided own r low high own_is decides =
        let same = own_is ∙ ap (λ (os : List Call). own_of (properties h c) (flat h part.Cell c os v)) calls_are in (
          (λ so. ((subst (λ (n : ℕ). n ≤ v) began low, subst (λ (n : ℕ). v ≤ n) ended high), decides.0 so ∙ same)),
          (λ own_. decides.1 (own_.1 ∙ sym same)),
        )

    pub own_before : v < length former → (IsTrue false ↔ IsOwn h s t c v state)
    own_before low = ((λ never. absurd (cc)), (λ own_. let from = own_.0.0 in absurd (omega (arith, low, from, began))))

    pub own_after : length calls < v → (IsTrue false ↔ IsOwn h s t c v state)
    own_after high = ((λ never. absurd (cc)), (λ own_. let up = own_.0.1 in absurd (omega (arith, high, up, ended))))

module _ (h : Header) (s t : Standing) (e : ℕ) (copy : GhostCopy) where
  pub other_unmade : created_as s.book e ≡ None → (IsTrue false ↔ IsOther h s t e copy)
  other_unmade none = ((λ never. absurd (cc)), (λ so. let made = so.is in absurd (cc)))

  pub other_dead : was_dead s.book e ≡ true → (IsTrue false ↔ IsOther h s t e copy)
  other_dead dead = ((λ never. absurd (cc)), (λ so. let lived = so.lived in absurd (cc)))

  pub other_decided : (c : Create) (calls former : List (Bor Call)) (r : Bool) → created_as s.book e ≡ Some c → was_dead s.book e ≡ false →
      map (λ x. x.now) calls ≡ t.orders part.Cell e → map (λ x. x.now) former ≡ s.orders part.Cell c.entity →
      (IsTrue r ↔ ((v : ℕ) × (length former ≤ v) × (v ≤ length calls)
      × (copy ≡ other_at h c (map (λ x. x.now) calls) (public_at h c (map (λ x. x.now) calls) v)))) →
      (IsTrue r ↔ IsOther h s t e copy)
  other_decided c calls former r made lived calls_are former_are decides = (
    (λ so.
        let some = decides.0 so in record {
          made = c;
          is = made;
          lived = lived;
          version = some.0;
          had = (subst (λ (n : ℕ). n ≤ some.0) began some.1, subst (λ (n : ℕ). some.0 ≤ n) ended some.2);
          same = some.3 ∙ ap (λ (os : List Call). other_at h c os (public_at h c os some.0)) calls_are;
        }),
    (λ so. decides.1 (back so (same_Some so.made c (sym so.is ∙ made)))),
  )
    where
      entity : c.entity ≡ e
      entity = found_entity (creates_of (entries s.book)) e c made

      ended : length calls ≡ version_of t.orders part.Cell c
      ended =
          sym (length-map calls (λ x. x.now)) ∙ ap length calls_are ∙ ap (λ (n : ℕ). length (t.orders part.Cell n)) (sym entity)

      began : length former ≡ version_of s.orders part.Cell c
      began = sym (length-map former (λ x. x.now)) ∙ ap length former_are

      back : (so : IsOther h s t e copy) → so.made ≡ c → (v : ℕ) × (length former ≤ v) × (v ≤ length calls)
          × (copy ≡ other_at h c (map (λ x. x.now) calls) (public_at h c (map (λ x. x.now) calls) v))
      back so one = (
        so.version,
        subst (λ (n : ℕ). n ≤ so.version) (ap (version_of s.orders part.Cell) one ∙ sym began) so.had.0,
        subst (λ (n : ℕ). so.version ≤ n) (ap (version_of t.orders part.Cell) one ∙ sym ended) so.had.1,
        so.same ∙ (λ i. other_at h (one i) (sym calls_are i) (public_at h (one i) (sym calls_are i) so.version)),
      )
