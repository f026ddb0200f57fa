-- The last of the first numbers that pass a test.
use Rattle.std.proofs.Common.{◌≡◌, ◌≤◌, ◌<◌, ◌⊎◌, ◌+◌, ◌-◌, ℕ, zero, suc, Bool, true, false, cond, List, [], ◌∷◌, ◌++◌, Option, None, Some}
use Rattle.std.proofs.Common.{inl, inr, refl, sym, ap, ◌∙◌, subst, arith, unwrap_or, append-nil}
use Rattle.std.specs.Prelude.{filter, ◌==◌, nat_le}
use Rattle.std.proofs.lemmas.Bool.Decides.{nat_tests}
use Rattle.std.specs.List.{last_or, range_with_len}
use Rattle.std.proofs.lemmas.List.Elements.{filter-append}
use Rattle.seam_defs.specs.declared.flags.Part.TheVariants as part
use Rattle.seam_rule_rounds.specs.Prelude.{Call, Create, Header, Orders, Lists, Book, live_as, has_changed_at, public_at, rows_of}
use Rattle.seam_rule_lines.proofs.Lists.{listed_is_one}

-- a number is at most another one that is not below it
pub at_most_unless : (m n : ℕ) → (n < m → ⊥) → m ≤ n
at_most_unless m n refute = by (nat_le m n) refl
  where
    by : (t : Bool) → nat_le m n ≡ t → m ≤ n
    by true is = grind (arith, nat_tests, is)
    by false is = absurd (refute (grind (arith, nat_tests, is)))

pub range_more : (a n : ℕ) → range_with_len a (suc n) ≡ range_with_len a n ++ (a + n) ∷ []
range_more a zero = let same : a ≡ a + 0 = omega arith in ap (λ (k : ℕ). k ∷ []) same
range_more a (suc n) =
    let same : a + 1 + n ≡ a + suc n = omega arith in
    ap (λ (xs : List ℕ). a ∷ xs) (range_more (a + 1) n ∙ ap (λ (k : ℕ). range_with_len (a + 1) n ++ k ∷ []) same)

last_more : (o : Option ℕ) (xs : List ℕ) (y : ℕ) → last_or o (xs ++ y ∷ []) ≡ Some y
last_more o [] y = refl
last_more o (x ∷ xs) y = last_more (Some x) xs y

-- the last number from 1 to n that passes the test, or 0
abbrev latest : (ℕ → Bool) → ℕ → ℕ
latest test n = unwrap_or (last_or None (filter test (range_with_len 1 n))) 0

module _ (test : ℕ → Bool) where
  latest_more : (n : ℕ) → latest test (suc n) ≡ cond (test (suc n)) (suc n) (latest test n)
  latest_more n =
      let next : 1 + n ≡ suc n = omega arith in
      ap (λ (xs : List ℕ). unwrap_or (last_or None (filter test xs)) 0)
      (range_more 1 n ∙ ap (λ (k : ℕ). range_with_len 1 n ++ k ∷ []) next)
      ∙ ap (λ (xs : List ℕ). unwrap_or (last_or None xs) 0) (filter-append test (range_with_len 1 n) (suc n ∷ []))
      ∙ cases (test (suc n))
    where
      all : List ℕ
      all = filter test (range_with_len 1 n)

      cases : (b : Bool) → unwrap_or (last_or None (all ++ cond b (suc n ∷ []) [])) 0 ≡ cond b (suc n) (latest test n)
      cases true = ap (λ (o : Option ℕ). unwrap_or o 0) (last_more None all (suc n))
      cases false = ap (λ (xs : List ℕ). unwrap_or (last_or None xs) 0) (append-nil all)

  -- n is a number up to `most`, and passes the test or is 0, and none between does
  record IsLatest (most n : ℕ) : Type 0 where
    at_most : n ≤ most
    passes : (n ≡ 0) ⊎ (test n ≡ true)
    last : (w : ℕ) → n < w → w ≤ most → test w ≡ false

  one_more : (n m : ℕ) (b : Bool) → test (suc n) ≡ b → IsLatest n m → IsLatest (suc n) (cond b (suc n) m)
  one_more n m true is was = record { at_most = omega arith; passes = inr is; last = λ w low high. absurd (omega (arith, low, high)) }
  one_more n m false is was = record {
    at_most = let low = was.at_most in omega (arith, low);
    passes = was.passes;
    last = λ w low high. by w low high (w == suc n) refl;
  }
    where
      by : (w : ℕ) → m < w → w ≤ suc n → (t : Bool) → (w == suc n) ≡ t → test w ≡ false
      by w low high true at = let same : w ≡ suc n = grind (arith, at) in ap test same ∙ is
      by w low high false at = was.last w low (grind (arith, at, high))

  latest_is : (n : ℕ) → IsLatest n (latest test n)
  latest_is zero = record { at_most = omega arith; passes = inl refl; last = λ w low high. absurd (omega (arith, low, high)) }
  latest_is (suc n) =
      subst (IsLatest (suc n)) (sym (latest_more n)) (one_more n (latest test n) (test (suc n)) refl (latest_is n))

module _ (h : Header) (c : Create) (order : List Call) (v : ℕ) where
  whole : v - 0 ≡ v
  whole = omega arith

  is : IsLatest (has_changed_at h part.Cell c order) v (public_at h c order v)
  is = subst (λ (n : ℕ). IsLatest (has_changed_at h part.Cell c order) v (latest (has_changed_at h part.Cell c order) n)) (sym whole)
      (latest_is (has_changed_at h part.Cell c order) v)

  pub public_at_most : public_at h c order v ≤ v
  public_at_most = is.at_most

  pub public_changed : (public_at h c order v ≡ 0) ⊎ (has_changed_at h part.Cell c order (public_at h c order v) ≡ true)
  public_changed = is.passes

  pub public_last : (w : ℕ) → public_at h c order v < w → w ≤ v → has_changed_at h part.Cell c order w ≡ false
  public_last = is.last

-- the public version at one version more
pub public_more : (h : Header) (c : Create) (order : List Call) (n : ℕ) →
    public_at h c order (suc n) ≡ cond (has_changed_at h part.Cell c order (suc n)) (suc n) (public_at h c order n)
public_more h c order n =
    ap (latest (has_changed_at h part.Cell c order)) (whole h c order (suc n))
    ∙ latest_more (has_changed_at h part.Cell c order) n
    ∙ ap (cond (has_changed_at h part.Cell c order (suc n)) (suc n))
    (ap (latest (has_changed_at h part.Cell c order)) (sym (whole h c order n)))

pub one_table : (h : Header) (b : Book) (orders : Orders) (xs ys : List Create) → Lists (live_as b) xs → Lists (live_as b) ys →
    rows_of h orders xs ≡ rows_of h orders ys
one_table h b orders xs ys one other = ap (rows_of h orders) (listed_is_one (live_as b) xs ys one other)
