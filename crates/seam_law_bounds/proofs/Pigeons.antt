-- Distinct numbers of a list are at most as many as it has.
use Rattle.seam_law_bounds.proofs.Prelude.{◌≡◌, ℕ, suc, ◌+◌, ◌≤◌, Bool, true, false, cond, ◌||◌, eqb, List, [], ◌∷◌, ◌++◌, length, refl, ap}
use Rattle.seam_law_bounds.proofs.Prelude.{◌∙◌, arith, AllByRecursion, IsDistinct, nat_tests, IsDistinct-head, IsDistinct-tail, is_among}
use Rattle.seam_law_bounds.proofs.Prelude.{AllAmong}

abbrev pub Distinct : List ℕ → Type 0
Distinct [] = Unit {0}
Distinct (x ∷ xs) = (is_among xs x ≡ false) × Distinct xs

none_same : (x : ℕ) (ys : List ℕ) → AllByRecursion (λ y. eqb x y ≡ false) ys → is_among ys x ≡ false
none_same x [] h = refl
none_same x (y ∷ ys) h = ap (λ b. b || is_among ys x) h.0 ∙ none_same x ys h.1

pub distinct_from : (xs : List ℕ) → IsDistinct eqb xs → Distinct xs
distinct_from [] h = tt
distinct_from (x ∷ xs) h = (none_same x xs (IsDistinct-head eqb x xs h), distinct_from xs (IsDistinct-tail eqb x xs h))

abbrev drop_one : ℕ → List ℕ → List ℕ
drop_one x [] = []
drop_one x (y ∷ ys) = cond (eqb x y) ys (y ∷ drop_one x ys)

dropped_length : (x : ℕ) (us : List ℕ) → is_among us x ≡ true → length (drop_one x us) + 1 ≡ length us
dropped_length x [] e = cc
dropped_length x (y ∷ ys) e = by (eqb x y) (dropped_length x ys) e
  where
    by : (b : Bool) → (is_among ys x ≡ true → length (drop_one x ys) + 1 ≡ length ys) → (b || is_among ys x) ≡ true →
        length (cond b ys (y ∷ drop_one x ys)) + 1 ≡ suc (length ys)
    by true h e = omega arith
    by false h e = let k = h e in omega (arith, k)

dropped_has : (x q : ℕ) (us : List ℕ) → eqb x q ≡ false → is_among us q ≡ true → is_among (drop_one x us) q ≡ true
dropped_has x q [] ne e = cc
dropped_has x q (y ∷ ys) ne e = by (eqb x y) (eqb q y) refl refl (dropped_has x q ys ne) e
  where
    by : (b d : Bool) → eqb x y ≡ b → eqb q y ≡ d → (is_among ys q ≡ true → is_among (drop_one x ys) q ≡ true) →
        (d || is_among ys q) ≡ true → is_among (cond b ys (y ∷ drop_one x ys)) q ≡ true
    by true true p r h e = absurd (clash (grind (arith, nat_tests, p, r)) ne)
      where
        clash : eqb x q ≡ true → eqb x q ≡ false → ⊥
        clash a b = cc
    by true false p r h e = e
    by false true p r h e = ap (λ d. d || is_among (drop_one x ys) q) r
    by false false p r h e = ap (λ d. d || is_among (drop_one x ys) q) r ∙ h e

pub apart : (x y : ℕ) (ys : List ℕ) → is_among (y ∷ ys) x ≡ false → (eqb x y ≡ false) × (is_among ys x ≡ false)
apart x y ys e = by (eqb x y) refl e
  where
    by : (b : Bool) → eqb x y ≡ b → (b || is_among ys x) ≡ false → (eqb x y ≡ false) × (is_among ys x ≡ false)
    by true p e = cc
    by false p e = (p, e)

all_dropped : (x : ℕ) (us xs : List ℕ) → is_among xs x ≡ false → AllAmong us xs → AllAmong (drop_one x us) xs
all_dropped x us [] e h = tt
all_dropped x us (y ∷ ys) e h = let k = apart x y ys e in (dropped_has x y us k.0 h.0, all_dropped x us ys k.1 h.1)

pub pigeons : (us xs : List ℕ) → Distinct xs → AllAmong us xs → length xs ≤ length us
pigeons us [] d h = omega arith
pigeons us (x ∷ xs) d h =
    let one = pigeons (drop_one x us) xs d.1 (all_dropped x us xs d.0 h.1) in
    let two = dropped_length x us h.0 in
    omega (arith, one, two)

-- ---- lists one after the other

abbrev pub NoneAmong : List ℕ → List ℕ → Type 0
NoneAmong us [] = Unit {0}
NoneAmong us (x ∷ xs) = (is_among us x ≡ false) × NoneAmong us xs

none_cons : (x : ℕ) (xs ys : List ℕ) → NoneAmong (x ∷ xs) ys → NoneAmong xs ys
none_cons x xs [] h = tt
none_cons x xs (y ∷ ys) h = ((apart y x xs h.0).1, none_cons x xs ys h.1)

turned : (x y : ℕ) → eqb y x ≡ false → eqb x y ≡ false
turned x y e = grind (arith, nat_tests, e)

none_not : (x : ℕ) (xs ys : List ℕ) → NoneAmong (x ∷ xs) ys → is_among ys x ≡ false
none_not x xs [] h = refl
none_not x xs (y ∷ ys) h = ap (λ b. b || is_among ys x) (turned x y (apart y x xs h.0).0) ∙ none_not x xs ys h.1

among_append : (q : ℕ) (xs ys : List ℕ) → is_among xs q ≡ false → is_among ys q ≡ false → is_among (xs ++ ys) q ≡ false
among_append q [] ys h k = k
among_append q (x ∷ xs) ys h k = let a = apart q x xs h in ap (λ b. b || is_among (xs ++ ys) q) a.0 ∙ among_append q xs ys a.1 k

pub distinct_append : (xs ys : List ℕ) → Distinct xs → Distinct ys → NoneAmong xs ys → Distinct (xs ++ ys)
distinct_append [] ys h k n = k
distinct_append (x ∷ xs) ys h k n = (among_append x xs ys h.0 (none_not x xs ys n), distinct_append xs ys h.1 k (none_cons x xs ys n))
