-- Items with rising numbers, and the one of a number.
use Rattle.std.proofs.Common.{◌≡◌, ℕ, ◌+◌, ◌<◌, ◌≤◌, Bool, true, false, cond, eqb, List, [], ◌∷◌, ◌++◌, length, Option, None, Some, refl}
use Rattle.std.proofs.Common.{sym, ap, ◌∙◌, arith}
use Rattle.std.proofs.lemmas.Bool.{eq-eqb, ne_eqb, eqb-true}
use Rattle.seam_law_flow.specs.Prelude.{more_letter, letters_of, number_from, of_number, numbered}
use Rattle.seam_order.specs.Held.{item_at}

abbrev pub either : {U : Type 0} → Option U → Option U → Option U
either None o = o
either (Some u) o = Some u

module _ {U : Type 0} where
  pub item_early : (n m : ℕ) (us : List U) → n < m → item_at n (number_from m us) ≡ None
  item_early n m [] lt = refl
  item_early n m (u ∷ us) lt = rw (ne_eqb m n (λ e. omega (arith, e, lt))) (item_early n (m + 1) us (omega (arith, lt)))

  pub item_late : (n m : ℕ) (us : List U) → m + length us ≤ n → item_at n (number_from m us) ≡ None
  item_late n m [] le = refl
  item_late n m (u ∷ us) le = rw (ne_eqb m n (λ e. omega (arith, e, le))) (item_late n (m + 1) us (omega (arith, le)))

  pub item_first : (m : ℕ) (u : U) (us : List U) → item_at m (number_from m (u ∷ us)) ≡ Some u
  item_first m u us = rw (eq-eqb m m refl)

  pub item_other : (n m : ℕ) (u : U) (us : List U) → (m ≡ n → ⊥) → item_at n (number_from m (u ∷ us)) ≡ item_at n (number_from (m + 1) us)
  item_other n m u us h = rw (ne_eqb m n h)

  bounds_by : (n m : ℕ) (u x : U) (us : List U) (t : Bool) → eqb m n ≡ t →
      (item_at n (number_from (m + 1) us) ≡ Some u → (m + 1 ≤ n) × (n < m + 1 + length us)) →
      cond t (Some x) (item_at n (number_from (m + 1) us)) ≡ Some u → (m ≤ n) × (n < m + length (x ∷ us))
  bounds_by n m u x us true t h e = let s = eqb-true m n t in (omega (arith, s), omega (arith, s))
  bounds_by n m u x us false t h e = let r = h e in let a = r.0 in let b = r.1 in (omega (arith, a), omega (arith, b))

  pub item_bounds : (n m : ℕ) (u : U) (us : List U) → item_at n (number_from m us) ≡ Some u → (m ≤ n) × (n < m + length us)
  item_bounds n m u [] e = cc
  item_bounds n m u (x ∷ us) e = bounds_by n m u x us (eqb m n) refl (item_bounds n (m + 1) u us) e

  either_cond : (t : Bool) (x : U) (a b c : Option U) → a ≡ either b c → cond t (Some x) a ≡ either (cond t (Some x) b) c
  either_cond true x a b c e = refl
  either_cond false x a b c e = e

  pub item_at-append : (n : ℕ) (xs ys : List (ℕ × U)) → item_at n (xs ++ ys) ≡ either (item_at n xs) (item_at n ys)
  item_at-append n [] ys = refl
  item_at-append n (x ∷ xs) ys = either_cond (eqb x.0 n) x.1 (item_at n (xs ++ ys)) (item_at n xs) (item_at n ys) (item_at-append n xs ys)

  pub number_from-append : (m : ℕ) (xs ys : List U) → number_from m (xs ++ ys) ≡ number_from m xs ++ number_from (m + length xs) ys
  number_from-append m [] ys = ap (λ k. number_from k ys) (let e : m ≡ m + 0 = omega arith in e)
  number_from-append m (x ∷ xs) ys =
      let e : m + 1 + length xs ≡ m + length (x ∷ xs) = omega arith in
      ap (λ l. (m, x) ∷ l) (number_from-append (m + 1) xs ys ∙ ap (λ k. number_from (m + 1) xs ++ number_from k ys) e)

  one_by : (n m : ℕ) (u : U) (us : List U) (t : Bool) → eqb m n ≡ t → letters_of (of_number n) (number_from (m + 1) us) ≡ more_letter
      (item_at n (number_from (m + 1) us)) [] → more_letter (cond t (Some u) None) (letters_of (of_number n) (number_from (m + 1) us)) ≡
      more_letter (cond t (Some u) (item_at n (number_from (m + 1) us))) []
  one_by n m u us true t h =
      ap (λ l. u ∷ l) (h ∙ ap (λ o. more_letter o []) (item_early n (m + 1) us (let s = eqb-true m n t in omega (arith, s))))
  one_by n m u us false t h = h

  pub letters_of-number_from : (n m : ℕ) (us : List U) →
      letters_of (of_number n) (number_from m us) ≡ more_letter (item_at n (number_from m us)) []
  letters_of-number_from n m [] = refl
  letters_of-number_from n m (u ∷ us) = one_by n m u us (eqb m n) refl (letters_of-number_from n (m + 1) us)

  module _ {L : Type 0} (brings : L → Option (ℕ × U)) where
    more_by : (n : ℕ) (o : Option (ℕ × U)) (ls : List (ℕ × U)) (ms : List U) → letters_of (of_number n) ls ≡ ms →
        more_letter (numbered n o) ms ≡ letters_of (of_number n) (more_letter o ls)
    more_by n None ls ms e = sym e
    more_by n (Some p) ls ms e = ap (more_letter (of_number n p)) (sym e)

    pub letters_of-numbered : (n : ℕ) (ls : List L) →
        letters_of (λ l. numbered n (brings l)) ls ≡ letters_of (of_number n) (letters_of brings ls)
    letters_of-numbered n [] = refl
    letters_of-numbered n (l ∷ ls) =
        more_by n (brings l) (letters_of brings ls) (letters_of (λ l. numbered n (brings l)) ls) (sym (letters_of-numbered n ls))
