-- Marks by binary digits.
use Rattle.std.proofs.Common.{◌≡◌, ◌≢◌, ℕ, ◌+◌, ◌*◌, ◌^◌, ◌<◌, ◌/◌, ◌%◌, true, false, List, length, get_or, set, refl, sym, ap, ◌∙◌, ◌≤◌}
use Rattle.std.proofs.Common.{arith, tests, inl, inr}
use Rattle.std.specs.Prelude.{◌==◌, nat_lt}
use Rattle.std.specs.Int.{bit_at, trailing_zeros, w64}
use Rattle.std.proofs.lemmas.Bool.{cases_eq, cases_lt}
use Rattle.std.proofs.lemmas.List.{get_or-set_same, get_or-set_other, get_or_past}
use Rattle.std.proofs.lemmas.Nat.Bits.{bit_at-zero, bit_at-trailing_zeros}
use Rattle.seam_machine.specs.Inside.{is_marked, AreCounted}

-- one word was written, in which no other digit changed
module _ (words : List ℕ) (n w : ℕ) (within : n / 64 < length words) where
  pub marked_there : (d : ℕ) → bit_at w (n % 64) ≡ d → is_marked (set words (n / 64) w) n ≡ (d == 1)
  marked_there d is = rw (get_or-set_same words (n / 64) w 0 within, is) refl

  pub marked_others : ((i : ℕ) → i < 64 → i ≢ n % 64 → bit_at w i ≡ bit_at (get_or words (n / 64) 0) i) → (k : ℕ) → k ≢ n →
      is_marked (set words (n / 64) w) k ≡ is_marked words k
  marked_others same k apart = elim (cases_eq (k / 64) (n / 64)) [
    | inl e ↦
        let low : k % 64 < 64 = omega arith in
        let other : k % 64 ≢ n % 64 = λ f. apart (omega arith) in
        rw (e, get_or-set_same words (n / 64) w 0 within) (ap (λ d. d == 1) (same (k % 64) low other))
    | inr ne ↦ ap (λ v. bit_at v (k % 64) == 1) (get_or-set_other words (n / 64) (k / 64) w 0 ne)
  ]

-- a word without a digit 1 marks nothing
pub none_marked : (words : List ℕ) (i : ℕ) → get_or words i 0 ≡ 0 → (j : ℕ) → j / 64 ≡ i → is_marked words j ≡ false
none_marked words i none j here = rw (here, none) (ap (λ d. d == 1) (bit_at-zero (j % 64)))

pub none_marked_more : (words : List ℕ) (i : ℕ) → get_or words i 0 ≡ 0 → ((j : ℕ) → j < 64 * i → is_marked words j ≡ false) →
    (j : ℕ) → j < 64 * (i + 1) → is_marked words j ≡ false
none_marked_more words i none before j less = elim (cases_lt j (64 * i)) [
  | inl lt ↦ before j lt
  | inr past ↦ none_marked words i none j (omega arith)
]

-- the lowest digit 1 of the first word that has one is the first mark
module _ (words : List ℕ) (i : ℕ) (some : 0 < get_or words i 0) (fits : get_or words i 0 < 2 ^ 64)
    (before : (j : ℕ) → j < 64 * i → is_marked words j ≡ false) where
  lowest : (trailing_zeros w64 (get_or words i 0) < 64) × (bit_at (get_or words i 0) (trailing_zeros w64 (get_or words i 0)) ≡ 1)
      × ((k : ℕ) → k < trailing_zeros w64 (get_or words i 0) → bit_at (get_or words i 0) k ≡ 0)
  lowest = bit_at-trailing_zeros w64 (get_or words i 0) some fits

  pub first_there : (k : ℕ) → k ≡ i * 64 + trailing_zeros w64 (get_or words i 0) → is_marked words k ≡ true
  first_there k is =
      let low = lowest.0 in
      let word : k / 64 ≡ i = omega arith in
      let digit : k % 64 ≡ trailing_zeros w64 (get_or words i 0) = omega arith in
      rw (word, digit) (ap (λ d. d == 1) lowest.1)

  pub none_before : (k : ℕ) → k ≡ i * 64 + trailing_zeros w64 (get_or words i 0) → (j : ℕ) → j < k → is_marked words j ≡ false
  none_before k is j less = elim (cases_lt j (64 * i)) [
    | inl lt ↦ before j lt
    | inr past ↦
        let low = lowest.0 in
        let word : j / 64 ≡ i = omega arith in
        let digit : j % 64 < trailing_zeros w64 (get_or words i 0) = omega arith in
        rw word (ap (λ d. d == 1) (lowest.2 (j % 64) digit))
  ]

-- ---- marks of counts

some_counted : (n : ℕ) → nat_lt 0 n ≡ true → 0 < n
some_counted n e = search (tests, arith)

none_counted : (n : ℕ) → nat_lt 0 n ≡ false → n ≡ 0
none_counted n e = let none : n ≤ 0 = search (tests, arith) in omega (arith, none)

module _ (words counts : List ℕ) (c : AreCounted words counts) (k : ℕ) where
  pub marked_some : is_marked words k ≡ true → 0 < get_or counts k 0
  marked_some there = some_counted (get_or counts k 0) (sym (c k) ∙ there)

  pub marked_within : is_marked words k ≡ true → k < length counts
  marked_within there = elim (cases_lt k (length counts)) [
    | inl lt ↦ lt
    | inr past ↦ absurd (omega (arith, marked_some there, get_or_past counts k 0 past))
  ]

  pub marked_none : is_marked words k ≡ false → get_or counts k 0 ≡ 0
  marked_none gone = none_counted (get_or counts k 0) (sym (c k) ∙ gone)
