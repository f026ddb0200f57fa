-- Sets of cells and writes to their digits.
use Rattle.std.proofs.Common.{◌≡◌, ◌<◌, ◌≤◌, ℕ, ◌+◌, ◌-◌, ◌*◌, ◌/◌, ◌%◌, ◌^◌, ◌==◌, Bool, true, false, ◌||◌, ◌&&◌, not, IsTrue}
use Rattle.std.proofs.Common.{sym, ap, ◌∙◌, arith, inl, inr}
use Rattle.std.specs.Cmp.{nat_cmp_total, unsigned_tied}
use Rattle.std.specs.Int.{bit_at, bit_not, w16}
use Rattle.std.specs.Int.RustNames.{bit_and, bit_or}
use Rattle.std.specs.Ordering.{nat_cmp}
use Rattle.std.proofs.lemmas.Bool.{both_ways, cases_eq, cases_lt}
use Rattle.std.proofs.lemmas.Bool.Decides.{nat_tests}
use Rattle.std.proofs.lemmas.Nat.{shr-shr, or_lt, and_le_l}
use Rattle.std.proofs.lemmas.Nat.Bits.{bit_at-lt, bit_at-zero, bit_at_above, same_from_bits}
use Rattle.std.proofs.lemmas.Nat.Bits.{bit_at_set_same, bit_at_set_other, bit_at_clear_same, bit_at_clear_other}
use Rattle.std.specs.FinSet as cells
use Rattle.seam_tree.specs.Marks.{marked}
use Rattle.seam_tree.specs.Inverse.{contains_marked, contains_insert_nat}

-- where no digit is 1, no cell is in the set
pub marked_none : marked 0 ≡ cells.empty
marked_none =
    cells.same_set nat_cmp_total cells.nat_cmp-IsAntisymmetric _ _ (λ q.
    contains_marked 0 (omega arith) q ∙ ap (λ d. d == 1) (bit_at-zero q) ∙ sym (cells.contains-empty nat_cmp q))

-- the digits from `count` on
bit_at_shifted : (n count i : ℕ) → bit_at (n / 2 ^ count) i ≡ bit_at n (count + i)
bit_at_shifted n count i = ap (λ x. x % 2) (shr-shr n count i)

module _ (digits : ℕ) (fits : digits < 2 ^ 16) where
  abbrev IsMarked : ℕ → Type 0
  IsMarked k = IsTrue (cells.contains (marked digits) k)

  one_where_marked : (k : ℕ) → IsMarked k → bit_at digits k ≡ 1
  one_where_marked k there =
      let is : (bit_at digits k == 1) ≡ true = sym (contains_marked digits fits k) ∙ there in
      grind (arith, nat_tests, is)

  zero_where_not : (k : ℕ) → (IsMarked k → ⊥) → bit_at digits k ≡ 0
  zero_where_not k gone = elim (cases_eq (bit_at digits k) 1) [
    | inl one ↦ absurd (gone (contains_marked digits fits k ∙ grind (arith, nat_tests, one)))
    | inr other ↦ omega (arith, bit_at-lt digits k, other)
  ]

  -- no number from 16 on is in the set
  pub marked_past : (k : ℕ) → 16 ≤ k → cells.contains (marked digits) k ≡ false
  marked_past k past =
      let none : bit_at digits k ≡ 0 = bit_at_above digits 16 k fits past in
      contains_marked digits fits k ∙ grind (arith, nat_tests, none)

  pub marked_small : (k : ℕ) → IsMarked k → k < 16
  marked_small k there = elim (cases_lt k 16) [ inl below ↦ below | inr past ↦ absurd (both_ways _ (marked_past k past) there) ]

  -- all its numbers are below the count if and only if no digit from there on is 1
  pub below_by_shifted : (count : ℕ) → digits / 2 ^ count ≡ 0 → (k : ℕ) → IsMarked k → k < count
  below_by_shifted count none k there = elim (cases_lt k count) [
    | inl below ↦ below
    | inr past ↦
        let from : k ≡ count + (k - count) = omega arith in
        let zero_there : bit_at digits k ≡ 0 =
        ap (bit_at digits) from
        ∙ sym (bit_at_shifted digits count (k - count))
        ∙ ap (λ n. bit_at n (k - count)) none
        ∙ bit_at-zero (k - count) in
        absurd (omega (arith, zero_there, one_where_marked k there))
  ]

  pub shifted_by_below : (count : ℕ) → ((k : ℕ) → IsMarked k → k < count) → digits / 2 ^ count ≡ 0
  shifted_by_below count below =
      same_from_bits (digits / 2 ^ count) 0 (λ i.
      bit_at_shifted digits count i
      ∙ zero_where_not (count + i) (λ there. omega (arith, below (count + i) there))
      ∙ sym (bit_at-zero i))

  -- the digit for k was written
  module _ (k : ℕ) (within : k < 16) where
    abbrev set_digits : ℕ
    set_digits = bit_or digits (1 * 2 ^ k % 2 ^ 16)

    abbrev cleared_digits : ℕ
    cleared_digits = bit_and digits (bit_not w16 (1 * 2 ^ k % 2 ^ 16))

    set_fits : set_digits < 2 ^ 16
    set_fits = or_lt 16 digits (1 * 2 ^ k % 2 ^ 16) fits (omega arith)

    cleared_fits : cleared_digits < 2 ^ 16
    cleared_fits = omega (arith, fits, and_le_l digits (bit_not w16 (1 * 2 ^ k % 2 ^ 16)))

    set_at : (q : ℕ) → (bit_at set_digits q == 1) ≡ ((q == k) || (bit_at digits q == 1))
    set_at q = elim (cases_eq q k) [
      | inl e ↦
          let one : bit_at set_digits q ≡ 1 = ap (bit_at set_digits) e ∙ bit_at_set_same w16 digits k within in
          grind (arith, nat_tests, one)
      | inr other ↦
          let same : bit_at set_digits q ≡ bit_at digits q = bit_at_set_other w16 digits k within q other in
          grind (arith, nat_tests, same)
    ]

    cleared_at : (q : ℕ) → (bit_at cleared_digits q == 1) ≡ (not (q == k) && (bit_at digits q == 1))
    cleared_at q = elim (cases_eq q k) [
      | inl e ↦
          let none : bit_at cleared_digits q ≡ 0 = ap (bit_at cleared_digits) e ∙ bit_at_clear_same w16 digits k within in
          grind (arith, nat_tests, none)
      | inr other ↦ elim (cases_lt q 16) [
        | inl low ↦
            let same : bit_at cleared_digits q ≡ bit_at digits q = bit_at_clear_other w16 digits k within q low other in
            grind (arith, nat_tests, same)
        | inr past ↦
            let none : bit_at cleared_digits q ≡ 0 = bit_at_above cleared_digits 16 q cleared_fits past in
            let was_none : bit_at digits q ≡ 0 = bit_at_above digits 16 q fits past in
            grind (arith, nat_tests, none, was_none)
      ]
    ]

    -- a digit set puts the number into the set
    pub marked_set : marked set_digits ≡ cells.insert (marked digits) k
    marked_set =
        cells.same_set nat_cmp_total cells.nat_cmp-IsAntisymmetric _ _ (λ q.
        contains_marked set_digits set_fits q
        ∙ set_at q
        ∙ ap (λ (b : Bool). (q == k) || b) (sym (contains_marked digits fits q))
        ∙ sym (contains_insert_nat (marked digits) k q))

    -- a digit cleared takes it out
    pub marked_cleared : marked cleared_digits ≡ cells.remove (marked digits) k
    marked_cleared =
        cells.same_set nat_cmp_total cells.nat_cmp-IsAntisymmetric _ _ (λ q.
        contains_marked cleared_digits cleared_fits q
        ∙ cleared_at q
        ∙ ap (λ (b : Bool). not (q == k) && b) (sym (contains_marked digits fits q))
        ∙ ap (λ (b : Bool). not b && cells.contains (marked digits) q) (sym (unsigned_tied q k))
        ∙ sym (cells.contains-remove nat_cmp_total (marked digits) k q))
