-- Lemmas and no definitions: the values of a tree and of a set give their fields back, which their models prove here.
use Rattle.std.proofs.Common.{◌≡◌, ◌<◌, ◌≤◌, ℕ, zero, suc, ◌+◌, ◌*◌, ◌%◌, ◌^◌, ◌==◌, nat_le, nat_lt, Bool, ◌&&◌, ◌||◌, if◌then◌else◌}
use Rattle.std.proofs.Common.{List, length, take, sym, ap, ◌∙◌, arith, inl, inr, length-append}
use Rattle.std.specs.Cmp.{nat_cmp_total, unsigned_tied}
use Rattle.std.specs.Int.{bit_at}
use Rattle.std.specs.List.{range_with_len}
use Rattle.std.specs.Ordering.{nat_cmp}
use Rattle.std.proofs.lemmas.Bool.{cases_eq, cases_lt}
use Rattle.std.proofs.lemmas.Bool.Decides.{nat_tests}
use Rattle.std.proofs.lemmas.List.{length-replicate}
use Rattle.std.proofs.lemmas.Grind.{common_steps}
use Rattle.std.proofs.lemmas.Nat.{mod-pow-add}
use Rattle.std.proofs.lemmas.Nat.Bits.{bit_at-lt, bit_at_above}
use Rattle.std.specs.FinSet as set
use Rattle.seam_tree.specs.declared.cut.Cut.{Cut}
use Rattle.seam_tree.specs.Table.{padded}
use Rattle.seam_tree.specs.Cells.{Cells}
use Rattle.seam_tree.specs.Marks.{marked, digits_of}

-- as many cuts are taken from a table as it counts
pub take_padded : (count : ℕ) (cuts : List Cut) → count ≤ 15 → cuts ≡ padded (take count cuts) → length (take count cuts) ≡ count
take_padded count cuts most is =
    let whole : length cuts ≡ length (padded (take count cuts)) = ap length is in
    grind (arith, common_steps, length-append {A = Cut}, length-replicate {A = Cut}, whole)

pub contains_insert_nat : (s : Cells) (k q : ℕ) → set.contains (set.insert s k) q ≡ ((q == k) || set.contains s q)
contains_insert_nat s k q = set.contains-insert nat_cmp_total s k q ∙ ap (λ (b : Bool). b || set.contains s q) (unsigned_tied q k)

abbrev range : ℕ → ℕ → Cells
range first count = set.from_list (range_with_len first count)

-- the numbers of a range are those from its first on
contains_range : (first count q : ℕ) → set.contains (range first count) q ≡ (nat_le first q && nat_lt q (first + count))
contains_range first zero q = set.contains-empty nat_cmp q ∙ grind (arith, nat_tests)
contains_range first (suc count) q =
    let ih : set.contains (range (first + 1) count) q ≡ (nat_le (first + 1) q && nat_lt q (first + 1 + count)) =
    contains_range (first + 1) count q in
    contains_insert_nat (range (first + 1) count) first q ∙ grind (arith, nat_tests, ih)

module _ (digits : ℕ) (fits : digits < 2 ^ 16) where
  abbrev mark : ℕ → Bool
  mark k = bit_at digits k == 1

  within_range : (q : ℕ) → ((nat_le 0 q && nat_lt q 16) && mark q) ≡ mark q
  within_range q = elim (cases_lt q 16) [
    | inl below ↦ grind (arith, nat_tests)
    | inr past ↦ let none : bit_at digits q ≡ 0 = bit_at_above digits 16 q fits past in grind (arith, nat_tests, none)
  ]

  -- a number is in the set where its digit is 1
  pub contains_marked : (q : ℕ) → set.contains (marked digits) q ≡ mark q
  unfolding marked
  contains_marked q =
      set.contains-retain (range 0 16) mark q (λ x tie. ap mark (sym (set.nat_cmp-IsAntisymmetric q x tie)))
      ∙ ap (λ (b : Bool). b && mark q) (contains_range 0 16 q)
      ∙ within_range q

  place_of : (d n : ℕ) → d < 2 → (if d == 1 then n else 0) ≡ d * n
  place_of d n digit = elim (cases_eq d 1) [ inl one ↦ grind (arith, nat_tests) | inr other ↦ grind (arith, nat_tests) ]

  digits_below : (n : ℕ) → digits_of (marked digits) n ≡ digits % 2 ^ n
  unfolding digits_of
  digits_below zero = omega arith
  digits_below (suc n) =
      let next : suc n ≡ 1 + n = omega arith in
      let place : (if set.contains (marked digits) n then 2 ^ n else 0) ≡ bit_at digits n * 2 ^ n =
      ap (λ (b : Bool). if b then 2 ^ n else 0) (contains_marked n) ∙ place_of (bit_at digits n) (2 ^ n) (bit_at-lt digits n) in
      (λ i. place i + digits_below n i) ∙ sym (ap (λ k. digits % 2 ^ k) next ∙ mod-pow-add digits 1 n)

  -- the set gives its digits back
  pub digits_of_marked : digits_of (marked digits) 16 ≡ digits
  digits_of_marked = digits_below 16 ∙ omega (arith, fits)
