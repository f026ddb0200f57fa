-- The number of a numeral, one digit after another.
use Rattle.std.proofs.Common.{◌≡◌, ◌∙◌, ap, ℕ, ◌<◌, ◌≤◌, ◌+◌, ◌-◌, ◌*◌, ◌^◌, true, refl, List, length, length-take, get_or, take, arith}
use Rattle.std.specs.List.{list_all}
use Rattle.std.specs.Str.Parse.{digits_value}
use Rattle.std.proofs.lemmas.Int.Digits.{digits_value_more}
use Rattle.std.proofs.lemmas.List.Folds.{list_all_more}
use Rattle.std.proofs.lemmas.Str.Parse.{IsDigitsTest, numerals_by_value, digits_value_short, digits_value-take-le, digit_from_value}
use Rattle.std.proofs.lemmas.Grind.{common_steps}
use Rattle.std.specs.Char.{digit_value}
use Rattle.seam_value.specs.Numerals.{is_digit}
use Rattle.seam_value.proofs.Decimals.{glyph_is, and_left, and_right}

-- each byte of a numeral is a digit
pub digit_at : (ds : List ℕ) (i : ℕ) → list_all is_digit ds ≡ true → i < length ds → is_digit (get_or ds i 0) ≡ true
digit_at ds i all inside = grind (arith, common_steps)

-- the number of the first digits, with one more
pub with_next : (ds : List ℕ) (i : ℕ) → is_digit (get_or ds i 0) ≡ true → i < length ds →
    digits_value 10 (take (i + 1) ds) ≡ digits_value 10 (take i ds) * 10 + (get_or ds i 0 - 48)
with_next ds i digit inside =
    let glyph = glyph_is (get_or ds i 0) digit in
    let value : digit_value (get_or ds i 0) ≡ get_or ds i 0 - 48 = omega (arith, glyph.1) in
    digits_value_more 10 ds i inside ∙ ap (λ d. digits_value 10 (take i ds) * 10 + d) value

-- the whole is at least that
pub at_least : (ds : List ℕ) (i : ℕ) → is_digit (get_or ds i 0) ≡ true → i < length ds →
    digits_value 10 (take i ds) * 10 + (get_or ds i 0 - 48) ≤ digits_value 10 ds
at_least ds i digit inside = rw (← with_next ds i digit inside) (digits_value-take-le 10 ds (i + 1) (omega arith))

-- one more byte is a digit too
pub all_next : (ds : List ℕ) (i : ℕ) → list_all is_digit (take i ds) ≡ true → is_digit (get_or ds i 0) ≡ true → i < length ds →
    list_all is_digit (take (i + 1) ds) ≡ true
all_next ds i all digit inside = list_all_more is_digit ds i 0 inside ∙ rw (all, digit) refl

-- a text of digits, as std reads it
digits_test : IsDigitsTest (λ ds. list_all is_digit ds ≡ true)
digits_test = record {
  empty = refl;
  parts = λ c cs all. (digit_from_value c (glyph_is c (and_left _ _ all)).0, and_right _ _ all);
  more = λ c cs digit all. grind (arith, common_steps);
}

-- a step within 19 digits leaves a number of 64 bits
pub step_fits : (ds : List ℕ) (i n : ℕ) → length ds ≤ 19 → list_all is_digit (take i ds) ≡ true → n ≡ digits_value 10 (take i ds) →
    is_digit (get_or ds i 0) ≡ true → i < length ds → n * 10 + (get_or ds i 0 - 48) < 2 ^ 64
step_fits ds i n few all value digit inside =
    let short : length (take (i + 1) ds) ≤ 19 = simp length-take (omega arith) in
    let most = digits_value_short (numerals_by_value _ digits_test) (take (i + 1) ds) 19 (all_next ds i all digit inside) short in
    omega (arith, most, with_next ds i digit inside, value)
