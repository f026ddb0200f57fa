-- Numbers with a sign, and their ranges.
use Rattle.std.proofs.Common.{◌≡◌, ◌≢◌, ℕ, ◌≤◌, ◌^◌, Bool, true, false, List, [], ◌∷◌, refl, sym, ◌∙◌, ap, subst, arith, zero, suc, ℤ, pos}
use Rattle.std.proofs.Common.{negsuc}
use Rattle.std.specs.Prelude.{slice_index}
use Rattle.std.specs.Str.Parse.{digits_value}
use Rattle.std.proofs.lemmas.Int.{ints}
use Rattle.seam_value.specs.declared.types.ValueType.{ValueType}
use Rattle.seam_value.specs.declared.types.ValueType.TheVariants.{Int8, Int16, Int32, Int64, Uint8, Uint16, Uint32, Uint64, Text}
use Rattle.seam_value.specs.declared.values.Value.TheVariants.{Number}
use Rattle.seam_value.specs.Numerals.{IsNumeral, SplitsSign, signed}
use Rattle.seam_value.specs.Values.{Fits, decimal_of, number_text}
use Rattle.seam_value.proofs.Decimals.{decimal_of_numeral, decimal_of-digits_value, decimal_of-injective, glyph_is, and_left}
use Rattle.seam_value.proofs.Decimals.{decimal_of_zero, digits_value-decimal_of}

-- a numeral after a sign or none, and no `-0`
pub record IsSignedNumeral (is_negative : Bool) (digits : List ℕ) : Type 0 where
  pub numeral : IsNumeral digits
  pub sign : is_negative ≡ true → digits ≢ 48 ∷ []

zero_value : digits_value 10 (48 ∷ []) ≡ 0
zero_value = ap (digits_value 10) (sym decimal_of_zero) ∙ digits_value-decimal_of 0

pub signed_numeral : (is_negative : Bool) (digits : List ℕ) → IsNumeral digits → (is_negative ≡ true → digits_value 10 digits ≢ 0) →
    IsSignedNumeral is_negative digits
signed_numeral is_negative digits h other =
    record { numeral = h; sign = λ negative e. other negative (ap (digits_value 10) e ∙ zero_value) }

pub no_minus_zero : (digits : List ℕ) → digits_value 10 digits ≡ 0 → ¬ (IsSignedNumeral true digits)
no_minus_zero digits none h =
    h.sign refl (sym (decimal_of-digits_value digits h.numeral) ∙ ap decimal_of none ∙ decimal_of_zero)

-- a numeral after its sign is the text of its number
negative_text : (n : ℕ) (ds : List ℕ) → decimal_of n ≡ ds → ds ≢ 48 ∷ [] → number_text (signed true n) ≡ 45 ∷ ds
negative_text zero ds e other = absurd (other (sym e ∙ decimal_of_zero))
negative_text (suc n) ds e other = ap (λ (xs : List ℕ). 45 ∷ xs) e

pub number_text-signed : (bytes : List ℕ) (is_negative : Bool) (digits : List ℕ) → SplitsSign bytes is_negative digits →
    IsSignedNumeral is_negative digits → number_text (signed is_negative (digits_value 10 digits)) ≡ bytes
number_text-signed bytes true digits split h =
    negative_text (digits_value 10 digits) digits (decimal_of-digits_value digits h.numeral) (h.sign refl) ∙ sym split
number_text-signed bytes false digits split h = decimal_of-digits_value digits h.numeral ∙ sym split.0

-- and other bytes are the text of no number
no_minus : (ds : List ℕ) → IsNumeral ds → slice_index ds 0 ≢ 45
no_minus [] h e = cc
no_minus (c ∷ cs) h e = omega (arith, glyph_is c (and_left _ _ h.all))

pub no_number_text : (bytes : List ℕ) (is_negative : Bool) (digits : List ℕ) → SplitsSign bytes is_negative digits →
    ¬ (IsSignedNumeral is_negative digits) → (z : ℤ) → number_text z ≢ bytes
no_number_text bytes true digits split out (pos n) e =
    no_minus bytes (subst IsNumeral e (decimal_of_numeral n)) (ap (λ (xs : List ℕ). slice_index xs 0) split)
no_number_text bytes false digits split out (pos n) e =
    out (record { numeral = subst IsNumeral (e ∙ split.0) (decimal_of_numeral n); sign = λ f. cc })
no_number_text bytes true digits split out (negsuc n) e =
    let same : decimal_of (suc n) ≡ digits = cc in
    out (record {
      numeral = subst IsNumeral same (decimal_of_numeral (suc n));
      sign = λ f zero_is. let none : suc n ≡ 0 = decimal_of-injective (suc n) 0 (same ∙ zero_is ∙ sym decimal_of_zero) in cc;
    })
no_number_text bytes false digits split out (negsuc n) e = split.1 (ap (λ (xs : List ℕ). slice_index xs 0) (sym e))

-- nor does a number begin with a quote
pub no_quote : (z : ℤ) → slice_index (number_text z) 0 ≢ 34
no_quote (pos n) e = digit_first (decimal_of n) (decimal_of_numeral n) e
  where
    digit_first : (ds : List ℕ) → IsNumeral ds → slice_index ds 0 ≢ 34
    digit_first [] h f = cc
    digit_first (c ∷ cs) h f = omega (arith, glyph_is c (and_left _ _ h.all))
no_quote (negsuc n) e = omega arith

-- the text of a number tells the number
minus_is_no_digit : (m n : ℕ) → decimal_of m ≢ 45 ∷ decimal_of n
minus_is_no_digit m n e = no_minus (decimal_of m) (decimal_of_numeral m) (ap (λ (xs : List ℕ). slice_index xs 0) e)

pub number_text-injective : (y z : ℤ) → number_text y ≡ number_text z → y ≡ z
number_text-injective (pos m) (pos n) e = ap pos (decimal_of-injective m n e)
number_text-injective (pos m) (negsuc n) e = absurd (minus_is_no_digit m (suc n) e)
number_text-injective (negsuc m) (pos n) e = absurd (minus_is_no_digit n (suc m) (sym e))
number_text-injective (negsuc m) (negsuc n) e =
    let same : decimal_of (suc m) ≡ decimal_of (suc n) = cc in
    let sizes : suc m ≡ suc n = decimal_of-injective (suc m) (suc n) same in
    cc

-- no type holds a number of 2^64 or more, or of -2^64 or less
pub too_big : (t : ValueType) (is_negative : Bool) (size : ℕ) → 2 ^ 64 ≤ size → ¬ (Fits (Number (signed is_negative size)) t)
too_big t true zero h f = omega arith
too_big Int8 true (suc n) h f = omega (arith, ints)
too_big Int16 true (suc n) h f = omega (arith, ints)
too_big Int32 true (suc n) h f = omega (arith, ints)
too_big Int64 true (suc n) h f = omega (arith, ints)
too_big Uint8 true (suc n) h f = omega (arith, ints)
too_big Uint16 true (suc n) h f = omega (arith, ints)
too_big Uint32 true (suc n) h f = omega (arith, ints)
too_big Uint64 true (suc n) h f = omega (arith, ints)
too_big Text true (suc n) h f = f.0 refl
too_big Int8 false size h f = omega (arith, ints)
too_big Int16 false size h f = omega (arith, ints)
too_big Int32 false size h f = omega (arith, ints)
too_big Int64 false size h f = omega (arith, ints)
too_big Uint8 false size h f = omega (arith, ints)
too_big Uint16 false size h f = omega (arith, ints)
too_big Uint32 false size h f = omega (arith, ints)
too_big Uint64 false size h f = omega (arith, ints)
too_big Text false size h f = f.0 refl
