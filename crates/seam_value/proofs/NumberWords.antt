-- Words that are numbers.
use Rattle.std.proofs.Common.{◌≡◌, ◌<◌, ◌≤◌, ◌^◌, ℕ, pos, List, arith, sym, ◌∙◌, ap, subst, rules}
use Rattle.std.specs.Str.Parse.{digits_value}
use Rattle.seam_value.specs.Values.{decimal_of}
use Rattle.seam_value.specs.Numerals.{IsNumeral}
use Rattle.seam_value.proofs.Decimals.{decimal_of-injective, decimal_of_numeral, decimal_of-digits_value, digits_value-decimal_of}
use Rattle.seam_value.proofs.Decimals.{number_text_is}
use Rattle.std.specs.Fmt.{decimal}
use Rattle.seam_value.specs.NumberWords.{SpellsNumber, SpellsPositive}

-- a word that is a numeral spells its number, if 32 bits hold that, and no other word does
pub numeral_spells : (word : List ℕ) (n : ℕ) → IsNumeral word → n ≡ digits_value 10 word → n < 2 ^ 32 → SpellsNumber word n
numeral_spells word n h e small = record { whole = small; spelled = ap decimal_of e ∙ decimal_of-digits_value word h }

pub spells_none : (word : List ℕ) → (IsNumeral word → 2 ^ 32 ≤ digits_value 10 word) → (n : ℕ) → ¬ (SpellsNumber word n)
spells_none word big n spells =
    let numeral : IsNumeral word = subst IsNumeral spells.spelled (decimal_of_numeral n) in
    let value : digits_value 10 word ≡ n = ap (digits_value 10) (sym spells.spelled) ∙ digits_value-decimal_of n in
    absurd (omega (arith, big numeral, spells.whole))

-- what spells 0 spells no number from 1 on
pub zero_is_not_positive : (bytes : List ℕ) → SpellsNumber bytes 0 → (n : ℕ) → ¬ (SpellsPositive bytes n)
zero_is_not_positive bytes zero n spells =
    let same : n ≡ 0 = decimal_of-injective n 0 (spells.number.spelled ∙ sym zero.spelled) in
    let some = spells.some in
    absurd (omega arith)

-- a word spells one number
pub spells_one_number : (word : List ℕ) (m n : ℕ) → SpellsNumber word m → SpellsNumber word n → m ≡ n
spells_one_number word m n one other = decimal_of-injective m n (one.spelled ∙ sym other.spelled)

-- what is printed of a number of 64 bits is its decimal
pub decimal_is : (n : ℕ) → n < 2 ^ 64 → decimal_of n ≡ decimal n
decimal_is n small = number_text_is (pos n) (search (rules, small))
