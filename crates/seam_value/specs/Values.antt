-- Values, the types that they fit, and their spelling.
use Rattle.std.specs.Prelude.{◌≡◌, ◌≢◌, ℕ, ℤ, pos, negsuc, suc, ◌+◌, ◌≤ℤ◌, List, [], ◌∷◌, map, if◌then◌else◌, ◌==◌}
use Rattle.std.specs.Int.Digits.{digits_of}
use Rattle.seam_value.specs.declared.types.ValueType.{ValueType}
use Rattle.seam_value.specs.declared.types.ValueType.TheVariants as type
use Rattle.seam_value.specs.declared.values.Value.{Value}
use Rattle.seam_value.specs.declared.values.Value.TheVariants.{Number, Text}
use Rattle.seam_value.specs.Types.{least, greatest}
use Rattle.seam_value.specs.Texts.{IsShortText, quoted}

-- the number lies from the type's least to its greatest, or the text is short and the type is the text type
abbrev pub Fits : Value → ValueType → Type 0
Fits (Number z) t = (t ≢ type.Text) × (least t ≤ℤ z) × (z ≤ℤ greatest t)
Fits (Text bytes) t = (t ≡ type.Text) × IsShortText bytes

-- the decimal digits of a number, the highest first; 0 has the one digit 0
unfoldable pub decimal_of : ℕ → List ℕ
decimal_of n = if n == 0 then 48 ∷ [] else map (λ d. 48 + d) (digits_of 10 n)

-- a number in decimal, with a minus sign where it is below 0
abbrev pub number_text : ℤ → List ℕ
number_text (pos n) = decimal_of n
number_text (negsuc n) = 45 ∷ decimal_of (suc n)

-- the one spelling of a value
abbrev pub text_of : Value → List ℕ
text_of (Number z) = number_text z
text_of (Text bytes) = quoted bytes
