-- A number that is first brought to 128 bits has the same nearest number of a type.
use Rattle.std.proofs.Common.{◌≡◌, ℕ, ℤ, pos, negsuc, ◌^◌, ◌-◌, ◌≤ℤ◌, min, refl, ap, ◌∙◌, rules, arith}
use Rattle.std.specs.Int.{int_max, int_min, saturate_to_bits}
use Rattle.std.proofs.lemmas.Int.{ints, clamps}
use Rattle.seam_value.specs.Types.{least, greatest}
use Rattle.seam_value.specs.declared.types.ValueType.{ValueType}
use Rattle.seam_value.specs.declared.types.ValueType.TheVariants.{Int8, Int16, Int32, Int64, Uint8, Uint16, Uint32, Uint64, Text}
use Rattle.seam_defs.specs.Deeds.{nearest}

cut : ℕ → ℤ → ℤ
cut m (pos n) = pos (min n m)
cut m (negsuc n) = negsuc (min n m)

cut-nearest : (l h : ℤ) (m : ℕ) → negsuc m ≤ℤ l → h ≤ℤ pos m → (z : ℤ) → int_max (int_min (cut m z) h) l ≡ int_max (int_min z h) l
unfolding cut
cut-nearest l h m low high (pos n) = omega (arith, ints, clamps)
cut-nearest l h m low high (negsuc n) = omega (arith, ints, clamps)

cut-is : (z : ℤ) → saturate_to_bits 127 z ≡ cut (2 ^ 127 - 1) z
unfolding cut
cut-is (pos n) = refl
cut-is (negsuc n) = refl

from : (t : ValueType) → negsuc (2 ^ 127 - 1) ≤ℤ least t
from Int8 = search rules
from Int16 = search rules
from Int32 = search rules
from Int64 = search rules
from Uint8 = search rules
from Uint16 = search rules
from Uint32 = search rules
from Uint64 = search rules
from Text = search rules

upto : (t : ValueType) → greatest t ≤ℤ pos (2 ^ 127 - 1)
upto Int8 = search rules
upto Int16 = search rules
upto Int32 = search rules
upto Int64 = search rules
upto Uint8 = search rules
upto Uint16 = search rules
upto Uint32 = search rules
upto Uint64 = search rules
upto Text = search rules

pub nearest-saturated : (t : ValueType) (z : ℤ) → nearest t (saturate_to_bits 127 z) ≡ nearest t z
nearest-saturated t z = ap (nearest t) (cut-is z) ∙ cut-nearest (least t) (greatest t) (2 ^ 127 - 1) (from t) (upto t) z
