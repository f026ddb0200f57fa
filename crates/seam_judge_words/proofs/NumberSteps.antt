-- What a word spells is one number.
use Rattle.std.proofs.Common.{◌≡◌, ◌≢◌, ℕ, ◌<◌, ◌^◌, ℤ, pos, to_z, of_z, List, Result, Ok, Err, sym, ◌∙◌, ap, subst, arith}
use Rattle.std.specs.Prelude.{OkIff, unsigned_abs}
use Rattle.std.specs.Int.{FitsUnsigned, w64, w128}
use Rattle.std.specs.Result.{result_unwrap_or}
use Rattle.std.proofs.lemmas.Int.{ints, to_z_pos}
use Rattle.seam_value.specs.NumberWords.{IsWhole, SpellsNumber}
use Rattle.seam_value.specs.Values.{Fits, decimal_of}
use Rattle.seam_value.specs.declared.types.ValueType.TheVariants.{Uint64, Text}
use Rattle.seam_value.specs.declared.values.Value.TheVariants.{Number}
use Rattle.seam_value.proofs.Decimals.{decimal_of-injective}

pub spells_this : (word : List ℕ) (n m : ℕ) → SpellsNumber word m → word ≡ decimal_of n → m ≡ n
spells_this word n m spells e = decimal_of-injective m n (spells.spelled ∙ e)

pub spells_it : (word : List ℕ) (n : ℕ) → IsWhole n → word ≡ decimal_of n → SpellsNumber word n
spells_it word n whole e = record { whole = whole; spelled = sym e }

is_no_text : Uint64 ≢ Text
is_no_text e = cc

pub long_fits : (n : ℕ) → n < 2 ^ 64 → Fits (Number (pos n)) Uint64
long_fits n small = (is_no_text, omega (arith, ints), omega (arith, ints))

pub ok_is : {A E : Type 0} (r : Result A E) (x y : A) → r ≡ Ok x → r ≡ Ok y → x ≡ y
ok_is r x y one other = cc

pub not_both : {A E : Type 0} (r : Result A E) (x : A) (e : E) → r ≡ Err e → r ≡ Ok x → ⊥
not_both r x e failed is = cc

-- a number of 64 bits, as an integer of 128 bits, is one of the type
back : (n : ℕ) → n < 2 ^ 64 → to_z w128 (of_z w128 (pos n)) ≡ pos n
back n small = to_z_pos w128 n (omega (arith, small))

pub long_again : {E : Type 0} (z : ℤ) (n : ℕ) (tried : Result ℕ E) → z ≡ pos n → n < 2 ^ 64 →
    OkIff tried (FitsUnsigned w64 (to_z w128 (of_z w128 z))) (unsigned_abs (to_z w128 (of_z w128 z))) → result_unwrap_or tried 0 ≡ n
long_again z n (Ok x) is small (fits, same) =
    same ∙ ap (λ (y : ℤ). unsigned_abs (to_z w128 (of_z w128 y))) is ∙ ap unsigned_abs (back n small)
long_again z n (Err e) is small none =
    absurd (none (subst (FitsUnsigned w64) (sym (ap (λ (y : ℤ). to_z w128 (of_z w128 y)) is ∙ back n small))
    (omega (arith, ints), omega (arith, ints))))
