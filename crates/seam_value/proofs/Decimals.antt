-- Numbers in decimal: what their digits are, and that they give the number back.
use Rattle.std.proofs.Common.{◌≡◌, ◌≢◌, ℕ, ◌+◌, ◌*◌, ◌/◌, ◌%◌, ◌<◌, ◌≤◌, ◌^◌, Bool, true, false, List, [], ◌∷◌, ◌++◌, length, refl, sym}
use Rattle.std.proofs.Common.{◌∙◌, ap, subst, arith, zero, suc, ℤ, pos, negsuc, ltb, ltb-true, ltb-false, zero-add, append_assoc}
use Rattle.std.specs.Prelude.{map, slice_index, ◌&&◌}
use Rattle.std.specs.List.{list_all}
use Rattle.std.specs.Char.{digit_value}
use Rattle.std.specs.Fmt.{decimal, signed_decimal}
use Rattle.std.specs.Int.Digits.{digits_of}
use Rattle.std.specs.Str.Parse.{digits_value, digits_value_after}
use Rattle.std.proofs.lemmas.Int.Digits.{digits_of_step, digits_value_push}
use Rattle.std.proofs.lemmas.Fmt.{decimal_by_steps_wide}
use Rattle.std.proofs.lemmas.Str.{digit_value_digit}
use Rattle.std.proofs.lemmas.Grind.{common_steps}
use Rattle.std.proofs.lemmas.List.{map-append}
use Rattle.std.proofs.lemmas.List.Folds.{list_all-append}
use mir.Syntax.{w128}
use mir.Val.{SFits}
use Rattle.seam_value.specs.Numerals.{is_digit, IsNumeral}
use Rattle.seam_value.specs.Values.{decimal_of, number_text}

-- above 0 the digits are those that std's words name
decimal_of_pos : (n : ℕ) → 0 < n → decimal_of n ≡ map (λ d. 48 + d) (digits_of 10 n)
unfolding decimal_of
decimal_of_pos n h = grind (arith, common_steps)

decimal_of_step : (n : ℕ) → 10 ≤ n → decimal_of n ≡ decimal_of (n / 10) ++ (48 + n % 10) ∷ []
decimal_of_step n h =
    let above : 0 < n = omega arith in
    let higher : 0 < n / 10 = omega arith in
    let glyphs : List ℕ → List ℕ = map (λ d. 48 + d) in
    decimal_of_pos n above ∙ ap glyphs (digits_of_step 10 n (omega arith) above)
    ∙ map-append (λ d. 48 + d) (digits_of 10 (n / 10)) (n % 10 ∷ [])
    ∙ ap (λ (xs : List ℕ). xs ++ (48 + n % 10) ∷ []) (sym (decimal_of_pos (n / 10) higher))

pub decimal_of_digit : (n : ℕ) → n < 10 → decimal_of n ≡ (48 + n) ∷ []
unfolding decimal_of
decimal_of_digit zero h = refl
decimal_of_digit (suc m) h =
    let above : 0 < suc m = omega arith in
    let glyphs : List ℕ → List ℕ = map (λ d. 48 + d) in
    let none : suc m / 10 ≡ 0 = omega arith in
    let same : suc m % 10 ≡ suc m = omega arith in
    decimal_of_pos (suc m) above ∙ ap glyphs (digits_of_step 10 (suc m) (omega arith) above) ∙ rw (none, same) refl

pub decimal_of_two : (n : ℕ) → 10 ≤ n → n < 100 → decimal_of n ≡ (48 + n / 10) ∷ (48 + n % 10) ∷ []
decimal_of_two n least most = rw (decimal_of_step n least, decimal_of_digit (n / 10) (omega arith)) refl

pub decimal_of_three : (n : ℕ) → 100 ≤ n → n < 1000 → decimal_of n ≡ (48 + n / 100) ∷ (48 + n / 10 % 10) ∷ (48 + n % 10) ∷ []
decimal_of_three n least most =
    let hundreds : n / 10 / 10 ≡ n / 100 = omega arith in
    rw (decimal_of_step n (omega arith), decimal_of_two (n / 10) (omega arith) (omega arith), hundreds) refl

-- what `{}` prints of a number is its decimal
pub decimal_of_is : (n : ℕ) → n < 10 ^ 64 → decimal_of n ≡ decimal n
decimal_of_is n h =
    decimal_by_steps_wide (λ m ds. decimal_of m ≡ ds) decimal_of_digit (λ m ds big e. decimal_of_step m big
    ∙ ap (λ (xs : List ℕ). xs ++ (48 + m % 10) ∷ []) e) n h

-- the same of a number with a sign
pub number_text_is : (z : ℤ) → SFits w128 z → number_text z ≡ signed_decimal z
number_text_is (pos n) f = decimal_of_is n (omega (arith, f))
number_text_is (negsuc n) f = ap (λ (xs : List ℕ). 45 ∷ xs) (decimal_of_is (suc n) (omega (arith, f)))

-- a fact of a number and its digits, from the digits one after another
from_step : (P : ℕ → List ℕ → Type 0) → ((n : ℕ) → n < 10 → P n ((48 + n) ∷ [])) →
    ((n : ℕ) (ds : List ℕ) → 10 ≤ n → P (n / 10) ds → P n (ds ++ (48 + n % 10) ∷ [])) → (n : ℕ) →
    (10 ≤ n → P (n / 10) (decimal_of (n / 10))) → (b : Bool) → ltb n 10 ≡ b → P n (decimal_of n)
from_step P one more n higher true e = let small : n < 10 = ltb-true n 10 e in subst (P n) (sym (decimal_of_digit n small)) (one n small)
from_step P one more n higher false e =
    let big : 10 ≤ n = ltb-false n 10 e in
    subst (P n) (sym (decimal_of_step n big)) (more n (decimal_of (n / 10)) big (higher big))

decimal_of_by_steps : (P : ℕ → List ℕ → Type 0) → ((n : ℕ) → n < 10 → P n ((48 + n) ∷ [])) →
    ((n : ℕ) (ds : List ℕ) → 10 ≤ n → P (n / 10) ds → P n (ds ++ (48 + n % 10) ∷ [])) → (fuel n : ℕ) → n ≤ fuel → P n (decimal_of n)
decimal_of_by_steps P one more zero n h = from_step P one more n (λ big. absurd (omega arith)) (ltb n 10) refl
decimal_of_by_steps P one more (suc fuel) n h =
    from_step P one more n (λ big. decimal_of_by_steps P one more fuel (n / 10) (omega arith)) (ltb n 10) refl

-- the digits of a number
record IsDecimal (n : ℕ) (ds : List ℕ) : Type 0 where
  all : list_all is_digit ds ≡ true
  some : 0 < length ds
  first : 0 < n → slice_index ds 0 ≢ 48
  none : n ≡ 0 → length ds ≡ 1
  value : digits_value 10 ds ≡ n

digit_is : (d : ℕ) → d < 10 → is_digit (48 + d) ≡ true
digit_is d h = grind (arith, common_steps)

digit_value_is : (d : ℕ) → d < 10 → digit_value (48 + d) ≡ d
digit_value_is d h = omega (arith, digit_value_digit (48 + d) (omega arith, omega arith))

one_digit : (n : ℕ) → n < 10 → IsDecimal n ((48 + n) ∷ [])
one_digit n h = record {
  all = grind (arith, digit_is n h);
  some = omega arith;
  first = λ above e. omega arith;
  none = λ e. refl;
  value = zero-add (digit_value (48 + n)) ∙ digit_value_is n h;
}

more_digits : (n : ℕ) (ds : List ℕ) → 10 ≤ n → IsDecimal (n / 10) ds → IsDecimal n (ds ++ (48 + n % 10) ∷ [])
more_digits n ds big d = record {
  all = list_all-append is_digit ds ((48 + n % 10) ∷ []) ∙ grind (arith, d.all, digit_is (n % 10) (omega arith));
  some = grind (arith, common_steps);
  first = λ above e. d.first (omega arith) (grind (arith, common_steps, d.some));
  none = λ e. absurd (omega arith);
  value = digits_value_push 10 ds (48 + n % 10) ∙ rw (d.value, digit_value_is (n % 10) (omega arith)) (omega arith);
}

is_decimal : (n : ℕ) → IsDecimal n (decimal_of n)
is_decimal n = decimal_of_by_steps IsDecimal one_digit more_digits n n (omega arith)

-- the decimal of a number is a numeral, and its digits give the number
pub decimal_of_numeral : (n : ℕ) → IsNumeral (decimal_of n)
decimal_of_numeral n = record {
  all = (is_decimal n).all;
  some = (is_decimal n).some;
  first = λ e. (is_decimal n).none (only_zero n ((is_decimal n).first) e);
}
  where
    only_zero : (m : ℕ) {x : ℕ} → (0 < m → x ≢ 48) → x ≡ 48 → m ≡ 0
    only_zero zero f e = refl
    only_zero (suc m) f e = absurd (f (omega arith) e)

pub digits_value-decimal_of : (n : ℕ) → digits_value 10 (decimal_of n) ≡ n
digits_value-decimal_of n = (is_decimal n).value

-- a digit, by its value
pub glyph_is : (c : ℕ) → is_digit c ≡ true → (digit_value c < 10) × (48 + digit_value c ≡ c)
glyph_is c d =
    let low : 48 ≤ c = grind (arith, common_steps) in
    let high : c ≤ 57 = grind (arith, common_steps) in
    let value : digit_value c + 48 ≡ c = digit_value_digit c (low, high) in
    (omega arith, omega arith)

pub and_left : (a b : Bool) → (a && b) ≡ true → a ≡ true
and_left true b h = refl
and_left false b h = h

pub and_right : (a b : Bool) → (a && b) ≡ true → b ≡ true
and_right true b h = h
and_right false b h = cc

-- a numeral is the decimal of its digits' number
onto_digit : (n d c : ℕ) → 0 < n → d < 10 → 48 + d ≡ c → decimal_of (n * 10 + d) ≡ decimal_of n ++ c ∷ []
onto_digit n d c h small e =
    let higher : (n * 10 + d) / 10 ≡ n = omega arith in
    let last : (n * 10 + d) % 10 ≡ d = omega arith in
    decimal_of_step (n * 10 + d) (omega arith) ∙ rw (higher, last, e) refl

onto_digits : (n : ℕ) (ds : List ℕ) → 0 < n → list_all is_digit ds ≡ true → decimal_of (digits_value_after 10 n ds) ≡ decimal_of n ++ ds
onto_digits n [] h d = grind (arith, common_steps)
onto_digits n (c ∷ cs) h d =
    let g = glyph_is c (and_left _ _ d) in
    onto_digits (n * 10 + digit_value c) cs (omega arith) (and_right _ _ d)
    ∙ ap (λ (xs : List ℕ). xs ++ cs) (onto_digit n (digit_value c) c h g.0 g.1)
    ∙ append_assoc (decimal_of n) (c ∷ []) cs

first_digit : (c : ℕ) (cs : List ℕ) (d : ℕ) → digit_value c ≡ d → IsNumeral (c ∷ cs) → decimal_of (digits_value_after 10 d cs) ≡ c ∷ cs
first_digit c [] zero e h =
    let g = glyph_is c (and_left _ _ h.all) in
    let glyph : 48 + 0 ≡ c = omega arith in
    decimal_of_digit 0 (omega arith) ∙ ap (λ (x : ℕ). x ∷ []) glyph
first_digit c (x ∷ xs) zero e h =
    let g = glyph_is c (and_left _ _ h.all) in
    let glyph : c ≡ 48 = omega arith in
    absurd (omega (arith, h.first glyph))
first_digit c cs (suc d) e h =
    let g = glyph_is c (and_left _ _ h.all) in
    let glyph : 48 + suc d ≡ c = omega arith in
    onto_digits (suc d) cs (omega arith) (and_right _ _ h.all)
    ∙ ap (λ (xs : List ℕ). xs ++ cs) (decimal_of_digit (suc d) (omega arith) ∙ ap (λ (x : ℕ). x ∷ []) glyph)

pub decimal_of-digits_value : (ds : List ℕ) → IsNumeral ds → decimal_of (digits_value 10 ds) ≡ ds
decimal_of-digits_value [] h = absurd (omega (arith, h.some))
decimal_of-digits_value (c ∷ cs) h =
    ap (λ (n : ℕ). decimal_of (digits_value_after 10 n cs)) (zero-add (digit_value c)) ∙ first_digit c cs (digit_value c) refl h

pub decimal_of-injective : (m n : ℕ) → decimal_of m ≡ decimal_of n → m ≡ n
decimal_of-injective m n e = sym (digits_value-decimal_of m) ∙ ap (digits_value 10) e ∙ digits_value-decimal_of n

pub decimal_of_zero : decimal_of 0 ≡ 48 ∷ []
decimal_of_zero = decimal_of_digit 0 (omega arith)
