-- The first line of an input.
use Rattle.std.proofs.Common.{◌≡◌, ℕ, ◌+◌, ◌<◌, Bool, true, false, ◌==◌, List, [], ◌∷◌, ◌++◌, length, refl, sym, ◌∙◌, ap, arith, inl, inr}
use Rattle.std.proofs.Common.{length-append}
use Rattle.std.specs.Prelude.{◌⊎◌}
use Rattle.std.proofs.lemmas.Bool.Decides.{nat_tests}
use Rattle.seam_io.specs.Lines.{HasNoFeed, Line, line_of, lines_of}
use Rattle.seam_io.proofs.LineLemmas.{lines_of-fed, lines_of-last, lines_of-none}

pub none_left : (xs : List ℕ) → length xs ≡ 0 → xs ≡ []
none_left [] e = refl
none_left (x ∷ xs) e = absurd (omega (arith, e))

pub empty_is : (xs : List ℕ) (b : Bool) → b ≡ (length xs == 0) → b ≡ true → xs ≡ []
empty_is xs b is at = none_left xs (grind (arith, nat_tests, is, at))

pub some_long : (xs : List ℕ) (b : Bool) → b ≡ (length xs == 0) → b ≡ false → 0 < length xs
some_long xs b is at = grind (arith, nat_tests, is, at)

pub no_line : (bytes : List ℕ) → bytes ≡ [] → lines_of bytes ≡ []
no_line bytes none = ap lines_of none ∙ lines_of-none

pub first_line : (bytes text rest : List ℕ) → 0 < length bytes → HasNoFeed text →
    (bytes ≡ text ++ 10 ∷ rest) ⊎ ((bytes ≡ text) × (rest ≡ [])) →
    (lines_of bytes ≡ line_of text ∷ lines_of rest) × (length rest < length bytes)
first_line bytes text rest some none (inl is) = (
  ap lines_of is ∙ lines_of-fed text rest none,
  omega (arith, ap length is, length-append text (10 ∷ rest)),
)
first_line bytes text rest some none (inr (is, nothing)) =
    let short : length rest ≡ 0 = ap length nothing in
    let long : 0 < length text = omega (arith, some, ap length is) in (
      ap lines_of is ∙ lines_of-last text none long ∙ ap (λ (ls : List Line). line_of text ∷ ls) (sym (no_line rest nothing)),
      omega (arith, short, some),
    )
