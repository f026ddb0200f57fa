-- Tests of numbers, and of two answers.
use Rattle.std.proofs.Common.{◌≡◌, ℕ, Bool, true, false, eqb, ◌||◌, refl, sym, ◌∙◌, arith}
use Rattle.std.specs.Ordering.{nat_cmp}
use Rattle.std.specs.declared.cmp.Ordering.TheVariants.{Less}
use Rattle.std.proofs.lemmas.Bool.Decides.{nat_tests}

pub number_is : (a b : ℕ) → eqb a b ≡ true → a ≡ b
number_is a b t = grind (arith, nat_tests)

pub same_again : (a : ℕ) → eqb a a ≡ true
same_again a = grind (arith, nat_tests)

pub differs_too : (a b : ℕ) → eqb a b ≡ false → eqb b a ≡ false
differs_too a b t = grind (arith, nat_tests)

pub either_way : (a b : ℕ) → eqb a b ≡ eqb b a
either_way a b =
    elim (eqb a b) as (λ t. eqb a b ≡ t → eqb a b ≡ eqb b a) [
      | true ↦ λ h. h ∙ (let back : true ≡ eqb b a = grind (arith, nat_tests) in back)
      | false ↦ λ h. h ∙ sym (differs_too a b h)
    ] refl

pub apart : (x y : ℕ) → nat_cmp x y ≡ Less → eqb x y ≡ false
apart x y e = grind (arith, nat_tests)

pub or_second : (b c : Bool) → c ≡ true → (b || c) ≡ true
or_second true c h = refl
or_second false c h = h
