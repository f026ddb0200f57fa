-- What is left of a list that a test is asked of.
use Rattle.std.proofs.Common.{◌≡◌, Bool, true, false, ◌&&◌, List, ◌∷◌, refl, sym, ap, ◌∙◌}
use Rattle.std.specs.List.{list_all}

first_fails : (b c : Bool) → b ≡ false → (b && c) ≡ false
first_fails true c e = cc
first_fails false c e = refl

first_passes : (b c : Bool) → b ≡ true → (b && c) ≡ c
first_passes true c e = refl
first_passes false c e = cc

module _ {X : Type 0} (test : X → Bool) (all left rest : List X) (x : X) (same : list_all test left ≡ list_all test all)
    (head : left ≡ x ∷ rest) where
  pub one_fails : test x ≡ false → false ≡ list_all test all
  one_fails e = sym (first_fails (test x) (list_all test rest) e) ∙ ap (list_all test) (sym head) ∙ same

  pub one_passes : test x ≡ true → list_all test rest ≡ list_all test all
  one_passes e = sym (first_passes (test x) (list_all test rest) e) ∙ ap (list_all test) (sym head) ∙ same
