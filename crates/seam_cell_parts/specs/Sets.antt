-- Ordered sets of entities, as lists of their numbers in rising order.
use Rattle.std.specs.Prelude.{◌≡◌, ℕ, List, [], ◌∷◌, Option, None, Some}
use Rattle.std.specs.List.Sorted.{IsStrictlySortedBy}
use Rattle.std.specs.Ordering.{nat_cmp}

-- the first of a list
abbrev pub first_of : {A : Type 0} → List A → Option A
first_of [] = None
first_of (x ∷ xs) = Some x

-- the one that is alone, or else those of the list
abbrev pub members : Option ℕ → List ℕ → List ℕ
members None xs = xs
members (Some e) xs = e ∷ []

-- where one is alone, the list is empty
abbrev pub IsAlone : Option ℕ → List ℕ → Type 0
IsAlone None xs = Unit {0}
IsAlone (Some e) xs = xs ≡ []

-- the list is in rising order, and empty where one is alone
pub record IsSet (one : Option ℕ) (xs : List ℕ) : Type 0 where
  pub rising : IsStrictlySortedBy nat_cmp xs
  pub alone : IsAlone one xs
