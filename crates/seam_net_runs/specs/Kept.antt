-- A fact about links that stays true as items are put.
use Rattle.std.specs.Prelude.{ℕ, List, [], ◌∷◌, ◌++◌}
use Rattle.std.specs.List.{AllByRecursion}

-- Q stays true of a link from k as the items are put at its end
abbrev pub StaysTrue : {M : Type 0} → (ℕ → ℕ → List M → Type 0) → ℕ → List (ℕ × M) → Type 0
StaysTrue Q k items = AllByRecursion (λ p. (l : List _) → Q k p.0 l → Q k p.0 (l ++ p.1 ∷ [])) items
