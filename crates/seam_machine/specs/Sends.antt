-- Items on their way out, each with the number of its target.
use Rattle.std.specs.Prelude.{ℕ, zero, suc, map, ◌++◌, ◌<◌, ◌==◌, List, [], ◌∷◌, Option, None, Some, if◌then◌else◌}
use Rattle.std.specs.List.{All}

-- to whom the first of the items goes
abbrev pub first_target : {M : Type 0} → List (ℕ × M) → Option ℕ
first_target [] = None
first_target (p ∷ ps) = Some p.0

-- the items that go to node b, in order
abbrev pub items_to : {M : Type 0} → ℕ → List (ℕ × M) → List M
items_to b [] = []
items_to b (p ∷ ps) = if p.0 == b then p.1 ∷ items_to b ps else items_to b ps

-- each item goes to a node below n
abbrev pub AllBelow : {M : Type 0} → ℕ → List (ℕ × M) → Type 0
AllBelow n items = All (λ p. p.0 < n) items

-- what f has for each node below n, in the order of the nodes
abbrev pub spread : {M : Type 0} → ℕ → (ℕ → List M) → List (ℕ × M)
spread zero f = []
spread (suc n) f = spread n f ++ map (λ m. (n, m)) (f n)
