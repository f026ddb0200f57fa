-- Finite maps by number: what they have at one number set or taken away, and each value changed. And a list with an item.
use Rattle.std.specs.Prelude.{ℕ, Bool, true, false, List, [], ◌∷◌, map, Option, None, Some}
use Rattle.std.specs.Ordering.{nat_cmp, match_ordering}
use Rattle.std.specs.FinMap as table

abbrev pub Map : Type 0 → Type 0
Map X = table.FinMap nat_cmp X

-- the map with this at the number, or nothing there
abbrev pub set_at : {X : Type 0} → Map X → ℕ → Option X → Map X
set_at m e None = table.remove m e
set_at m e (Some x) = table.insert m e x

-- the number of an entry
abbrev pub number_of : {X : Type 0} → ℕ × X → ℕ
number_of p = p.0

abbrev pub with_value : {X Y : Type 0} → (X → Y) → ℕ × X → ℕ × Y
with_value f p = (p.0, f p.1)

-- each value changed
abbrev pub each_value : {X Y : Type 0} → (X → Y) → Map X → Map Y
each_value f m = table.from_entries (map (with_value f) (table.entries m))

-- the numbers in rising order, with one more
abbrev pub with_entity : ℕ → List ℕ → List ℕ
with_entity e [] = e ∷ []
with_entity e (x ∷ xs) = match_ordering (nat_cmp e x) (e ∷ x ∷ xs) (x ∷ xs) (x ∷ with_entity e xs)

-- the list has an item
abbrev pub has_any : {A : Type 0} → List A → Bool
has_any [] = false
has_any (x ∷ xs) = true
