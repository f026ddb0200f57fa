-- Lists of items that are sent: by node, and about others alone.
use Rattle.std.specs.Prelude.{◌≡◌, ℕ, List, [], ◌∷◌, Option, None, Some}
use Rattle.std.specs.List.{AllByRecursion}

-- what is chosen for a node goes to that node
abbrev pub HasOwnTargets : {M : Type 0} → (ℕ → Option (ℕ × M)) → Type 0
HasOwnTargets {M} f = (k : ℕ) (p : ℕ × M) → f k ≡ Some p → p.0 ≡ k

-- the item alone, or nothing
abbrev pub item_of : {M : Type 0} → Option (ℕ × M) → List M
item_of None = []
item_of (Some p) = p.1 ∷ []

-- none of the items is about the entity
abbrev pub IsSilent : {T L : Type 0} → (T → Option L) → List (ℕ × T) → Type 0
IsSilent mine items = AllByRecursion (λ p. mine p.1 ≡ None) items
