-- Members and items of a document, one by one.
use Rattle.std.specs.Prelude.{◌≡◌, ⊤, ℕ, List, [], ◌∷◌, Option, Some, None}
use Rattle.toml.specs.Data.{Data, table, array, Members, no_members, member, Items, no_items, item}

-- the members define the entries of a list, each its own, in their order: that of the bytes of their keys
abbrev pub Each : {X : Type 0} → (List ℕ → Data → X → Type 0) → Members → List X → Type 0
Each Defines no_members [] = ⊤
Each Defines no_members (x ∷ xs) = ⊥
Each Defines (member key d ms) [] = ⊥
Each Defines (member key d ms) (x ∷ xs) = Defines key d x × Each Defines ms xs

-- the same of what is under a key that may be missing: it is a table, and no entry is where it is missing
abbrev pub EachUnder : {X : Type 0} → (List ℕ → Data → X → Type 0) → Option Data → List X → Type 0
EachUnder Defines None xs = xs ≡ []
EachUnder Defines (Some (table ms)) xs = Each Defines ms xs
EachUnder Defines (Some d) xs = ⊥

-- the items make the entries of a list, each its own, in their order
abbrev pub EachItem : {X : Type 0} → (Data → X → Type 0) → Items → List X → Type 0
EachItem Makes no_items [] = ⊤
EachItem Makes no_items (x ∷ xs) = ⊥
EachItem Makes (item d ds) [] = ⊥
EachItem Makes (item d ds) (x ∷ xs) = Makes d x × EachItem Makes ds xs

-- the same of what is under a key that may be missing: it is a list, and no entry is where it is missing
abbrev pub EachItemUnder : {X : Type 0} → (Data → X → Type 0) → Option Data → List X → Type 0
EachItemUnder Makes None xs = xs ≡ []
EachItemUnder Makes (Some (array ds)) xs = EachItem Makes ds xs
EachItemUnder Makes (Some d) xs = ⊥
