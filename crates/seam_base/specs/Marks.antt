-- Which base parts are marked, so that the next one is found without a search of all.
use Rattle.std.specs.Prelude.{◌≡◌, ℕ, Bool, true, false, is_some, List, Option, None, Some, find, option_map, map as each}
use Rattle.std.specs.FinMap as table
use Rattle.seam_node_steps.specs.Prelude.{Map, number_of, PartView}

-- there is a part, and it passes the test
abbrev pub passes : (PartView → Bool) → Option PartView → Bool
passes test None = false
passes test (Some p) = test p

-- the entities whose parts pass the test are marked, and no others
abbrev pub AreMarked : {M : Type 0} → (PartView → Bool) → Map M → Map PartView → Type 0
AreMarked test marks parts = (e : ℕ) → is_some (table.get marks e) ≡ passes test (table.get parts e)

-- the entity marked or not
abbrev pub marked : {M : Type 0} → Bool → Map M → ℕ → M → Map M
marked true marks e m = table.insert marks e m
marked false marks e m = table.remove marks e

-- the entities, each with nothing
abbrev pub bare : List ℕ → List (ℕ × Unit {0})
bare es = each (λ e. (e, tt)) es

-- the marks of these entities
abbrev pub marks_of : List ℕ → Map (Unit {0})
marks_of es = table.from_entries (bare es)

abbrev pub any_mark : {M : Type 0} → ℕ × M → Bool
any_mark p = true

abbrev pub passes_in : (PartView → Bool) → ℕ × PartView → Bool
passes_in test p = test p.1

-- the least entity whose part passes the test
abbrev pub least : (PartView → Bool) → Map PartView → Option ℕ
least test parts = option_map number_of (find (passes_in test) (table.entries parts))

-- each entity's part passes the test in both or in neither
abbrev pub PassAlike : (PartView → Bool) → Map PartView → Map PartView → Type 0
PassAlike test old new = (e : ℕ) → passes test (table.get new e) ≡ passes test (table.get old e)
