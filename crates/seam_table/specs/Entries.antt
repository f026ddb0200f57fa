-- What table the entries of a hashed map are. An entry without an item is room for one.
use Rattle.std.specs.Prelude.{◌≡◌, ℕ, cond, nat_eq, List, [], ◌∷◌, Option, None, Some}
use Rattle.std.specs.Map.{keys_of, lookup}
use Rattle.std.specs.FinMap as map
use Rattle.std.specs.FinSet as set
use Rattle.seam_table.specs.Tables.{TableView}

abbrev pub kept_before : {T : Type 0} → ℕ → Option T → List (ℕ × T) → List (ℕ × T)
kept_before n None rest = rest
kept_before n (Some item) rest = (n, item) ∷ rest

-- the entries that have an item
abbrev pub kept : {T : Type 0} → List (ℕ × Option T) → List (ℕ × T)
kept [] = []
kept (s ∷ ss) = kept_before s.0 s.1 (kept ss)

abbrev pub table_of : {T : Type 0} → List (ℕ × Option T) → TableView T
table_of ss = record { items = map.from_entries (kept ss); room = set.from_list (keys_of ss) }

-- an entry more, or an entry written
abbrev pub Writes : {T : Type 0} → ℕ → Option T → List (ℕ × Option T) → List (ℕ × Option T) → Type 0
Writes n slot old new = (q : ℕ) → lookup (nat_eq q) new ≡ cond (nat_eq n q) (Some slot) (lookup (nat_eq q) old)
