-- Lists of the locations of reals and copies as one list of what is seen.
use Rattle.std.specs.Prelude.{ℕ, Bool, true, false, not, is_some, List, [], ◌∷◌, filter}
use Rattle.std.specs.Ordering.{nat_cmp, match_ordering}
use Rattle.std.specs.FinMap as table
use Rattle.seam_node_steps.specs.Prelude.{RealView, Map, is_another}
use Rattle.seam_range.specs.declared.Location.{Location}
use Rattle.seam_view.specs.declared.Seen.{Seen}

-- what is seen of it, where the first is true
abbrev pub seen_if : Bool → Seen → List Seen
seen_if true s = s ∷ []
seen_if false s = []

-- an entity as it is seen at its location
abbrev pub seen_at_location : ℕ × Location → Seen
seen_at_location x = record { entity = x.0; version = x.1.version; pos = x.1.pos }

abbrev pub is_other : ℕ → ℕ × Location → Bool
is_other own x = is_another own x.0

-- those of whose entities no real is here
abbrev pub without_reals : Map RealView → List (ℕ × Location) → List (ℕ × Location)
without_reals reals xs = filter (λ x. not (is_some (table.get reals x.0))) xs

-- one before the rest of its list, and those of another list, as they come in rising number
abbrev pub merged_with : ℕ × Location → (List (ℕ × Location) → List (ℕ × Location)) → List (ℕ × Location) → List (ℕ × Location)
merged_with x rest [] = x ∷ rest []
merged_with x rest (y ∷ ys) = match_ordering (nat_cmp x.0 y.0) (x ∷ rest (y ∷ ys)) (x ∷ rest ys) (y ∷ merged_with x rest ys)

-- two lists in rising number as one; where both have an entity, the first one's location of it
abbrev pub merged : List (ℕ × Location) → List (ℕ × Location) → List (ℕ × Location)
merged [] ys = ys
merged (x ∷ xs) ys = merged_with x (merged xs) ys
