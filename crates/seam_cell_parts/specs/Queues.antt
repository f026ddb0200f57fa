-- Queues of entities in rising number, out of which entities are taken.
use Rattle.std.specs.Prelude.{◌≡◌, ℕ, ◌+◌, ◌<◌, cond, List, [], ◌∷◌, length, get_or, map, filter}
use Rattle.std.specs.List.Sorted.{IsStrictlySortedBy}
use Rattle.std.specs.Ordering.{nat_cmp}
use Rattle.seam_cell_parts.specs.declared.entity_queue.Entry.{Entry}

abbrev pub entities : List Entry → List ℕ
entities = map (λ w. w.entity)

-- the entities that still wait
abbrev pub waiting : List Entry → List ℕ
waiting ws = entities (filter (λ w. w.waits) ws)

-- the entry at that place is the entity's
pub record IsAt (ws : List Entry) (i e : ℕ) : Type 0 where
  pub within : i < length ws
  pub entity : (d : Entry) → (get_or ws i d).entity ≡ e

-- how many come before the first that waits
abbrev pub passed : List Entry → ℕ
passed [] = 0
passed (w ∷ ws) = cond w.waits 0 (passed ws + 1)

-- the entities are in rising order, and the first that waits is at the place, if one waits
pub record IsQueue (place : ℕ) (ws : List Entry) : Type 0 where
  pub rising : IsStrictlySortedBy nat_cmp (entities ws)
  pub first : place ≡ passed ws
