-- The entities that live, and those that are there in the open round, in rising number.
use Rattle.std.specs.Prelude.{◌≡◌, ℕ, Bool, false, ◌==◌, ◌||◌, List, map, find, Contains, Option, None, Some, option_map, if◌then◌else◌}
use Rattle.std.specs.List.{list_any}
use Rattle.std.specs.Option.{option_or}
use Rattle.std.specs.Ordering.{nat_cmp}
use Rattle.std.specs.BTreeMap.{BTreeMap, get, IsOrdered}
use Rattle.seam_node_steps.specs.Prelude.{Create}
use Rattle.seam_rule_rounds.specs.Prelude.{Book, created_as, live_as, has_client, is_shown, was_dead, Lists}
use Rattle.seam_world_text.specs.declared.residents.Resident.{Resident}

-- ---- by the book

-- the list has exactly these entities, in rising number, and says of each whether it has a client
pub record ListsResidents (entities : ℕ → Option Create) (has : ℕ → Bool) (rs : List Resident) : Type 0 where
  pub listed : Lists entities (map (λ r. r.made) rs)
  pub clients : (r : Resident) → Contains rs r → r.client ≡ has r.made.entity

-- the entities that live, and which of them have a client
abbrev pub AreResidents : Book → List Resident → Type 0
AreResidents b rs = ListsResidents (live_as b) (has_client b) rs

-- the entity of a number that is there in the open round: one that was created, and was not dead before
abbrev pub present_as : Book → ℕ → Option Create
present_as b e = if was_dead b e then None else created_as b e

-- the entities that are there in the open round, and which of them have a client in it
abbrev pub ArePresent : Book → List Resident → Type 0
ArePresent b rs = ListsResidents (present_as b) (is_shown b) rs

-- ---- by number

-- the map has each resident under its own number
pub record IsByNumber (m : BTreeMap ℕ Resident) : Type 0 where
  pub ordered : IsOrdered nat_cmp m
  pub named : (e : ℕ) (r : Resident) → get nat_cmp m e ≡ Some r → r.made.entity ≡ e

-- whether the number is in the list
abbrev pub is_among : ℕ → List ℕ → Bool
is_among e xs = list_any (λ d. d == e) xs

-- an entity that was made just now
abbrev pub newcomer : Create → Resident
newcomer c = record { made = c; client = false }

-- it has a client too, where that is so
abbrev pub joined_if : Bool → Resident → Resident
joined_if b r = record { made = r.made; client = r.client || b }

-- the entities are added, each where nobody had its number
abbrev pub Adds : List Create → BTreeMap ℕ Resident → BTreeMap ℕ Resident → Type 0
Adds cs old new =
    (e : ℕ) → get nat_cmp new e ≡ option_or (get nat_cmp old e) (option_map newcomer (find (λ c. c.entity == e) cs))

-- those of these numbers have a client too
abbrev pub Joins : List ℕ → BTreeMap ℕ Resident → BTreeMap ℕ Resident → Type 0
Joins es old new = (e : ℕ) → get nat_cmp new e ≡ option_map (joined_if (is_among e es)) (get nat_cmp old e)

-- those of these numbers are taken away
abbrev pub Removes : List ℕ → BTreeMap ℕ Resident → BTreeMap ℕ Resident → Type 0
Removes es old new = (e : ℕ) → get nat_cmp new e ≡ if is_among e es then None else get nat_cmp old e
