-- What is near a witness, as the lists of locations give it, and what it decides.
use Rattle.std.specs.Prelude.{◌≡◌, ℕ, Bool, true, false, not, nat_eq, nat_lt, List, filter, Option, None, Some}
use Rattle.std.specs.Prelude.{T, if◌then◌else◌}
use Rattle.std.specs.Ordering.{nat_cmp}
use Rattle.std.specs.FinMap as table
use Rattle.std.specs.FinMap.Entries.{is_sorted}
use Rattle.seam_node_steps.specs.Prelude.{Pos, GhostCopy, Known, seen_as}
use Rattle.seam_range.specs.declared.Location.{Location}
use Rattle.seam_range.specs.Locations.{is_within}
use Rattle.seam_view.specs.declared.Seen.{Seen}
use Rattle.seam_view.specs.declared.Look.{Look}
use Rattle.seam_view.specs.declared.Look.TheVariants.{Leave, Set, Enter}
use Rattle.seam_view.specs.Replica.{Replica, seen_of}
use Rattle.seam_view.specs.ViewLooks.{is_far}

-- what is known of an entity, with its number
abbrev pub known_entity : ℕ → GhostCopy → Known
known_entity e g = (e, g)

-- and as it is seen
abbrev pub seen_of_entity : ℕ → GhostCopy → Seen
seen_of_entity e g = seen_as (known_entity e g)

-- ---- lists of locations

-- the location, if it is at distance at most d from a position
abbrev pub location_within : Pos → ℕ → Option Location → Option Location
location_within p d None = None
location_within p d (Some x) = if is_within p d x then Some x else None

-- a list, in rising number, of just the locations at distance at most d from a position; of entity `own` it says nothing
pub record AreNear (p : Pos) (d own : ℕ) (location : ℕ → Option Location) (xs : List (ℕ × Location)) : Type 0 where
  pub rising : T (is_sorted nat_cmp xs)
  pub others : (q : ℕ) → nat_eq own q ≡ false → table.find nat_cmp q xs ≡ location_within p d (location q)

-- ---- what it decides

-- the entity is known to be within radius and hysteresis together
abbrev pub is_near : Replica → Pos → Seen → Bool
is_near r own s = not (is_far r own s.pos)

-- of what is known these are all that are near, and maybe others
abbrev pub HasNear : Replica → Pos → List Seen → List Seen → Type 0
HasNear r own known seen = (t : Seen → Bool) × ((s : Seen) → is_near r own s ≡ true → t s ≡ true) × (seen ≡ filter t known)

-- an entity was shown at a greater version than it is known at
abbrev pub was_newer : Option ℕ → Option Seen → Bool
was_newer None o = false
was_newer (Some v) None = false
was_newer (Some v) (Some s) = nat_lt s.version v

-- the look is the leave of such an entity, which stays in view, however far it is known to be
abbrev pub is_early : Replica → List Seen → Look → Bool
is_early r known (Leave e) = was_newer (table.get r.shown e) (seen_of e known)
is_early r known (Set e) = false
is_early r known (Enter e) = false
