-- Where the reals and the copies of a cell are, and at which version, as a list that is kept beside them.
use Rattle.std.specs.Prelude.{◌≡◌, ℕ, Bool, true, false, nat_eq, List, Option, None, Some, option_map, map as each, if◌then◌else◌}
use Rattle.std.specs.Ordering.{nat_cmp, eq_by_cmp}
use Rattle.std.specs.FinMap as map
use Rattle.seam_range.specs.declared.Location.{Location}
use Rattle.seam_range.specs.Locations.{Locations}
use Rattle.seam_node_steps.specs.Prelude.{Ghost, copy_in, copied, GhostCopy, RealView, Map, set_at}
use Rattle.seam_cell_parts.specs.declared.spots.Spots.{Spots}

-- the entity is the one that is out
abbrev pub is_out : Option ℕ → ℕ → Bool
is_out None e = false
is_out (Some x) e = nat_eq x e

-- none is out, or it is this entity
abbrev pub is_none_else_out : Option ℕ → ℕ → Bool
is_none_else_out None e = true
is_none_else_out (Some x) e = nat_eq x e

-- the one that is out, unless it is this entity
abbrev pub still_out : Option ℕ → ℕ → Option ℕ
still_out None e = None
still_out (Some x) e = if nat_eq x e then None else Some x

-- the list has each entity that has a location at that location, and no other; of the one that is out it says nothing
abbrev pub AreNoted : Locations → Option ℕ → (ℕ → Option Location) → Type 0
AreNoted l out location = (e : ℕ) → is_out out e ≡ false → map.get l e ≡ location e

-- where there is a list
abbrev pub AreListed : Option Locations → Option ℕ → (ℕ → Option Location) → Type 0
AreListed None out location = Unit {0}
AreListed (Some l) out location = AreNoted l out location

abbrev pub AreKeptNoted : Spots → (ℕ → Option Location) → Type 0
AreKeptNoted s location = AreListed s.list s.out location

-- a list that is left is the former one, changed at the entity as the location says
abbrev pub IsNoted : Option Locations → Option Locations → ℕ → Option Location → Type 0
IsNoted old None e location = Unit {0}
IsNoted old (Some l) e location = (k : Locations) × ((old ≡ Some k) × (l ≡ set_at k e location))

-- the locations of entities, where that of one changed
abbrev pub IsChanged : (ℕ → Option Location) → (ℕ → Option Location) → ℕ → Option Location → Type 0
IsChanged before after e o = (q : ℕ) → after q ≡ (if eq_by_cmp nat_cmp q e then o else before q)

abbrev pub location_of_real : RealView → Location
location_of_real r = record { version = r.public; pos = r.state.pos }

abbrev pub location_of_copy : GhostCopy → Location
location_of_copy c = record { version = c.version; pos = c.state.pos }

-- the location of each real, and of each copy
abbrev pub real_locations : Map RealView → ℕ → Option Location
real_locations reals e = option_map location_of_real (map.get reals e)

abbrev pub copy_locations : Map (Ghost GhostCopy) → ℕ → Option Location
copy_locations ghosts e = option_map location_of_copy (copy_in (map.get ghosts e))

-- the reals with their locations, and the copies, in rising number
abbrev pub located_reals : Map RealView → List (ℕ × Location)
located_reals reals = each (λ r. (r.0, location_of_real r.1)) (map.entries reals)

abbrev pub located_copies : Map (Ghost GhostCopy) → List (ℕ × Location)
located_copies ghosts = each (λ c. (c.0, location_of_copy c.1)) (copied (map.entries ghosts))
