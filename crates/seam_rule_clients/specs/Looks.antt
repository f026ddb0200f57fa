-- One look: what a client is shown of a flat table, in which each live entity is as it is now.
use Rattle.std.specs.Prelude.{◌≡◌, ℕ, ◌+◌, ◌≤◌, IsTrue, IsFalse, Bool, true, not, ◌==◌, nat_lt, List, [], ◌∷◌, ◌++◌, map}
use Rattle.std.specs.Prelude.{filter, find, Option, None, Some, option_map, if◌then◌else◌}
use Rattle.std.specs.List.{filter_map, AllByRecursion}
use Rattle.seam_geo.specs.Pos.{distance}
use Rattle.seam_view.specs.declared.Seen.{Seen}
use Rattle.seam_view.specs.declared.Look.{Look}
use Rattle.seam_view.specs.declared.Look.TheVariants as look
use Rattle.seam_view.specs.ViewLooks.{in_view}
use Rattle.seam_view.specs.Plain.{plain_look}
use Rattle.seam_defs.specs.declared.states.State.{State}
use Rattle.seam_call.specs.declared.shown.GhostCopy.{GhostCopy}
use Rattle.seam_call.specs.declared.shown.Shown.{Shown}
use Rattle.seam_call.specs.declared.shown.Shown.TheVariants.{Own, Enter, Set, Leave}
use Rattle.seam_rule_clients.specs.Clients.{ClientReplica}

-- A live entity in the flat table: its version and what its own client is shown at it; and its type, its public version and what other
-- clients are shown at that. Both states have its position.
pub record Row : Type 0 where
  pub entity : ℕ
  pub version : ℕ
  pub own : State
  pub other : GhostCopy

-- the row of an entity, where it lives
abbrev pub row_of : List Row → ℕ → Option Row
row_of rows e = find (λ r. r.entity == e) rows

-- the rows of all others
abbrev pub rows_but : ℕ → List Row → List Row
rows_but e rows = filter (λ r. not (r.entity == e)) rows

-- an entity as a view sees it: its public version, and where it is
abbrev pub seen : Row → Seen
seen r = record { entity = r.entity; version = r.other.version; pos = r.other.state.pos }

-- what a client is shown for a look at an entity
abbrev pub shown_for : List Row → Look → Option Shown
shown_for rows (look.Leave e) = Some (Leave e)
shown_for rows (look.Set e) = option_map (λ r. Set e r.other) (row_of rows e)
shown_for rows (look.Enter e) = option_map (λ r. Enter e r.other) (row_of rows e)

-- the version is newer than that of the last own line, if there was one
abbrev pub is_newer : Option (ℕ × State) → ℕ → Bool
is_newer None version = true
is_newer (Some last) version = nat_lt last.0 version

-- the own state, where it is newer than the last one shown
abbrev pub own_shown : ClientReplica → Row → List Shown
own_shown c r = if is_newer c.own r.version then Own r.version r.own ∷ [] else []

-- one look of an entity at the others: its own state; then those of its view that are gone or far leave, and those that stay and have
-- changed are set, both in enter order; then those that are new and near enter, in rising number
abbrev pub look_at : ClientReplica → Row → List Row → List Shown
look_at c r others = own_shown c r ++ filter_map (shown_for others) (plain_look c.others r.own.pos (map seen others))

-- the same where there is such an entity
abbrev pub look_by : ClientReplica → Option Row → List Row → List Shown
look_by c None others = []
look_by c (Some r) others = look_at c r others

-- one look of an entity's client at the table: nothing where the entity does not live
abbrev pub one_look : ClientReplica → ℕ → List Row → List Shown
one_look c e rows = look_by c (row_of rows e) (rows_but e rows)

-- an entity in view, last shown at a version, is one of the table within radius and hysteresis, and has no newer public version
pub record IsShownNow (c : ClientReplica) (r : Row) (others : List Row) (e v : ℕ) : Type 0 where
  pub row : Row
  pub is : row_of others e ≡ Some row
  pub within : distance r.own.pos row.other.state.pos ≤ c.others.radius + c.others.hysteresis
  pub newest : row.other.version ≤ v

-- What a client shows is the table: its own version; each other entity within the radius is in view; and each in view is an entity of
-- the table within radius and hysteresis, at its public version.
pub record ShowsTable (c : ClientReplica) (r : Row) (others : List Row) : Type 0 where
  pub own : IsFalse (is_newer c.own r.version)
  pub near : AllByRecursion (λ f. distance r.own.pos f.other.state.pos ≤ c.others.radius → IsTrue (in_view c.others f.entity)) others
  pub in_view_ : AllByRecursion (λ p. IsShownNow c r others p.0 p.1) c.others.entries
