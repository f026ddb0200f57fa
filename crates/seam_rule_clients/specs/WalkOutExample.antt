-- A client and another entity that walks out of its view: what each look shows.
use Rattle.std.specs.Prelude.{ℕ, List, [], ◌∷◌}
use Rattle.seam_defs.specs.declared.states.State.{State}
use Rattle.seam_defs.specs.Settings.{standard}
use Rattle.seam_call.specs.declared.shown.GhostCopy.{GhostCopy}
use Rattle.seam_rule_clients.specs.Clients.{ClientReplica, new_client, after_all_shown}
use Rattle.seam_rule_clients.specs.Looks.{Row, one_look}

-- an entity at x, without properties
abbrev pub at : ℕ → State
at x = record { pos = record { x = x; z = 1000 }; props = [] }

-- what others are shown of an entity of type 0 there
abbrev pub copy_at : ℕ → ℕ → GhostCopy
copy_at version x = record { ty = 0; version = version; state = at x }

-- the row of such an entity, of which others see each of its versions
abbrev pub row : ℕ → ℕ → ℕ → Row
row e version x = record { entity = e; version = version; own = at x; other = copy_at version x }

-- entity 1, which has a client, and entity 2 at a version
abbrev pub table_of : ℕ → ℕ → List Row
table_of version x = row 1 0 1000 ∷ row 2 version x ∷ []

-- what the client shows after a look at the table
abbrev pub after_look_at : List Row → ClientReplica → ClientReplica
after_look_at rows c = after_all_shown c (one_look c 1 rows)

-- a client of radius 300 and hysteresis 10 that has looked at entity 2 where it began, and again when it had gone ten farther
abbrev pub once : ClientReplica
once = after_look_at (table_of 0 1300) (new_client standard)

abbrev pub twice : ClientReplica
twice = after_look_at (table_of 1 1310) once

-- and once more when it had gone one farther, and left the view
abbrev pub left : ClientReplica
left = after_look_at (table_of 2 1311) twice
