-- The lines of clients whose entities die in a round, which are written when the calls have ended, since nothing is left of them later.
use Rattle.std.specs.Prelude.{◌≡◌, ℕ, List, length, Option, None, Some, if◌then◌else◌, IsTrue}
use Rattle.std.specs.List.{list_any}
use Rattle.std.specs.FinMap as table
use Rattle.std.specs.Ordering.{nat_cmp}
use Rattle.std.specs.BTreeMap.{BTreeMap, get}
use Rattle.seam_node_steps.specs.Prelude.{TypeDef, Create, Map, World}
use Rattle.seam_rule_rounds.specs.Prelude.{Book, destroys, is_shown}
use Rattle.seam_world_text.specs.Residents.{present_as, is_among}
use Rattle.seam_world_text.specs.Finding.{lines_found}
use Rattle.seam_world_text.specs.RoundParts.{shown_so_far}
use Rattle.seam_world_text.specs.declared.farewells.Farewell.{Farewell}
use Rattle.seam_world_text.specs.declared.residents.Resident.{Resident}

-- what is kept of the client of an entity that was made so: the text of the lines that it was shown so far, and how many they are
abbrev pub kept_of : List TypeDef → World → Create → Farewell
kept_of defs w c = record { text = shown_so_far defs w c; lines = length (lines_found w c.entity) }

-- For each client of the round whose entity dies in it there is what it was shown by then, and nothing for any other.
abbrev pub AreFarewells : List TypeDef → Book → World → Map Farewell → Type 0
AreFarewells defs b called farewells =
    (c : Create) → present_as b c.entity ≡ Some c → IsTrue (is_shown b c.entity) →
    table.get farewells c.entity ≡ if list_any (destroys c.entity) b.current then Some (kept_of defs called c) else None

-- the farewell of a resident, if it has a client
abbrev pub farewell_of : List TypeDef → World → Option Resident → Option Farewell
farewell_of defs w None = None
farewell_of defs w (Some r) = if r.client then Some (kept_of defs w r.made) else None

-- those of the residents of these numbers
abbrev pub AreOf : List TypeDef → World → BTreeMap ℕ Resident → List ℕ → Map Farewell → Type 0
AreOf defs w m es farewells =
    (e : ℕ) → table.get farewells e ≡ if is_among e es then farewell_of defs w (get nat_cmp m e) else None
