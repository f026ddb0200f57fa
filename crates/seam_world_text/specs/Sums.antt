-- What is counted of a resident, where its lines are not written.
use Rattle.std.specs.Prelude.{ℕ, ℤ, ◌+ℤ◌, length, fold, Option, None, Some, if◌then◌else◌}
use Rattle.std.specs.FinMap as table
use Rattle.seam_defs.specs.declared.flags.Part.TheVariants as part
use Rattle.seam_node_steps.specs.Prelude.{Map, World}
use Rattle.seam_rule_rounds.specs.Prelude.{HomeLine, hp_of}
use Rattle.seam_world_text.specs.Finding.{done_found, homes_found, lines_found}
use Rattle.seam_world_text.specs.declared.farewells.Farewell.{Farewell}
use Rattle.seam_world_text.specs.declared.residents.Resident.{Resident}

-- the calls that its cell part executed
abbrev pub did_count : World → Resident → ℕ
did_count w r = length (done_found part.Cell w r.made.entity)

-- a number of lines that was kept, or another one
abbrev pub kept_count : Option Farewell → ℕ → ℕ
kept_count None n = n
kept_count (Some kept) n = kept.lines

-- the lines that its client was shown: what was kept of that, or else what the world has, and none where it has no client
abbrev pub shown_count : Map Farewell → World → Resident → ℕ
shown_count farewells w r =
    if r.client then kept_count (table.get farewells r.made.entity) (length (lines_found w r.made.entity)) else 0

-- a sum and the hp of one more home
abbrev pub and_hp : ℤ → HomeLine → ℤ
and_hp n l = n +ℤ hp_of l

-- a sum and the hp of its home, if it has one
abbrev pub and_hp_found : World → ℤ → Resident → ℤ
and_hp_found w n r = fold and_hp n (homes_found w r.made.entity)
