-- What clients were told that is printed from a world, and the copies that it shows.
use Rattle.std.specs.Prelude.{List, [], Option, None, Some, if◌then◌else◌}
use Rattle.std.specs.List.{All}
use Rattle.std.specs.FinMap as table
use Rattle.seam_node_steps.specs.Prelude.{Line, Map, World}
use Rattle.seam_report.specs.Spelled.{Versions, ShowsOf}
use Rattle.seam_world_text.specs.Finding.{lines_found}
use Rattle.seam_world_text.specs.declared.farewells.Farewell.{Farewell}
use Rattle.seam_world_text.specs.declared.residents.Resident.{Resident}

-- all that these lines show of other entities is there
abbrev pub ShowOf : Versions → List Line → Type 0
ShowOf vs ls = All (λ l. ShowsOf vs l.text) ls

-- these lines, where no text was kept of them
abbrev pub unless_kept : Option Farewell → List Line → List Line
unless_kept None ls = ls
unless_kept (Some kept) ls = []

-- the lines of a resident's client that are printed from the world
abbrev pub told_by : Map Farewell → World → Resident → List Line
told_by farewells w r = if r.client then unless_kept (table.get farewells r.made.entity) (lines_found w r.made.entity) else []
