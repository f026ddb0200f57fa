-- How a table of copies and a table of dropped beats are a book.
use Rattle.std.specs.Prelude.{ℕ, ◌++◌, None, Some, map as each}
use Rattle.std.specs.Ordering.{nat_cmp}
use Rattle.std.specs.FinMap as map
use Rattle.seam_table.specs.Tables.{TableView}
use Rattle.seam_ghosts.specs.declared.Ghost.{Ghost}
use Rattle.seam_ghosts.specs.declared.Held.{Held}
use Rattle.seam_ghosts.specs.Book.{BookView}

-- the ghost of an entity with this copy
abbrev pub with_its_copy : {P : Type 0} → ℕ × Held P → ℕ × Ghost P
with_its_copy h = (h.0, record { beat = h.1.beat; copy = Some h.1.copy })

-- and of one whose copy was dropped at this beat
abbrev pub without_copy : {P : Type 0} → ℕ × ℕ → ℕ × Ghost P
without_copy d = (d.0, record { beat = d.1; copy = None })

-- the ghosts of the entities that have a copy, and of the others whose copy was dropped
abbrev pub joined : {P : Type 0} → map.FinMap nat_cmp (Held P) → map.FinMap nat_cmp ℕ → map.FinMap nat_cmp (Ghost P)
joined copies dropped = map.from_entries (each with_its_copy (map.entries copies) ++ each without_copy (map.entries dropped))

abbrev pub book_of : {P : Type 0} → TableView (Held P) → TableView ℕ → BookView P
book_of copies dropped = record { ghosts = joined copies.items dropped.items }
