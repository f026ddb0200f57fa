-- What a message brings to a cell's book of ghosts, and what the book has of the entity.
use Rattle.std.specs.Prelude.{ℕ, Option, None, Some}
use Rattle.seam_node_steps.specs.Prelude.{beat_in, copy_in, GhostCopy, Msg, Hand, GhostSet, GhostDrop}
use Rattle.seam_law_calls.specs.Prelude.{Has}

-- a beat, and the copy that was told with it, or none
abbrev pub Entry : Type 0
Entry = ℕ × Option GhostCopy

-- a set brings a copy, a drop none; a hand-over brings none at the real's beat
abbrev pub brings : Msg → Option Entry
brings (Hand r bs) = Some (r.beat, None)
brings (GhostSet e n c) = Some (n, Some c)
brings (GhostDrop e n) = Some (n, None)
brings _ = None

-- the greatest beat that the cell's book heard, with the copy if there is one
abbrev pub book_entry : Has → Entry
book_entry s = (beat_in s.cell.slot.ghost, copy_in s.cell.slot.ghost)
