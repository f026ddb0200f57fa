-- What a cell has of one entity, and what a step makes of it.
use Rattle.std.specs.Prelude.{ℕ, Bool, true, false, List, [], Option, None, Some}
use Rattle.seam_ghosts.specs.declared.Ghost.{Ghost}
use Rattle.seam_ghosts.specs.Book.{ghost_after}
use Rattle.seam_call.specs.declared.shown.GhostCopy.{GhostCopy}
use Rattle.seam_entity.specs.Reals.{RealView}
use Rattle.seam_entity.specs.declared.message.Msg.{Msg}

-- the cell to which the real was handed over, and the generation that it had then
pub record NextPlace : Type 0 where
  pub cell : ℕ
  pub generation : ℕ

-- the real, the next place, and the greatest beat heard with the copy if there is one
pub record Slot : Type 0 where
  pub real : Option RealView
  pub next : Option NextPlace
  pub ghost : Option (Ghost GhostCopy)

-- what a step makes of one entity's slot, or None where it stays; whether the entity's entries in the survey and look lists go;
-- and what is sent
pub record SlotStep : Type 0 where
  pub slot : Option Slot
  pub unlisted : Bool
  pub sent : List (ℕ × Msg)

-- nothing changes
abbrev pub rests : SlotStep
rests = record { slot = None; unlisted = false; sent = [] }

-- the step of a case, or none at a stray input
abbrev pub unless_stray : Bool → SlotStep → SlotStep
unless_stray true t = rests
unless_stray false t = t

-- the slot is another one, and nothing is sent
abbrev pub becomes : Slot → SlotStep
becomes s = record { slot = Some s; unlisted = false; sent = [] }

-- the own book takes a message of this beat: it is ignored unless its beat is greater than any heard before
abbrev pub heard : Slot → ℕ → Option GhostCopy → Slot
heard s beat copy = record s { ghost = ghost_after s.ghost (record { beat = beat; copy = copy }) }

-- the slot after a step of it
abbrev pub slot_after : Option Slot → Slot → Slot
slot_after None s = s
slot_after (Some t) s = t
