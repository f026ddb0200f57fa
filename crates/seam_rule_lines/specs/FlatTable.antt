-- The flat table: what the state of an entity is, without cells.
use Rattle.std.specs.Prelude.{ℕ, List, fold, take}
use Rattle.seam_defs.specs.Types.{type_of}
use Rattle.seam_defs.specs.Groups.{held_by}
use Rattle.seam_defs.specs.Deeds.{start_values, after}
use Rattle.seam_defs.specs.declared.flags.Part.{Part}
use Rattle.seam_defs.specs.declared.states.State.{State}
use Rattle.seam_call.specs.declared.call.Call.{Call}
use Rattle.seam_call.specs.declared.create.Create.{Create}
use Rattle.seam_toml.specs.declared.header.Header.{Header}

-- the state of a part of a new entity: its first position, and its type's defaults. A base part's position is never shown.
abbrev pub first_state : Header → Part → Create → State
first_state h p c = record { pos = c.pos; props = start_values (type_of h.defs c.ty).properties (held_by p) }

-- the state of a part after the first `v` calls of an order
abbrev pub flat : Header → Part → Create → List Call → ℕ → State
flat h p c order v = fold (λ s x. after (type_of h.defs c.ty) s x.deed) (first_state h p c) (take v order)
