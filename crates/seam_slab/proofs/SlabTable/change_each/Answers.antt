use Rattle.std.proofs.Common.{sym, ap, ◌∙◌}
use Rattle.seam_table.specs.Tables.{with_each}
use Rattle.seam_table.proofs.ChangeLemmas.{table_changed}
use Rattle.seam_slab.specs.Slotted.{slotted}
use Rattle.seam_slab.proofs.Slots.{keys_slotted, same_room, distinct_slotted, agree_when_changed, slotted_changed}
use Rattle.seam_slab.proofs.SlabTable.change_each.Goals as goal

pub returns-clause-after : goal.returns-clause-after
returns-clause-after g c f leaves =
    let s = c.self.inside.slots in
    let t = c.change_slots.new.slots in
    let es = c.self.inside.keys.entries in
    table_changed f (slotted s es) (slotted t es) (distinct_slotted s es c.self.invariant.distinct)
    (keys_slotted t es ∙ sym (keys_slotted s es)) (slotted_changed f s t (c.change_slots.ensures.after f leaves) es)
    ∙ ap (with_each f) c.self.view_is

pub returns-clause-room : goal.returns-clause-room
returns-clause-room g c =
    same_room c.self.inside.slots c.change_slots.new.slots c.self.inside.keys.entries ∙ ap (λ w. w.room) c.self.view_is

pub invariant_of-self : goal.invariant_of-self
invariant_of-self g c =
    agree_when_changed c.self.inside.slots c.change_slots.new.slots c.self.inside.keys.entries c.self.invariant
    c.change_slots.ensures.kept
