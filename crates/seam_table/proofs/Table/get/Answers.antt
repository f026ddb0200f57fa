use Rattle.std.proofs.Common.{sym, ap, ◌∙◌}
use Rattle.std.specs.FinMap as map
use Rattle.std.specs.Option.{option_flatten}
use Rattle.seam_table.specs.Entries.{table_of}
use Rattle.seam_table.proofs.TableLemmas.{item-slot, room_of_entry, same_room}
use Rattle.seam_table.proofs.Table.get.Goals as goal

pub returns-in-Some-clause-item : goal.returns-in-Some-clause-item
returns-in-Some-clause-item g c =
    c.as_ref.ensures.value
    ∙ (ap option_flatten c.in-Some.ensures.value
    ∙ (sym (item-slot c.self.inside.entries.entries c.args.n c.self.invariant)
    ∙ ap (λ w. map.get w.items c.args.n) c.self.view_is))

pub returns-in-Some-clause-room : goal.returns-in-Some-clause-room
returns-in-Some-clause-room g c =
    same_room (table_of c.self.inside.entries.entries) c.args.self.now c.args.n c.as_ref.result c.self.view_is
    (room_of_entry c.self.inside.entries.entries c.args.n c.in-Some.slot.now c.as_ref.result c.in-Some.ensures.value)

pub returns-in-None-clause-item : goal.returns-in-None-clause-item
returns-in-None-clause-item g c =
    ap option_flatten c.in-None.ensures.value
    ∙ (sym (item-slot c.self.inside.entries.entries c.args.n c.self.invariant)
    ∙ ap (λ w. map.get w.items c.args.n) c.self.view_is)
