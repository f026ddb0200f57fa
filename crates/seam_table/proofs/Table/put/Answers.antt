use Rattle.std.proofs.Common.{sym, ap, ◌∙◌, is_some}
use Rattle.std.specs.FinMap as map
use Rattle.std.specs.FinSet as set
use Rattle.std.specs.Option.{option_flatten}
use Rattle.seam_table.specs.Tables.{with_item}
use Rattle.seam_table.proofs.TableLemmas.{item-slot, table-written, room-slot}
use Rattle.seam_table.proofs.Table.put.Goals as goal

pub returns-in-Ok-clause-old : goal.returns-in-Ok-clause-old
returns-in-Ok-clause-old g c =
    c.flatten.ensures
    ∙ (ap option_flatten c.in-Ok.ensures.old
    ∙ (sym (item-slot c.self.inside.entries.entries c.args.n c.self.invariant)
    ∙ ap (λ w. map.get w.items c.args.n) c.self.view_is))

pub returns-in-Ok-clause-after : goal.returns-in-Ok-clause-after
returns-in-Ok-clause-after g c =
    table-written c.self.inside.entries.entries c.insert.new.self.entries c.self.invariant c.insert.ensures.unique c.args.n c.args.item
    c.in-Ok.ensures.updates.0
    ∙ ap (λ w. with_item w c.args.n c.args.item) c.self.view_is

pub returns-in-Err-clause-err_only_first : goal.returns-in-Err-clause-err_only_first
returns-in-Err-clause-err_only_first g c =
    ap (λ w. set.contains w.room c.args.n) (sym c.self.view_is)
    ∙ (room-slot c.self.inside.entries.entries c.args.n ∙ ap is_some c.in-Err.ensures.absent)
