use Rattle.std.proofs.Common.{sym, ap, ◌∙◌}
use Rattle.std.specs.FinSet as set
use Rattle.seam_table.proofs.TableLemmas.{room-slot}
use Rattle.seam_table.proofs.Table.has_room.Goals as goal

pub returns : goal.returns
returns g c =
    c.contains_key.ensures
    ∙ (sym (room-slot c.self.inside.entries.entries c.args.n) ∙ ap (λ w. set.contains w.room c.args.n) c.self.view_is)
