use Rattle.std.proofs.Common.{true, ap, ◌∙◌}
use Rattle.std.specs.FinMap as table
use Rattle.seam_base.proofs.Marks.{mark_changed, marked_there}
use Rattle.seam_base.proofs.mark_set.MarkSet.insert.Goals as goal

pub returns-in-Ok-clause-ok : goal.returns-in-Ok-clause-ok
returns-in-Ok-clause-ok c =
    mark_changed c.self.inside.entities.keys c.insert.new.self.keys c.args.e true c.in-Ok.ensures.updates.0
    ∙ ap (λ m. table.insert m c.args.e tt) c.self.view_is

pub returns-in-Ok-clause-there : goal.returns-in-Ok-clause-there
returns-in-Ok-clause-there c =
    ap (λ m. table.get m c.args.e) (mark_changed c.self.inside.entities.keys c.insert.new.self.keys c.args.e true c.in-Ok.ensures.updates.0)
    ∙ marked_there _ c.args.e
