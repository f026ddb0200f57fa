use Rattle.std.proofs.Common.{false, ap, ◌∙◌}
use Rattle.std.specs.FinMap as table
use Rattle.seam_base.proofs.Marks.{mark_changed}
use Rattle.seam_base.proofs.mark_set.MarkSet.remove.Goals as goal

pub returns : goal.returns
returns c =
    mark_changed c.self.inside.entities.keys c.remove.new.self.keys c.args.e false c.remove.ensures.updates.0
    ∙ ap (λ m. table.remove m c.args.e) c.self.view_is
