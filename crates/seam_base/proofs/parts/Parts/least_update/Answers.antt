use Rattle.std.proofs.Common.{ap, ◌∙◌}
use Rattle.seam_base.specs.Nodes.{has_update}
use Rattle.seam_base.specs.Marks.{least}
use Rattle.seam_base.proofs.Marks.{least_marked}
use Rattle.seam_base.proofs.parts.Parts.least_update.Goals as goal

pub returns : goal.returns
returns c =
    c.least.ensures
    ∙ (least_marked has_update c.self.inside.updates c.self.inside.items.items c.self.invariant.1
    ∙ ap (least has_update) c.self.view_is)
