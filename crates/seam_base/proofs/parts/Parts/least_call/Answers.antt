use Rattle.std.proofs.Common.{ap, ◌∙◌}
use Rattle.seam_base.specs.Nodes.{has_call}
use Rattle.seam_base.specs.Marks.{least}
use Rattle.seam_base.proofs.Marks.{least_marked}
use Rattle.seam_base.proofs.parts.Parts.least_call.Goals as goal

pub returns : goal.returns
returns c =
    c.least.ensures
    ∙ (least_marked has_call c.self.inside.calls c.self.inside.items.items c.self.invariant.0
    ∙ ap (least has_call) c.self.view_is)
