use Rattle.std.proofs.Common.{ap, ◌∙◌, not}
use Rattle.seam_node_steps.specs.BaseCases.{stray_base_call}
use Rattle.seam_base.specs.Nodes.{here_in}
use Rattle.seam_base.proofs.parts.Parts.refuses.Goals as goal

pub returns-in-Some : goal.returns-in-Some
returns-in-Some c =
    ap not (c.may_call.ensures c.args.known.now.me) ∙ ap (stray_base_call (here_in c.args.known.now) c.args.call.now) c.in-Some.ensures
