use Rattle.std.proofs.Common.{ap, ◌∙◌, ◌&&◌}
use Rattle.seam_node_steps.specs.Prelude.{may_offer, order_of}
use Rattle.seam_node_steps.specs.BaseCases.{may_execute}
use Rattle.seam_base.proofs.part.BasePart.may_call.Goals as goal

pub returns-then-not-fits : goal.returns-then-not-fits
returns-then-not-fits c = λ me.
    ap
    (λ a. a && (may_offer (order_of c.args.self.now.orders c.args.call.now.sender) c.args.call.now.number && may_execute c.args.self.now))
    (c.if-not-fits.ensures me)

pub returns : goal.returns
returns c = λ me.
    c.may_execute.ensures
    ∙ (λ i. c.if-not-fits.ensures me i && (c.if-not-may_take.ensures i && may_execute c.args.self.now))
