use Rattle.std.proofs.Common.{sym, ap, ◌∙◌}
use Rattle.std.proofs.lemmas.Result.{on_ok_weaker}
use Rattle.seam_machine.specs.Nets.{with_node}
use Rattle.seam_core.proofs.Loading.{order_given, order_lost}
use Rattle.seam_core.proofs.loads.give.Goals as goal

pub returns-in-Some : goal.returns-in-Some
returns-in-Some c =
    let w = c.args.net.now in
    let k = c.args.to in
    let at = sym c.in-Some.ensures.value in
    on_ok_weaker c.give.result
    (λ is. ap (with_node w k) is ∙ order_given k c.args.order w c.requires c.in-Some.node.now at)
    (c.give.ensures k (c.requires k c.in-Some.node.now at))

pub returns-in-None : goal.returns-in-None
returns-in-None c = sym (order_lost c.args.to c.args.order c.args.net.now c.requires (sym c.in-None.ensures.value))
