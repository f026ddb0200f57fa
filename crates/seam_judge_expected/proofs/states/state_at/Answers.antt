use Rattle.std.proofs.Common.{◌∙◌, ap, Bor, arith}
use Rattle.seam_rule_rounds.specs.Prelude.{after, Call}
use Rattle.seam_judge_expected.proofs.Walks.{flat_more}
use Rattle.seam_judge_expected.proofs.states.state_at.Goals as goal

pub loop-v-preserved : goal.loop-v-preserved
loop-v-preserved c =
    let t = c.type_at-in-loop-v.result.now in
    flat_more c.args.header.now c.args.part c.args.create c.args.order.now c.loop-v.v c.index-order-v.result t c.loop-v.state
    c.apply.new.state (omega arith)
    (c.in_ok-_changed.ensures.ok ∙ ap (λ (x : Bor Call). after t c.loop-v.state x.now.deed) c.index-order-v.is)
    c.type_at-in-loop-v.ensures.value c.loop-v.invariant
