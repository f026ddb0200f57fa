use Rattle.std.proofs.Common.{◌∙◌, arith}
use Rattle.seam_judge_plain.proofs.Lists.{line_added}
use Rattle.seam_judge_plain.proofs.clients.add_lines.Goals as goal

pub loop-text-preserved : goal.loop-text-preserved
loop-text-preserved c = (
  line_added c.args.create c.args.former c.args.texts.now c.loop-text.text-index _ c.args.lines.now.items c.loop-text.lines.items
      c.push.new.self.items c.in_ok-copied.field-0 c.loop-text.number c.in_ok-number.number c.loop-text-test.true c.loop-text.invariant.0
      c.loop-text.invariant.1 c.in_ok-number.ensures (c.in_ok-copied.ensures ∙ c.text-item.is) c.in_ok-push.ensures.items,
  omega (arith, c.loop-text.invariant.1, c.in_ok-number.ensures),
)
