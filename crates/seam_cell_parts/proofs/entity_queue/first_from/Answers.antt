use Rattle.std.proofs.Common.{arith}
use Rattle.seam_cell_parts.proofs.QueueLemmas.{passed_next, passed_all, passed_most}
use Rattle.seam_cell_parts.proofs.entity_queue.first_from.Goals as goal

pub loop-next-preserved : goal.loop-next-preserved
loop-next-preserved c =
    passed_next c.args.entries.now c.loop-next.next _ c.loop-next.invariant c.loop-next-test.true c.if-not-entries-next.true

pub returns-else-not-entries-next : goal.returns-else-not-entries-next
returns-else-not-entries-next c =
    passed_all c.args.entries.now c.loop-next.next _ c.loop-next.invariant c.loop-next-test.true c.if-not-entries-next.false

pub returns-after-loop-next : goal.returns-after-loop-next
returns-after-loop-next c =
    let most = passed_most c.args.entries.now in
    let low = c.loop-next.invariant in
    let past = c.loop-next-test.false in
    omega (arith, most, low, past)
