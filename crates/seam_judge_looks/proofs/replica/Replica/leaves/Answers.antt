use Rattle.seam_judge_looks.specs.Replicas.{client_of}
use Rattle.seam_judge_looks.specs.LookParts.{leave_of}
use Rattle.seam_judge_looks.proofs.Walks.{given_more}
use Rattle.seam_judge_looks.proofs.replica.Replica.leaves.Goals as goal

pub loop-entry-preserved : goal.loop-entry-preserved
loop-entry-preserved c =
    given_more (leave_of (client_of c.args.self.now) c.args.own c.args.others.now) c.args.entries.now c.loop-entry.entry-index _
    c.loop-entry.lines.items c.push_some.new.lines.items c.leave_of.result c.loop-entry-test.true c.loop-entry.invariant c.leave_of.ensures
    c.in_ok-push_some.ensures
