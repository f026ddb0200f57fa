use Rattle.seam_judge_looks.specs.Replicas.{client_of}
use Rattle.seam_judge_looks.specs.LookParts.{set_of}
use Rattle.seam_judge_looks.proofs.Walks.{given_more}
use Rattle.seam_judge_looks.proofs.replica.Replica.sets.Goals as goal

pub loop-entry-preserved : goal.loop-entry-preserved
loop-entry-preserved c =
    given_more (set_of (client_of c.args.self.now) c.args.own c.args.others.now) c.args.entries.now c.loop-entry.entry-index _
    c.loop-entry.lines.items c.push_some.new.lines.items c.in_ok-set_of.field-0 c.loop-entry-test.true c.loop-entry.invariant
    c.in_ok-set_of.ensures
    c.in_ok-push_some.ensures
