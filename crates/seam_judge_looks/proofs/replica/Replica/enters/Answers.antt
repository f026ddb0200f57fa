use Rattle.std.proofs.Common.{◌∙◌, ap}
use Rattle.seam_judge_looks.specs.Replicas.{client_of}
use Rattle.seam_judge_looks.specs.LookParts.{enter_of}
use Rattle.seam_judge_looks.proofs.Walks.{given_more}
use Rattle.seam_judge_looks.proofs.replica.Replica.enters.Goals as goal

pub loop-row-preserved : goal.loop-row-preserved
loop-row-preserved c =
    given_more (enter_of (client_of c.args.self.now) c.args.own c.args.others.now) c.args.others.now c.loop-row.row-index c.row-item.result
    c.loop-row.lines.items c.push_some.new.lines.items c.in_ok-enter_of.field-0 c.loop-row-test.true c.loop-row.invariant
    (c.in_ok-enter_of.ensures ∙ ap (enter_of (client_of c.args.self.now) c.args.own c.args.others.now) c.row-item.is)
    c.in_ok-push_some.ensures
