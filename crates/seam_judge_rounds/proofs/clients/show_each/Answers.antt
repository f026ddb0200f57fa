use Rattle.std.proofs.Common.{◌≡◌, true, arith}
use Rattle.seam_rule_rounds.specs.ClientLines.{ShowsClient}
use Rattle.seam_judge_data.specs.Standings.{standing_of}
use Rattle.seam_judge_rounds.proofs.Agreeing.{all_more}
use Rattle.seam_judge_rounds.proofs.clients.show_each.Goals as goal

pub loop-create-preserved : goal.loop-create-preserved
loop-create-preserved c =
    let so : c.in_ok-right.right ≡ true = first_of (cc, grind arith) in
    all_more (ShowsClient c.args.case.now.header.now (standing_of c.args.case.now.before.now) c.args.case.now.round.now
    (standing_of c.args.case.now.after.now))
    c.args.clients.now c.loop-create.create-index _ c.loop-create-test.true (c.in_ok-right.ensures.0 so) c.loop-create.invariant
