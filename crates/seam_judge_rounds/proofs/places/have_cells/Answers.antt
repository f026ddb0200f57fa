use Rattle.std.proofs.Common.{◌≡◌, true, arith}
use Rattle.seam_judge_rounds.specs.Points.{HasCell}
use Rattle.seam_judge_data.specs.Standings.{standing_of}
use Rattle.seam_judge_rounds.proofs.Agreeing.{all_more}
use Rattle.seam_judge_rounds.proofs.places.have_cells.Goals as goal

pub loop-create-preserved : goal.loop-create-preserved
loop-create-preserved c =
    let yes : c.in_ok-may_be.may_be ≡ true = first_of (cc, grind arith) in
    all_more (HasCell c.args.header.now (standing_of c.args.before.now) (standing_of c.args.after.now)) c.args.live.now
    c.loop-create.create-index _ c.loop-create-test.true (c.in_ok-may_be.ensures.0 yes) c.loop-create.invariant
