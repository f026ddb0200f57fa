use Rattle.std.proofs.Common.{◌≡◌, true, subst, arith, Bor}
use Rattle.seam_rule_rounds.specs.Prelude.{Shown, Truth, ShowsTruth, truth_of}
use Rattle.seam_judge_data.specs.Standings.{standing_of}
use Rattle.seam_judge_rounds.proofs.Agreeing.{all_more}
use Rattle.seam_judge_rounds.proofs.truth.are_true.Goals as goal

pub loop-x-preserved : goal.loop-x-preserved
loop-x-preserved c =
    let so : c.in_ok-so.so ≡ true = first_of (cc, grind arith) in
    let truth : Truth =
    truth_of c.args.case.now.header.now (standing_of c.args.case.now.before.now) (standing_of c.args.case.now.after.now) c.args.create in
    all_more (λ (x : Bor Shown). ShowsTruth truth x.now) c.args.shown.now c.loop-x.x-index c.x-item.result c.loop-x-test.true
    (subst (λ (x : Bor Shown). ShowsTruth truth x.now) c.x-item.is (c.in_ok-so.ensures.0 so)) c.loop-x.invariant
