use Rattle.std.proofs.Common.{◌≡◌, true, arith, subst}
use Rattle.seam_rule_rounds.specs.Lines.{ClientLine}
use Rattle.seam_judge_data.specs.Standings.{standing_of}
use Rattle.seam_judge_rounds.specs.RoundClients.{AddsLines}
use Rattle.seam_judge_rounds.proofs.Agreeing.{all_more}
use Rattle.seam_judge_rounds.proofs.clients.are_told.Goals as goal

pub loop-line-preserved : goal.loop-line-preserved
loop-line-preserved c =
    let so : c.in_ok-told.told ≡ true = first_of (cc, grind arith) in
    let Told : ClientLine → Type 0 = λ (x : ClientLine).
    AddsLines (standing_of c.args.case.now.before.now) c.args.case.now.round.now (standing_of c.args.case.now.after.now) x.entity in
    all_more Told c.args.lines.now c.loop-line.line-index _ c.loop-line-test.true
    (subst Told c.line-item.is (subst Told c.line.view_is (c.in_ok-told.ensures.0 so))) c.loop-line.invariant
