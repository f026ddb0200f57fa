use Rattle.std.proofs.Common.{◌≡◌, true, arith, IsTrue, sym, ◌∙◌, subst}
use Rattle.seam_rule_rounds.specs.Prelude.{is_shown, ClientLine}
use Rattle.seam_judge_data.specs.Standings.{standing_of}
use Rattle.seam_judge_rounds.proofs.Agreeing.{all_more}
use Rattle.seam_judge_rounds.proofs.clients.are_of_clients.Goals as goal

pub loop-line-preserved : goal.loop-line-preserved
loop-line-preserved c =
    let so : c.in_ok-shown.shown ≡ true = first_of (cc, grind arith) in
    let Shown : ClientLine → Type 0 = λ (x : ClientLine). IsTrue (is_shown (standing_of c.args.standing.now).book x.entity) in
    all_more Shown c.args.lines.now c.loop-line.line-index _ c.loop-line-test.true
    (subst Shown c.line-item.is (subst Shown c.line.view_is (sym c.in_ok-shown.ensures ∙ so))) c.loop-line.invariant
