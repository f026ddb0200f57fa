use Rattle.std.proofs.Common.{arith}
use Rattle.std.proofs.lemmas.Bool.Decides.{nat_tests}
use Rattle.std.proofs.lemmas.Result.{IfOk-weaker}
use Rattle.seam_check.proofs.Judgments.{end_closed, end_open, open_is}
use Rattle.seam_check.proofs.judging.take_end.Goals as goal

pub returns-then-is_empty : goal.returns-then-is_empty
returns-then-is_empty c = λ h t beside.
    let long = open_is h t c.args.script.now beside c.standing.result.now c.standing.ensures in
    end_closed h t c.args.text.now
    (grind (arith, nat_tests, c.is_empty.ensures, c.if-is_empty.true, long, c.standing.result.now.current.ok.0))

pub take_round-requires : goal.take_round-requires
take_round-requires c = c.requires

pub returns : goal.returns
returns c =
    IfOk-weaker c.take_round.result _ _ (λ r taken h t beside.
    let long = open_is h t c.args.script.now beside c.standing.result.now c.standing.ensures in
    end_open h t c.args.text.now
    (λ none. grind (arith, nat_tests, c.is_empty.ensures, c.if-is_empty.false, long, none, c.standing.result.now.current.ok.0))
    c.take_round.new.script r (taken h t beside))
    c.take_round.ensures
