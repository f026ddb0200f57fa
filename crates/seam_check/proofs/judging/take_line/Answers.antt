use Rattle.std.proofs.Common.{◌∙◌, ap, subst}
use Rattle.std.proofs.lemmas.Result.{IfOk-weaker}
use Rattle.seam_judge_reader.specs.Scripts.{LineRead}
use Rattle.seam_check.specs.Inputs.{as_line}
use Rattle.seam_check.specs.Judged.{RefusalTaken}
use Rattle.seam_check.proofs.Judgments.{kept, refused, round_ends, skipped, stands_at_round}
use Rattle.seam_check.proofs.judging.take_line.Goals as goal

pub take_round-requires : goal.take_round-requires
take_round-requires c =
    let l = as_line c.args.line in
    let (h, t, beside) = c.requires.stands in
    stands_at_round h t c.args.script.now beside l c.read_line.new.script
    (subst (λ r. LineRead h t l r c.read_line.new.script) c.in-RoundEnds.is (c.in_ok-cause.ensures h t beside.at))

pub returns-in-Refused : goal.returns-in-Refused
returns-in-Refused c =
    let l = as_line c.args.line in
    let mid = c.read_line.new.script in
    IfOk-weaker c.take_refusal.result _ _ (λ r taken h t beside.
    let read = subst (λ a. LineRead h t l a mid) c.in-Refused.is (c.in_ok-cause.ensures h t beside.at) in
    let lines = ap (λ s. s.lines) c.standing.ensures ∙ ap (λ u. u.lines) read.1.standing in
    refused h t c.args.script.now beside l mid c.args.text.now c.in-Refused.cause read r
    (subst (λ n. RefusalTaken n c.in-Refused.cause c.args.text.now r) lines taken))
    c.take_refusal.ensures

pub returns-in-RoundEnds : goal.returns-in-RoundEnds
returns-in-RoundEnds c =
    let l = as_line c.args.line in
    let mid = c.read_line.new.script in
    IfOk-weaker c.take_round.result _ _ (λ r taken h t beside.
    round_ends h t c.args.script.now beside l mid c.args.text.now
    (subst (λ a. LineRead h t l a mid) c.in-RoundEnds.is (c.in_ok-cause.ensures h t beside.at)) c.take_round.new.script r
    (λ s at. taken h s at))
    c.take_round.ensures

pub returns-in-Kept : goal.returns-in-Kept
returns-in-Kept c = λ h t beside.
    kept h t c.args.script.now beside (as_line c.args.line) c.read_line.new.script c.args.text.now
    (subst (λ a. LineRead h t (as_line c.args.line) a c.read_line.new.script) c.in-Kept.is (c.in_ok-cause.ensures h t beside.at))

pub returns-in-Skipped : goal.returns-in-Skipped
returns-in-Skipped c = λ h t beside.
    skipped h t c.args.script.now beside (as_line c.args.line) c.read_line.new.script c.args.text.now
    (subst (λ a. LineRead h t (as_line c.args.line) a c.read_line.new.script) c.in-Skipped.is (c.in_ok-cause.ensures h t beside.at))

pub returns-in-Header : goal.returns-in-Header
returns-in-Header c = λ h t beside.
    absurd
    (subst (λ a. LineRead h t (as_line c.args.line) a c.read_line.new.script) c.in-Header.is (c.in_ok-cause.ensures h t beside.at))
