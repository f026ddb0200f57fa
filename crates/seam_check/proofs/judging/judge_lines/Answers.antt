use Rattle.std.proofs.Common.{length, ap, subst, arith}
use Rattle.seam_io.specs.Lines.{lines_of}
use Rattle.seam_check.specs.Inputs.{as_line}
use Rattle.seam_check.specs.Judged.{EndTaken, LineTaken}
use Rattle.seam_check.proofs.Lines.{empty_is, some_long}
use Rattle.seam_check.proofs.Progress.{ends_whole, fails_at_end, fails_at_line, goes_further, goes_past_end, starts}
use Rattle.seam_check.proofs.judging.judge_lines.Goals as goal

pub loop-line-init : goal.loop-line-init
loop-line-init c = starts c.args.script.now (lines_of c.args.lines.now) c.args.text.now c.requires

pub take_line-requires-clause-short : goal.take_line-requires-clause-short
take_line-requires-clause-short c = c.in-Some.ensures.2

pub take_line-requires-clause-stands : goal.take_line-requires-clause-stands
take_line-requires-clause-stands c = c.loop-line.invariant.stands

pub returns-in-Fails : goal.returns-in-Fails
returns-in-Fails c =
    fails_at_line c.args.script.now (lines_of c.args.lines.now) c.args.text.now c.loop-line.script (lines_of c.loop-line.input.now)
    c.loop-line.left.now c.loop-line.invariant (as_line c.in-Some.line) (lines_of c.in-Some.others.now) c.in-Some.ensures.0
    c.in-Fails.point c.in_ok-place_of-in-Fails.field-0
    (λ h t beside.
    subst (LineTaken h t (as_line c.in-Some.line) c.loop-line.left.now c.take_line.new.script) c.in-Fails.is
    (c.in_ok-rest.ensures h t beside))
    c.in_ok-place_of-in-Fails.ensures

pub loop-line-preserved : goal.loop-line-preserved
loop-line-preserved c =
    goes_further c.args.script.now (lines_of c.args.lines.now) c.args.text.now c.loop-line.script (lines_of c.loop-line.input.now)
    c.loop-line.left.now c.loop-line.invariant (as_line c.in-Some.line) (lines_of c.in-Some.others.now) c.in-Some.ensures.0
    c.take_line.new.script c.in-Goes.rest.now
    (λ h t beside.
    subst (LineTaken h t (as_line c.in-Some.line) c.loop-line.left.now c.take_line.new.script) c.in-Goes.is
    (c.in_ok-rest.ensures h t beside))

pub take_end-requires : goal.take_end-requires
take_end-requires c = c.loop-line.invariant.stands

pub returns-then-is_empty : goal.returns-then-is_empty
returns-then-is_empty c = λ h count beside.
    ends_whole c.args.script.now (lines_of c.args.lines.now) c.args.text.now c.loop-line.script (lines_of c.loop-line.input.now)
    c.loop-line.left.now c.loop-line.invariant c.in_default.ensures h count beside c.in-Goes-2.rest.now
    (λ k t at. subst (EndTaken k t c.loop-line.left.now) c.in-Goes-2.is (c.in_ok-rest-2.ensures k t at))
    (empty_is c.in-Goes-2.rest.now c.is_empty.result c.is_empty.ensures c.if-is_empty.true)

pub returns-in_ok-place_of-in-Goes-2 : goal.returns-in_ok-place_of-in-Goes-2
returns-in_ok-place_of-in-Goes-2 c = λ h count beside.
    goes_past_end c.args.script.now (lines_of c.args.lines.now) c.args.text.now c.loop-line.script (lines_of c.loop-line.input.now)
    c.loop-line.left.now c.loop-line.invariant c.in_default.ensures h count beside c.in-Goes-2.rest.now
    (λ k t at. subst (EndTaken k t c.loop-line.left.now) c.in-Goes-2.is (c.in_ok-rest-2.ensures k t at))
    c.in_ok-place_of-in-Goes-2.field-0
    (λ none.
    let long = some_long c.in-Goes-2.rest.now c.is_empty.result c.is_empty.ensures c.if-is_empty.false in
    let short = ap length none in
    omega (arith, long, short))
    c.in_ok-place_of-in-Goes-2.ensures

pub returns-in_ok-place_of-in-Fails-2 : goal.returns-in_ok-place_of-in-Fails-2
returns-in_ok-place_of-in-Fails-2 c = λ h count beside.
    fails_at_end c.args.script.now (lines_of c.args.lines.now) c.args.text.now c.loop-line.script (lines_of c.loop-line.input.now)
    c.loop-line.left.now c.loop-line.invariant c.in_default.ensures h count beside c.in-Fails-2.point
    c.in_ok-place_of-in-Fails-2.field-0
    (λ k t at. subst (EndTaken k t c.loop-line.left.now) c.in-Fails-2.is (c.in_ok-rest-2.ensures k t at))
    c.in_ok-place_of-in-Fails-2.ensures
