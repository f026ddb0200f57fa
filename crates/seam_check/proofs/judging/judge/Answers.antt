use Rattle.std.proofs.Common.{subst}
use Rattle.std.proofs.lemmas.Result.{IfOk-weaker}
use Rattle.seam_io.specs.Lines.{lines_of}
use Rattle.seam_rule_rounds.specs.Standing.{after_header}
use Rattle.seam_check.specs.Heads.{IsHead}
use Rattle.seam_check.proofs.Judgments.{begins_beside}
use Rattle.seam_check.proofs.judging.judge.Goals as goal

pub new-requires : goal.new-requires
new-requires c = (subst (IsHead (lines_of c.args.input.now)) c.in-Read.is c.in_ok-cause.ensures).reads.defines.legal.in_range

pub judge_lines-requires : goal.judge_lines-requires
judge_lines-requires c =
    let lines = lines_of c.args.input.now in
    let begins = subst (IsHead lines) c.in-Read.is c.in_ok-cause.ensures in
    let script = c.in_ok-script-in-Read in (
      c.in-Read.header,
      after_header c.in-Read.header c.in-Read.count,
      begins_beside lines (lines_of c.in-Read.lines.now) c.in-Read.header c.in-Read.count script.script begins script.ensures,
    )

pub returns-in-Refused : goal.returns-in-Refused
returns-in-Refused c = subst (IsHead (lines_of c.args.input.now)) c.in-Refused.is c.in_ok-cause.ensures

pub returns-in_ok-script-in-Read : goal.returns-in_ok-script-in-Read
returns-in_ok-script-in-Read c =
    let begins = subst (IsHead (lines_of c.args.input.now)) c.in-Read.is c.in_ok-cause.ensures in
    IfOk-weaker c.judge_lines.result _ _ (λ v after.
    (after c.in-Read.header c.in-Read.count
    (begins_beside (lines_of c.args.input.now) (lines_of c.in-Read.lines.now) c.in-Read.header c.in-Read.count
    c.in_ok-script-in-Read.script begins c.in_ok-script-in-Read.ensures)).says
    (lines_of c.args.input.now) begins)
    c.judge_lines.ensures
