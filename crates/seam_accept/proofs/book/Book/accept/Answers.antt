use Rattle.std.proofs.lemmas.Option.{MatchOption-at_some}
use Rattle.std.proofs.lemmas.Result.{IfOk-weaker, IfErr-weaker}
use Rattle.seam_accept.proofs.Lines.{line_accepted, line_refused}
use Rattle.seam_accept.proofs.book.Book.accept.Goals as goal

pub returns-in-Some-clause-accepted : goal.returns-in-Some-clause-accepted
returns-in-Some-clause-accepted c =
    let spelled = MatchOption-at_some _ _ c.in-Some.command c.in-Some.is c.in-Ok.ensures.command in
    IfOk-weaker c.accept_command.result _ _
    (λ a accepted h b was.
    line_accepted h b c.args.line.now c.in-Some.command a _ spelled.0 spelled.1 (accepted h b was))
    c.accept_command.ensures.accepted

pub returns-in-Some-clause-refused : goal.returns-in-Some-clause-refused
returns-in-Some-clause-refused c =
    let spelled = MatchOption-at_some _ _ c.in-Some.command c.in-Some.is c.in-Ok.ensures.command in
    IfErr-weaker c.accept_command.result _ _
    (λ r refused h b was.
    line_refused h b c.args.line.now c.in-Some.command r spelled.0 spelled.1 (refused h b was))
    c.accept_command.ensures.refused

pub returns-in-Err-clause-refused : goal.returns-in-Err-clause-refused
returns-in-Err-clause-refused c = λ h b was. c.in-Err.ensures.cause h b
