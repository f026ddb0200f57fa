use Rattle.std.proofs.Common.{sym, ◌∙◌}
use Rattle.std.proofs.lemmas.Bool.{false≢true}
use Rattle.std.proofs.lemmas.Result.{err_from_is_err_and}
use Rattle.seam_accept.specs.Commands.{texts_of}
use Rattle.seam_accept.proofs.CommandLemmas.{words_are_refused}
use Rattle.seam_accept.proofs.command.read_line.Goals as goal

pub returns-in_err-command_of_words-in-Ok-clause-cause : goal.returns-in_err-command_of_words-in-Ok-clause-cause
returns-in_err-command_of_words-in-Ok-clause-cause c =
    let p = err_from_is_err_and c.from_residual.result c.from_residual.ensures.1 in
    rw (p.1, p.2) (λ h b.
    words_are_refused c.args.line.now (texts_of c.in-Ok.words.now)
    (λ s. absurd (false≢true (sym c.if-is_skipped.false ∙ c.is_skipped.ensures.1 s)))
    c.in-Ok.ensures.words c.in_err-command_of_words-in-Ok.field-0.0 c.in_err-command_of_words-in-Ok.ensures.cause h b)
