use Rattle.std.proofs.Common.{◌∙◌, sym}
use Rattle.std.proofs.lemmas.Result.{err_from_is_err_and}
use Rattle.seam_value.specs.declared.values.Value.TheVariants.{Text}
use Rattle.seam_value.specs.Causes.{Refuses}
use Rattle.seam_value.proofs.Answers.{text_of-injective, refuses_none}
use Rattle.seam_value.proofs.values.Value.parse.Goals as goal

pub returns-in_err-read_text-in-Text-clause-spelled : goal.returns-in_err-read_text-in-Text-clause-spelled
returns-in_err-read_text-in-Text-clause-spelled c = λ v fits spelled.
    let p = err_from_is_err_and c.from_residual.result c.from_residual.ensures.1 in
    let at_text : Refuses c.args.bytes.now c.args.t c.in_err-read_text-in-Text.field-0.0 =
    rw c.in-Text.is c.in_err-read_text-in-Text.ensures.cause in
    rw (p.1, p.2) (refuses_none c.args.bytes.now c.args.t v c.in_err-read_text-in-Text.field-0.0 fits spelled at_text)

pub returns-in_ok-read_text-in-Text-clause-spelled : goal.returns-in_ok-read_text-in-Text-clause-spelled
returns-in_ok-read_text-in-Text-clause-spelled c = λ v fits spelled.
    text_of-injective (Text c.in_ok-read_text-in-Text.field-0) v (c.in_ok-read_text-in-Text.ensures.value.1 ∙ sym spelled)
