use Rattle.std.proofs.Common.{◌∙◌, arith}
use Rattle.seam_value.proofs.NumberWords.{numeral_spells, spells_none}
use Rattle.seam_value.proofs.numbers.whole_number.Goals as goal

pub returns-in_err-numeral : goal.returns-in_err-numeral
returns-in_err-numeral c =
    rw c.from_residual.ensures (spells_none c.args.word.now (λ h. omega (arith, c.in_err-numeral.ensures h)))

pub returns-in-Ok : goal.returns-in-Ok
returns-in-Ok c =
    numeral_spells c.args.word.now c.in-Ok.number c.in_ok-numeral.ensures.0 (c.in-Ok.ensures.1 ∙ c.in_ok-numeral.ensures.1)
    (omega (arith, c.in-Ok.ensures))

pub returns-in-Err : goal.returns-in-Err
returns-in-Err c = spells_none c.args.word.now (λ h. omega (arith, c.in-Err.ensures, c.in_ok-numeral.ensures))
