use Rattle.std.proofs.Common.{ℕ, subst}
use Rattle.seam_value.specs.NumberWords.{SpellsNumber}
use Rattle.seam_value.proofs.NumberWords.{zero_is_not_positive}
use Rattle.seam_value.proofs.numbers.positive_number.Goals as goal

pub returns-in-Some-eq0 : goal.returns-in-Some-eq0
returns-in-Some-eq0 c =
    zero_is_not_positive c.args.word.now
    (subst (λ (n : ℕ). SpellsNumber c.args.word.now n) c.in-Some-eq0.field-0-test c.in-Some-eq0.ensures)
