use Rattle.std.proofs.Common.{pos, sym, ◌∙◌}
use Rattle.seam_judge_words.proofs.NumberSteps.{long_again, long_fits, not_both, ok_is}
use Rattle.seam_judge_words.proofs.words.long_number.Goals as goal

pub returns-in-Ok : goal.returns-in-Ok
returns-in-Ok c = λ n small e.
    let spelled = c.read_number.ensures.spelled (pos n) (long_fits n small) (sym e) in
    c.unwrap_or.ensures
    ∙ long_again c.in-Ok.number n c.try_from.result (ok_is c.read_number.result c.in-Ok.number (pos n) c.in-Ok.is spelled) small
    c.try_from.ensures

pub returns-in-Err : goal.returns-in-Err
returns-in-Err c = λ n small e.
    absurd (not_both c.read_number.result (pos n) c.in-Err.field-0 c.in-Err.is
    (c.read_number.ensures.spelled (pos n) (long_fits n small) (sym e)))
