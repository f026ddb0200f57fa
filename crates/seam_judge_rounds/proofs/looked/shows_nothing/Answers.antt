use Rattle.std.proofs.Common.{◌∙◌, sym}
use Rattle.seam_judge_rounds.proofs.looked.shows_nothing.Goals as goal

pub returns : goal.returns
returns c =
    let same = c.deref.ensures.value ∙ c.in_ok-left.ensures in
    ((λ so. sym same ∙ c.is_none.ensures.0 so), (λ none. c.is_none.ensures.1 (same ∙ none)))
