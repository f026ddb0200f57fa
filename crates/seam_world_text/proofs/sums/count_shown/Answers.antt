use Rattle.std.proofs.Common.{◌∙◌}
use Rattle.seam_judge_expected.proofs.ListedLemmas.{if_ok}
use Rattle.seam_world_text.specs.Sums.{shown_count}
use Rattle.seam_world_text.proofs.Pieces.{of_sum}
use Rattle.seam_world_text.proofs.sums.count_shown.Goals as goal

pub returns : goal.returns
returns c =
    let rs = c.args.present.now in
    let v = c.args.ended.now in
    let kept = c.args.kept.now in
    if_ok c.count_told.result
    (λ n is h s tree w p bounds present farewells.
    is ∙ of_sum c.by_number.result.now rs c.by_number.ensures.list (shown_count kept v)
    ∙ c.what_is_found_is_printed.ensures.count h s tree w v p bounds rs present kept farewells)
    c.count_told.ensures
