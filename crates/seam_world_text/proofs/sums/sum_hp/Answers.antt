use Rattle.std.proofs.Common.{◌∙◌}
use Rattle.seam_judge_expected.proofs.ListedLemmas.{if_ok}
use Rattle.seam_law_transcript.specs.Playing.{data_of}
use Rattle.seam_world_text.proofs.Pieces.{hp_summed}
use Rattle.seam_world_text.proofs.sums.sum_hp.Goals as goal

pub returns : goal.returns
returns c =
    let rs = c.args.present.now in
    let v = c.args.ended.now in
    let law = c.what_is_found_is_printed.ensures in
    if_ok c.sum_homes.result
    (λ n is h s tree w p bounds present.
    is (law.routes h s tree w v p).1
    ∙ hp_summed c.by_number.result.now rs c.by_number.ensures.list v (data_of h s tree w v p bounds).homes
    (law.homes h s tree w v p bounds rs present))
    c.sum_homes.ensures
