use Rattle.std.proofs.Common.{◌∙◌}
use Rattle.seam_judge_expected.proofs.ListedLemmas.{if_ok}
use Rattle.seam_world_text.proofs.Pieces.{positions_are}
use Rattle.seam_law_transcript.specs.Playing.{data_of}
use Rattle.seam_world_text.proofs.ends.positions.Goals as goal

pub returns : goal.returns
returns c =
    let rs = c.args.present.now in
    let v = c.args.ended.now in
    if_ok c.find_positions.result
    (λ ps are h s tree w p bounds present.
    are (c.what_is_found_is_printed.ensures.routes h s tree w v p).1
    ∙ positions_are c.by_number.result.now rs c.by_number.ensures.list v (data_of h s tree w v p bounds).homes
    (c.what_is_found_is_printed.ensures.homes h s tree w v p bounds rs present))
    c.find_positions.ensures
