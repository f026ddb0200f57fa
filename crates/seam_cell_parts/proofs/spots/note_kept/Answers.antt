use Rattle.std.proofs.Common.{Some}
use Rattle.seam_cell_parts.proofs.SpotLemmas.{noted_after}
use Rattle.seam_cell_parts.proofs.spots.note_kept.Goals as goal

pub returns : goal.returns
returns c before after are changed =
    noted_after c.args.spots.now.list _ c.args.spots.now.out c.still_out-spots.result c.args.e (Some c.args.p) before after
    c.still_out-spots.ensures c.set.ensures are changed
