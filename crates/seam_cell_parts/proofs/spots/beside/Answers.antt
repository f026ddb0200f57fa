use Rattle.std.proofs.Common.{Some, sym}
use Rattle.seam_cell_parts.specs.Spots.{AreNoted}
use Rattle.seam_cell_parts.proofs.SpotLemmas.{noted_others, none_else, copied_has}
use Rattle.seam_cell_parts.proofs.spots.beside.Goals as goal

pub returns-clause-locations : goal.returns-clause-locations
returns-clause-locations c location are =
    copied_has c.as_ref.result c.args.spots.now.list (λ l. AreNoted l (Some c.args.e) location) c.as_ref.ensures.value
    (noted_others c.args.spots.now.list c.args.spots.now.out c.args.e location
    (none_else c.args.spots.now.out c.args.e (sym c.if-not-is_none_else_out.ensures)) are)
