use Rattle.std.proofs.Common.{None, sym}
use Rattle.seam_cell_parts.proofs.SpotLemmas.{noted_beside, noted_out, none_else}
use Rattle.seam_cell_parts.proofs.spots.let_out.Goals as goal

pub returns-then-is_none_else_out : goal.returns-then-is_none_else_out
returns-then-is_none_else_out c before after are changed =
    noted_out c.args.spots.now.list c.args.spots.now.out c.args.e before after
    (none_else c.args.spots.now.out c.args.e (sym c.if-is_none_else_out.ensures)) are changed

pub returns : goal.returns
returns c before after are changed =
    noted_beside c.args.spots.now.list _ c.args.spots.now.out c.args.e None before after c.remove.ensures are changed
