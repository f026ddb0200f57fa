use Rattle.seam_cell_parts.proofs.spots.set.Goals as goal

pub returns-in-Ok : goal.returns-in-Ok
returns-in-Ok c = (_, (c.in-Some.is, c.in-Ok.ensures.after))
