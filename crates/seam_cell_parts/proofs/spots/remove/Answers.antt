use Rattle.seam_cell_parts.proofs.spots.remove.Goals as goal

pub returns-in-Some : goal.returns-in-Some
returns-in-Some c = (_, (c.in-Some.is, c.remove.ensures.after))
