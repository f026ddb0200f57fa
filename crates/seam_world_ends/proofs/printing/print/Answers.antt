use Rattle.std.proofs.Common.{refl}
use Rattle.seam_world_ends.proofs.printing.print.Goals as goal

pub returns-in-Ok : goal.returns-in-Ok
returns-in-Ok g c = λ sink before p. c.in-Ok.ensures.prints sink before p

pub returns-in-Err : goal.returns-in-Err
returns-in-Err g c = λ sink before p. (refl, c.in-Err.ensures.prints sink before p)
