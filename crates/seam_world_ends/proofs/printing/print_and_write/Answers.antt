use Rattle.std.proofs.Common.{refl}
use Rattle.seam_world_ends.proofs.printing.print_and_write.Goals as goal

pub returns-in-Err : goal.returns-in-Err
returns-in-Err g c = λ sink before p. (refl, c.in-Err.ensures.prints sink before p)

pub returns-in-Err-write : goal.returns-in-Err-write
returns-in-Err-write g c = λ sink before p.
    (refl, c.in-Err-write.ensures.prints sink _ (c.in-Ok.ensures.prints sink before p))
