use Rattle.seam_world_ends.proofs.PrintLemmas.{failed_before_piece}
use Rattle.seam_world_ends.proofs.pending.Pending.push_some.Goals as goal

pub returns-in-Err-clause-prints : goal.returns-in-Err-clause-prints
returns-in-Err-clause-prints g c = λ sink text p.
    failed_before_piece sink _ text c.args.piece.now (c.in-Err.ensures.prints sink text p)
