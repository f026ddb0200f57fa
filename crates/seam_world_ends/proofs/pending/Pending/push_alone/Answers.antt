use Rattle.seam_world_ends.proofs.PrintLemmas.{pending_written, failed_in_pending, piece_gathered}
use Rattle.seam_world_ends.proofs.pending.Pending.push_alone.Goals as goal

pub returns-in-Ok-clause-prints : goal.returns-in-Ok-clause-prints
returns-in-Ok-clause-prints g c = λ sink text p.
    rw c.requires (pending_written sink _ _ c.args.piece.now _ (piece_gathered sink _ _ text c.args.piece.now p) c.in-Ok.ensures.ok
    c.in-Ok.ensures.cause.later)

pub returns-in-Err-clause-prints : goal.returns-in-Err-clause-prints
returns-in-Err-clause-prints g c = λ sink text p.
    let failed = c.in-Err.ensures.err in
    failed_in_pending sink _ _ c.args.piece.now _ (piece_gathered sink _ _ text c.args.piece.now p) _ failed.0 failed.1
    c.in-Err.ensures.cause.later c.in-Err.ensures.cause.failed
