use Rattle.seam_world_ends.proofs.PrintLemmas.{pending_written, failed_in_pending}
use Rattle.seam_world_ends.proofs.pending.Pending.write.Goals as goal

pub returns-in-Ok-clause-prints : goal.returns-in-Ok-clause-prints
returns-in-Ok-clause-prints g c = λ sink text p.
    let wrote = rw c.deref.ensures.value at c.in-Ok.ensures.ok in
    pending_written sink _ _ _ text p (rw c.self.view_is at wrote) c.in-Ok.ensures.cause.later

pub returns-in-Err-clause-prints : goal.returns-in-Err-clause-prints
returns-in-Err-clause-prints g c = λ sink text p.
    let failed = rw c.deref.ensures.value at c.in-Err.ensures.err in
    let wrote = rw c.self.view_is at failed in
    failed_in_pending sink _ _ _ text p _ wrote.0 wrote.1 c.in-Err.ensures.cause.later c.in-Err.ensures.cause.failed
