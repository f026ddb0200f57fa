use Rattle.seam_world_rounds.proofs.run.run_body.Goals as goal

pub returns-in-Err-clause-stopped : goal.returns-in-Err-clause-stopped
returns-in-Err-clause-stopped g c = c.in-Err.ensures.began _ _ _ _

pub returns-clause-stopped : goal.returns-clause-stopped
returns-clause-stopped g c = rw c.totals.ensures (c.run-status.ensures.history _ _ _ (c.in-Ok.ensures.began.1 _ _ _))
