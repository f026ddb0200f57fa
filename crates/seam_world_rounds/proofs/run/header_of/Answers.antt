use Rattle.seam_world_rounds.proofs.HeaderRuns.{header_stopped}
use Rattle.seam_world_rounds.proofs.run.header_of.Goals as goal

pub returns-in-Err-clause-header : goal.returns-in-Err-clause-header
returns-in-Err-clause-header g c = λ began reading limit.
    header_stopped _ began _ (c.in-Err.ensures.header began reading limit)
