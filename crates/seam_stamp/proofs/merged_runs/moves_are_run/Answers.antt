use Rattle.seam_stamp.proofs.Runs.{moves_are_run}
use Rattle.seam_stamp.proofs.merged_runs.moves_are_run.Goals as goal

pub returns : goal.returns
returns g c =
    λ n w start last first rest moves fits rises. moves_are_run g.M.Machine.has_work g.M.Machine.steps n w start last first rest moves 0
    fits rises
