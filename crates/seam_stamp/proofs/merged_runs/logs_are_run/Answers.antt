use Rattle.seam_stamp.proofs.Whole.{logs_are_run}
use Rattle.seam_stamp.proofs.merged_runs.logs_are_run.Goals as goal

pub returns : goal.returns
returns g c =
    λ n w v start now logs hand first taken put met merged joined merge rebuilt. logs_are_run g.M.Machine.has_work g.M.Machine.steps n w v
    start now logs hand first taken put met merged joined merge rebuilt
