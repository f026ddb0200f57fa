use Rattle.seam_quiet.specs.RoundRuns.{most_of_calls}
use Rattle.seam_quiet.proofs.round.run_calls.Given as goal

abbrev pub ghost-end_calls : goal.ghost-end_calls
ghost-end_calls g a = most_of_calls a.world a.batch
