use Rattle.seam_quiet.proofs.Phases.{most_events}
use Rattle.seam_quiet.proofs.round.run_ends.Given as goal

abbrev pub ghost-end_phases : goal.ghost-end_phases
ghost-end_phases g a = (g.from, most_events g.from.world g.from.batch)
