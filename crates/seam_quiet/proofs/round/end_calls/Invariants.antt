use Rattle.seam_quiet.proofs.round.end_calls.Given as goal

abbrev pub ghost-run_phase : goal.ghost-run_phase
ghost-run_phase g a = g.most
