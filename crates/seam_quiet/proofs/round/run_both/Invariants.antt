use Rattle.seam_quiet.proofs.round.run_both.Given as goal

abbrev pub ghost-run_ends : goal.ghost-run_ends
ghost-run_ends g a = g.from
