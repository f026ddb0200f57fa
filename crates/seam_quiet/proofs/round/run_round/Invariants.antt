use Rattle.seam_quiet.proofs.round.run_round.Given as goal

abbrev pub ghost-run_both : goal.ghost-run_both
ghost-run_both g a = record { world = a.world; batch = a.batch }
