use Rattle.seam_quiet.proofs.round.run_phase.Given as goal

abbrev pub ghost-bring_to_rest : goal.ghost-bring_to_rest
ghost-bring_to_rest g a = g.most
