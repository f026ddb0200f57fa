use Rattle.seam_quiet.proofs.round.bring_to_rest.Given as goal

abbrev pub ghost-come_to_rest : goal.ghost-come_to_rest
ghost-come_to_rest g a = g.most
