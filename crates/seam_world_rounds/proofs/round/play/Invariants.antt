use Rattle.seam_world_rounds.proofs.round.play.Given as goal

abbrev pub ghost-run_ends : goal.ghost-run_ends
ghost-run_ends g a = g.from
