use Rattle.seam_world_rounds.proofs.script.Script.end_round.Given as goal

abbrev pub ghost-play : goal.ghost-play
ghost-play g a = record { world = a.world; batch = a.batch }
