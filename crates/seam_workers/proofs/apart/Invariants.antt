use Rattle.seam_workers.proofs.apart.Given as goal

abbrev pub ghosts-of_one_name : goal.ghosts-of_one_name
ghosts-of_one_name a = record { name = a.a.name; parts = a.a.parts }
