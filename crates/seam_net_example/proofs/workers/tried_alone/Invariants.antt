use Rattle.std.specs.Prelude.{[], ◌∷◌}
use Rattle.seam_net_example.proofs.workers.tried_alone.Given as goal

abbrev pub ghosts-tried : goal.ghosts-tried
ghosts-tried a = record { roots = record { start = a.alone.node; first = a.alone.ends } ∷ [] }
