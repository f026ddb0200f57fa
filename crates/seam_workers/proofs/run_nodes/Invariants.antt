use Rattle.std.proofs.Common.{map}
use Rattle.seam_workers.specs.Seats.{roots_of}
use Rattle.seam_workers.proofs.run_nodes.Given as goal

abbrev pub ghosts-run_named-J-Naming : goal.ghosts-run_named-J-Naming
ghosts-run_named-J-Naming g a = record { roots = roots_of a.start.nodes.items a.start.ends.items }

abbrev pub ghosts-run_named-J-Claims : goal.ghosts-run_named-J-Claims
ghosts-run_named-J-Claims g a = record { claims = map (λ b. b.name) a.start.claims.items }
