use Rattle.std.proofs.Common.{ap, arith, ℕ, ◌+◌, ◌-◌, ◌≤◌}
use Rattle.seam_tree.specs.Division.{cells_of}
use Rattle.seam_tree.proofs.Padded.{length_cuts_moved}
use Rattle.seam_tree.proofs.Moves.{came_cells}
use Rattle.seam_tree.proofs.laws.cells_stay.Goals as goal

pub returns-clause-cells : goal.returns-clause-cells
returns-clause-cells c t u cell came within = let stay : cells_of t ≤ cells_of u = (came_cells t u came).0 in omega arith

pub returns-clause-space : goal.returns-clause-space
returns-clause-space c t u came = (came_cells t u came).1

pub returns-clause-shift : goal.returns-clause-shift
returns-clause-shift c t b at = ap (λ (n : ℕ). n + 1) (length_cuts_moved t.cuts (b - 1) at)
