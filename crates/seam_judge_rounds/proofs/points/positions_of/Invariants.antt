use Rattle.std.proofs.Common.{◌≡◌, take, map}
use Rattle.seam_judge_rounds.proofs.points.positions_of.Given as goal

abbrev pub invariant-loop-home : goal.invariant-loop-home
invariant-loop-home l = l.positions.items ≡ map (λ x. x.state.pos) (take l.home-index l.homes)
