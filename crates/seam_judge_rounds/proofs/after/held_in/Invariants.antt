use Rattle.std.proofs.Common.{◌≡◌, take, map}
use Rattle.seam_judge_rounds.proofs.Leaving.{held_of}
use Rattle.seam_judge_rounds.proofs.after.held_in.Given as goal

abbrev pub invariant-loop-home : goal.invariant-loop-home
invariant-loop-home l = l.held.items ≡ map (held_of l.round) (take l.home-index l.round.homes)
