use Rattle.std.proofs.Common.{◌≡◌, ◌+◌, ℕ, ◌<◌, get_or}
use Rattle.seam_judge_rounds.proofs.clients.are_counted.Given as goal

abbrev pub invariant-loop-i : goal.invariant-loop-i
invariant-loop-i l = (k : ℕ) → k < l.i → get_or l.numbers k 0 ≡ l.former + 1 + k
