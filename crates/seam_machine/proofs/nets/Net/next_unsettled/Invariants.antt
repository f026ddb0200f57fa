use Rattle.std.proofs.Common.{◌≡◌, ℕ, ◌<◌, []}
use Rattle.seam_machine.specs.Nets.{link}
use Rattle.seam_machine.proofs.nets.Net.next_unsettled.Given as goal

abbrev pub invariant-loop-k : goal.invariant-loop-k
invariant-loop-k g l = (k a : ℕ) → k < l.k → link l.self.rows a k ≡ []
