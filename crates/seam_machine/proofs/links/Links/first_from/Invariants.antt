use Rattle.std.proofs.Common.{◌≡◌, ℕ, ◌<◌, []}
use Rattle.seam_machine.specs.Nets.{link}
use Rattle.seam_machine.proofs.links.Links.first_from.Given as goal

abbrev pub invariant-loop-a : goal.invariant-loop-a
invariant-loop-a g l = (k : ℕ) → k < l.a → link l.self.rows k l.to ≡ []
