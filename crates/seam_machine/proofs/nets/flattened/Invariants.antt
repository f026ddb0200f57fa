use Rattle.std.proofs.Common.{◌≡◌, map}
use Rattle.seam_machine.specs.Nets.{flat}
use Rattle.seam_machine.proofs.nets.flattened.Given as goal

abbrev pub invariant-loop-row : goal.invariant-loop-row
invariant-loop-row g l = map (λ v. v.items) l.links.items ≡ flat l.yielded
