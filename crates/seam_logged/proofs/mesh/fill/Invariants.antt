use Rattle.std.proofs.Common.{◌≡◌, ◌++◌}
use Rattle.seam_logged.specs.Mesh.{at_start}
use Rattle.seam_logged.proofs.mesh.fill.Given as goal

abbrev pub invariant-loop-item : goal.invariant-loop-item
invariant-loop-item g l = (l.out.put ≡ l.fn.out.put ++ at_start l.yielded) × (l.out.ring ≡ l.fn.out.ring)
