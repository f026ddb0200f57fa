use Rattle.std.proofs.Common.{◌≡◌, ◌++◌}
use Rattle.seam_stamp.specs.Acts.{items}
use Rattle.seam_logged.proofs.mesh.add_letters.Given as goal

abbrev pub invariant-loop-letter : goal.invariant-loop-letter
invariant-loop-letter g l = l.link.items ≡ l.fn.link.items ++ items l.yielded
