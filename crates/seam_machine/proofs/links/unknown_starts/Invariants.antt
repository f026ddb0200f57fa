use Rattle.std.proofs.Common.{◌≡◌, replicate}
use Rattle.seam_machine.proofs.links.unknown_starts.Given as goal

abbrev pub invariant-loop-i : goal.invariant-loop-i
invariant-loop-i l = l.starts.items ≡ replicate l._i 0
