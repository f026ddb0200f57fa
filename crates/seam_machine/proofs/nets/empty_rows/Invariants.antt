use Rattle.std.proofs.Common.{◌≡◌, replicate, []}
use Rattle.seam_machine.proofs.nets.empty_rows.Given as goal

abbrev pub invariant-loop-i : goal.invariant-loop-i
invariant-loop-i g l = l.rows.items ≡ replicate l._i (replicate l.n [])
