use Rattle.std.proofs.Common.{◌≡◌, length}
use Rattle.seam_logged.proofs.Rows.{AllNone}
use Rattle.seam_logged.proofs.mesh.no_ends.Given as goal

abbrev pub invariant-loop-k : goal.invariant-loop-k
invariant-loop-k g l = (length l.ends.items ≡ l._k) × AllNone l.ends.items
