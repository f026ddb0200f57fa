use Rattle.std.proofs.Common.{◌≡◌, ◌&&◌, nat_lt, ℕ}
use Rattle.std.specs.FinSet as set
use Rattle.seam_haunt.specs.Haunts.{is_haunt}
use Rattle.seam_haunt.proofs.haunts_after.Given as goal

abbrev pub invariant-loop-cell : goal.invariant-loop-cell
invariant-loop-cell l = (c : ℕ) → set.contains l.haunts c ≡ (nat_lt c l.cell && is_haunt l.pos l.home l.old l.tree l.near l.far c)
