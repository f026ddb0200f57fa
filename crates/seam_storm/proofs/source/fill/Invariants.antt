use Rattle.std.proofs.Common.{length, ◌-◌, ◌≡◌, ◌≤◌, ◌++◌, take}
use Rattle.seam_storm.specs.Inside.{rest_of, IsLines}
use Rattle.seam_storm.proofs.source.fill.Given as goal

abbrev pub invariant-loop-at : goal.invariant-loop-at
invariant-loop-at l =
    (rest_of l.initial.lines ≡ take l.at l.buf ++ rest_of l.lines) × IsLines l.lines × (l.at ≤ length l.buf)
    × (length l.buf ≡ length l.initial.buf)

abbrev pub decreases-loop-at : goal.decreases-loop-at
decreases-loop-at l = length l.initial.buf - l.at
