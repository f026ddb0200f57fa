use Rattle.std.proofs.Common.{◌≡◌, length}
use Rattle.seam_defs.specs.Remaining.{values_left}
use Rattle.seam_defs.proofs.props.KeptValuesIterator.next.Given as goal

abbrev pub invariant-loop-value : goal.invariant-loop-value
invariant-loop-value l = values_left l.self ≡ values_left l.initial.self

abbrev pub decreases-loop-value : goal.decreases-loop-value
decreases-loop-value l = length l.self.values.now
