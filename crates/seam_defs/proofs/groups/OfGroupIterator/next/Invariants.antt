use Rattle.std.proofs.Common.{◌≡◌, length}
use Rattle.seam_defs.specs.Remaining.{properties_left}
use Rattle.seam_defs.proofs.groups.OfGroupIterator.next.Given as goal

abbrev pub invariant-loop-property : goal.invariant-loop-property
invariant-loop-property l = properties_left l.self ≡ properties_left l.initial.self

abbrev pub decreases-loop-property : goal.decreases-loop-property
decreases-loop-property l = length l.self.properties.now
