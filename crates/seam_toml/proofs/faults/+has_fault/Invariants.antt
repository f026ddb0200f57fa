use Rattle.std.proofs.Common.{◌↔◌, ◌+◌, ◌*◌}
use Rattle.toml.specs.View.{members_view}
use Rattle.seam_toml.specs.Faults.{HasFaultBelow}
use Rattle.seam_toml.proofs.Depths.{depth}
use Rattle.seam_toml.proofs.faults.+has_fault.Given as goal

abbrev pub decreases-has_fault : goal.decreases-has_fault
decreases-has_fault l = 2 * depth l.role.now + 1

abbrev pub decreases-has_fault_below : goal.decreases-has_fault_below
decreases-has_fault_below l = 2 * depth l.role.now

abbrev pub invariant-has_fault_below-members : goal.invariant-has_fault_below-members
invariant-has_fault_below-members l =
    (goal.iterator-has_fault_below-members).can_next l.key-iterator × (goal.iterator-has_fault_below-members).is_finite l.key-iterator
    × (HasFaultBelow l.fault l.role (members_view l.key-iterator) ↔ HasFaultBelow l.fault l.role (members_view l.table.entries))
