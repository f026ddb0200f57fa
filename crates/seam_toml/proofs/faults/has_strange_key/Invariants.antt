use Rattle.std.proofs.Common.{◌↔◌}
use Rattle.toml.specs.View.{members_view}
use Rattle.seam_toml.specs.Faults.{HasStrangeKey}
use Rattle.seam_toml.proofs.faults.has_strange_key.Given as goal

abbrev pub invariant-members : goal.invariant-members
invariant-members l =
    (goal.iterator-members).can_next l.key-iterator × (goal.iterator-members).is_finite l.key-iterator
    × (HasStrangeKey l.role (members_view l.key-iterator) ↔ HasStrangeKey l.role (members_view l.table.entries))
