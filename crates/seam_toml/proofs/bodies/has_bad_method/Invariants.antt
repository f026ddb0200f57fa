use Rattle.std.proofs.Common.{◌↔◌}
use Rattle.toml.specs.View.{members_view}
use Rattle.seam_toml.specs.Faults.{HasBadMethod}
use Rattle.seam_toml.proofs.bodies.has_bad_method.Given as goal

abbrev pub invariant-members : goal.invariant-members
invariant-members l =
    (goal.iterator-members).can_next l._key-iterator × (goal.iterator-members).is_finite l._key-iterator
    × (HasBadMethod l.properties (members_view l._key-iterator) ↔ HasBadMethod l.properties (members_view l.methods.entries))
