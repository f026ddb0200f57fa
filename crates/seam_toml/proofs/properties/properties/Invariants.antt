use Rattle.toml.specs.View.{members_view}
use Rattle.seam_toml.specs.Definitions.{DefinesProperty}
use Rattle.seam_toml.proofs.Eaches.{IsPartOf}
use Rattle.seam_toml.proofs.properties.properties.Given as goal

abbrev pub invariant-members : goal.invariant-members
invariant-members l =
    (goal.iterator-members).can_next l.key-iterator × (goal.iterator-members).is_finite l.key-iterator
    × IsPartOf DefinesProperty (members_view l.table.entries) (members_view l.key-iterator) l.properties.items
