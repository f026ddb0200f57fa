use Rattle.std.proofs.Common.{All}
use Rattle.toml.specs.View.{members_view}
use Rattle.seam_defs.specs.Types.{IsType}
use Rattle.seam_toml.specs.Definitions.{DefinesType}
use Rattle.seam_toml.proofs.Eaches.{IsPartOf}
use Rattle.seam_toml.proofs.types.types.Given as goal

abbrev pub invariant-members : goal.invariant-members
invariant-members l =
    (goal.iterator-members).can_next l.key-iterator × (goal.iterator-members).is_finite l.key-iterator
    × IsPartOf DefinesType (members_view l.table.entries) (members_view l.key-iterator) l.types.items × All IsType l.types.items
