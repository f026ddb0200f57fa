use Rattle.std.proofs.Common.{drop}
use Rattle.toml.specs.View.{items_view}
use Rattle.seam_toml.specs.Definitions.{NamesType}
use Rattle.seam_toml.proofs.Eaches.{AreItemsOf}
use Rattle.seam_toml.proofs.bodies.types_named.Given as goal

abbrev pub invariant-items : goal.invariant-items
invariant-items l = AreItemsOf NamesType (items_view l.items) (items_view (drop l.value-index l.items)) l.types.items
