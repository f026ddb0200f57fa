use Rattle.std.proofs.Common.{drop}
use Rattle.toml.specs.View.{items_view}
use Rattle.seam_toml.specs.Definitions.{IsOperationData}
use Rattle.seam_toml.proofs.Eaches.{AreItemsOf}
use Rattle.seam_toml.proofs.methods.operations.Given as goal

abbrev pub invariant-items : goal.invariant-items
invariant-items l =
    AreItemsOf (IsOperationData l.properties l.part l.args) (items_view l.items)
    (items_view (drop l.value-index l.items)) l.operations.items
