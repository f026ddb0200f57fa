use Rattle.std.proofs.Common.{◌↔◌, drop}
use Rattle.toml.specs.View.{items_view}
use Rattle.seam_toml.specs.Faults.{AreTypeNames}
use Rattle.seam_toml.proofs.faults.are_type_names.Given as goal

abbrev pub invariant-items : goal.invariant-items
invariant-items l = AreTypeNames (items_view (drop l.value-index l.items)) ↔ AreTypeNames (items_view l.items)
