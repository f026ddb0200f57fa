use Rattle.std.proofs.Common.{◌↔◌, drop}
use Rattle.toml.specs.View.{items_view}
use Rattle.seam_toml.specs.Faults.{AreTexts}
use Rattle.seam_toml.proofs.faults.are_texts.Given as goal

abbrev pub invariant-items : goal.invariant-items
invariant-items l = AreTexts (items_view (drop l.value-index l.items)) ↔ AreTexts (items_view l.items)
