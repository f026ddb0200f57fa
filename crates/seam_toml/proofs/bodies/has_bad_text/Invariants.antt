use Rattle.std.proofs.Common.{◌↔◌, drop}
use Rattle.toml.specs.View.{items_view}
use Rattle.seam_toml.specs.Faults.{HasBadText}
use Rattle.seam_toml.proofs.bodies.has_bad_text.Given as goal

abbrev pub invariant-items : goal.invariant-items
invariant-items l =
    HasBadText l.properties l.part l.args (items_view (drop l.value-index l.texts)) ↔ HasBadText l.properties l.part l.args (items_view
    l.texts)
