use Rattle.std.proofs.Common.{find, ap, ◌∙◌}
use Rattle.std.specs.Prelude.{option_map}
use Rattle.std.specs.FinMap as table
use Rattle.seam_node_steps.specs.Maps.{number_of}
use Rattle.seam_base.specs.Marks.{any_mark}
use Rattle.seam_base.proofs.Marks.{first_is_least}
use Rattle.seam_base.proofs.mark_set.MarkSet.least.Goals as goal

pub returns : goal.returns
returns c =
    c.first_of.ensures
    ∙ (first_is_least c.self.inside.entities.keys c.self.invariant
    ∙ ap (λ m. option_map number_of (find any_mark (table.entries m))) c.self.view_is)
