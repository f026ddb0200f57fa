use Rattle.std.proofs.Common.{◌∙◌}
use Rattle.seam_cell_parts.proofs.SetLemmas.{removed}
use Rattle.seam_cell_parts.proofs.entity_set.drop_number.Goals as goal

pub returns-clause-removed : goal.returns-clause-removed
returns-clause-removed c = c.remove.ensures.keys ∙ removed c.args.e c.args.numbers.now.keys c.requires
