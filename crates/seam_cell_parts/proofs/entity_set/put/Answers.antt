use Rattle.std.proofs.Common.{◌∙◌}
use Rattle.seam_cell_parts.proofs.SetLemmas.{inserted}
use Rattle.seam_cell_parts.proofs.entity_set.put.Goals as goal

pub returns-in-Ok-clause-ok : goal.returns-in-Ok-clause-ok
returns-in-Ok-clause-ok c = c.in-Ok.ensures.keys ∙ inserted c.args.e c.args.numbers.now.keys
