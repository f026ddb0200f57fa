use Rattle.std.proofs.Common.{rules}
use Rattle.seam_test_core.proofs.Firsts.{one_first}
use Rattle.seam_test_core.proofs.first.batch.Goals as goal

pub returns : goal.returns
returns c = one_first _ (record { entity = 1; ty = 0; pos = c.args.pos }) c.requires.size c.requires.inside (search rules) (search rules)
