use Rattle.std.proofs.Common.{rules}
use Rattle.seam_value.proofs.Decimals.{number_text_is}
use Rattle.seam_value.proofs.writing.push_whole.Goals as goal

pub returns-in-Err-clause-ok : goal.returns-in-Err-clause-ok
returns-in-Err-clause-ok c = let fits = c.ranges.number in rw number_text_is (search rules)
