use Rattle.seam_toml.proofs.HeaderLaws.{reads_one, reads_defs, reads_legal, reads_in_range}
use Rattle.seam_toml.proofs.laws.header_is_one.Goals as goal

pub returns : goal.returns
returns c = record { one = reads_one; sound = reads_defs; legal = reads_legal; in_range = reads_in_range }
