use Rattle.seam_law_calls.proofs.Finding.{starts_leading}
use Rattle.seam_law_calls.proofs.ways.a_round_begins_with_all_ways.Goals as goal

pub returns : goal.returns
returns c = starts_leading
