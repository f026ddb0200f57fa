use Rattle.seam_law_calls.proofs.Finding.{first_finds}
use Rattle.seam_law_calls.proofs.ways.a_call_that_comes_finds_a_place.Goals as goal

pub returns : goal.returns
returns c = first_finds
