use Rattle.seam_law_calls.proofs.Finding.{each_finds}
use Rattle.seam_law_calls.proofs.ways.each_call_on_a_link_finds_a_place.Goals as goal

pub returns : goal.returns
returns c = each_finds
