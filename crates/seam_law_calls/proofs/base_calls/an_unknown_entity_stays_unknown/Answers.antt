use Rattle.seam_law_calls.proofs.Unknown.{unknown_leads}
use Rattle.seam_law_calls.proofs.base_calls.an_unknown_entity_stays_unknown.Goals as goal

pub returns : goal.returns
returns c = unknown_leads
