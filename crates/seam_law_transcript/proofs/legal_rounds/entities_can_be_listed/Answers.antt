use Rattle.seam_law_transcript.proofs.Listing.{made_listed, live_listed}
use Rattle.seam_law_transcript.proofs.legal_rounds.entities_can_be_listed.Goals as goal

pub returns-clause-made : goal.returns-clause-made
returns-clause-made c b = made_listed b

pub returns-clause-live : goal.returns-clause-live
returns-clause-live c b = live_listed b
