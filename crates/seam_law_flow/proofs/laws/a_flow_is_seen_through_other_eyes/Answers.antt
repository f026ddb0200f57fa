use Rattle.seam_law_flow.proofs.Narrowing.{narrow_goes, toward_goes}
use Rattle.seam_law_flow.proofs.laws.a_flow_is_seen_through_other_eyes.Goals as goal

pub returns-clause-narrow : goal.returns-clause-narrow
returns-clause-narrow g c = λ f mine w v m h. narrow_goes f mine g.B.Moves.are m h

pub returns-clause-toward : goal.returns-clause-toward
returns-clause-toward g c = λ home w v m h. toward_goes home g.C.Moves.are m h
