use Rattle.seam_law_flow.proofs.Following.{slots_kept, letters_kept, came}
use Rattle.seam_law_flow.proofs.laws.a_move_keeps_facts.Goals as goal

pub returns-clause-slots : goal.returns-clause-slots
returns-clause-slots g c = λ w v m h new k. slots_kept g.P.SlotFact.is m h new k

pub returns-clause-letters : goal.returns-clause-letters
returns-clause-letters g c = λ w v m h new x y. letters_kept g.Q.LetterFact.is m h new x y

pub returns-clause-came : goal.returns-clause-came
returns-clause-came g c = λ w v m l e all. came g.Q.LetterFact.is m l e all
