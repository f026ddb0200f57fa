use Rattle.seam_law_flow.proofs.Bridge.{event_goes}
use Rattle.seam_law_flow.proofs.laws.an_event_is_a_move.Goals as goal

pub returns : goal.returns
returns g c = λ slot no_slot mine steps w e o q b m. event_goes mine slot no_slot g.A.Moves.are steps w e o q b m
