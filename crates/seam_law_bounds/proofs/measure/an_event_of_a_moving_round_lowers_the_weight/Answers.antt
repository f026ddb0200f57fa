use Rattle.seam_law_bounds.proofs.Moving.{moving_ends, moving_lowers}
use Rattle.seam_law_bounds.proofs.NetWeights.{same_weight}
use Rattle.seam_law_bounds.proofs.measure.an_event_of_a_moving_round_lowers_the_weight.Goals as goal

pub returns-clause-lowers : goal.returns-clause-lowers
returns-clause-lowers c = λ z f frame space w v o round can on. moving_lowers z f frame space w v o round can on

pub returns-clause-run : goal.returns-clause-run
returns-clause-run c = λ z f frame space w round can v es run. moving_ends z f frame space w round can v es run

pub returns-clause-still : goal.returns-clause-still
returns-clause-still c = same_weight
