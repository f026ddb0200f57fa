use Rattle.seam_law_ghosts.proofs.Ends.{calls_place, reaps_leave, looks_leave, stays_placed}
use Rattle.seam_law_ghosts.proofs.PlacesKept.{opened_places, round_places}
use Rattle.seam_law_ghosts.proofs.places.a_round_keeps_the_record_of_places.Goals as goal

pub returns-clause-opened : goal.returns-clause-opened
returns-clause-opened c = opened_places

pub returns-clause-calls : goal.returns-clause-calls
returns-clause-calls c = calls_place

pub returns-clause-reaps : goal.returns-clause-reaps
returns-clause-reaps c = λ f u between es may vs v run. stays_placed f u v (reaps_leave f u between es may vs v run)

pub returns-clause-looks : goal.returns-clause-looks
returns-clause-looks c = λ f u between vs v run. stays_placed f u v (looks_leave f u between vs v run)

pub returns-clause-round : goal.returns-clause-round
returns-clause-round c = round_places
