use Rattle.seam_law_calls.proofs.Absent.{few_leads}
use Rattle.seam_law_calls.proofs.Telling.{sees_few_then}
use Rattle.seam_law_calls.proofs.told.entities_stay_few.Goals as goal

pub returns-clause-entities : goal.returns-clause-entities
returns-clause-entities c = few_leads

pub returns-clause-views : goal.returns-clause-views
returns-clause-views c = λ f e n w v es frame inside few sees told run.
    sees_few_then f frame.tree.cells_to e n w v es inside few sees told run
