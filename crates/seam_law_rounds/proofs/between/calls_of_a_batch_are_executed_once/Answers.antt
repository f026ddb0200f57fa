use Rattle.seam_law_rounds.proofs.Going.{each_waits_once, all_were_executed}
use Rattle.seam_law_rounds.proofs.between.calls_of_a_batch_are_executed_once.Goals as goal

pub returns-clause-once : goal.returns-clause-once
returns-clause-once c = each_waits_once

pub returns-clause-executed : goal.returns-clause-executed
returns-clause-executed c = all_were_executed
