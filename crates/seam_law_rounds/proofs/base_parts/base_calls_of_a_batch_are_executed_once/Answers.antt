use Rattle.seam_law_rounds.proofs.PartsGoing.{calls_once, executed_then}
use Rattle.seam_law_rounds.proofs.base_parts.base_calls_of_a_batch_are_executed_once.Goals as goal

pub returns-clause-once : goal.returns-clause-once
returns-clause-once c = λ f w b may e k r here p at v es run. calls_once f w b may e k r here v es run p at

pub returns-clause-executed : goal.returns-clause-executed
returns-clause-executed c = executed_then
