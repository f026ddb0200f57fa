use Rattle.seam_machine.proofs.Quiet.{quiet_links, quiet_tasks, quiet_from}
use Rattle.seam_machine.proofs.laws.quiet_is_empty.Goals as goal

pub returns-clause-links : goal.returns-clause-links
returns-clause-links g c = λ has_work w q quiet. quiet_links has_work w q quiet

pub returns-clause-tasks : goal.returns-clause-tasks
returns-clause-tasks g c = λ has_work w quiet. quiet_tasks has_work w quiet

pub returns-clause-quiet : goal.returns-clause-quiet
returns-clause-quiet g c = λ has_work w empty idle. quiet_from has_work w empty idle
