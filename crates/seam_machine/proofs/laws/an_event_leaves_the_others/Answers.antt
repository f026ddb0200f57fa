use Rattle.seam_machine.proofs.Occurring.{occurs_works}
use Rattle.seam_machine.proofs.laws.an_event_leaves_the_others.Goals as goal

pub returns-clause-task : goal.returns-clause-task
returns-clause-task g c = λ has_work w e o h t. occurs_works has_work w e h o t
