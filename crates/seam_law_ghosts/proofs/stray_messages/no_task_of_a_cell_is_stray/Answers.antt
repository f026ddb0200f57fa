use Rattle.seam_law_ghosts.proofs.NoStrays.{round_tasks, reaps_tasks, look_tasks}
use Rattle.seam_law_ghosts.proofs.stray_messages.no_task_of_a_cell_is_stray.Goals as goal

pub returns-clause-round : goal.returns-clause-round
returns-clause-round c = round_tasks

pub returns-clause-reaps : goal.returns-clause-reaps
returns-clause-reaps c = reaps_tasks

pub returns-clause-looks : goal.returns-clause-looks
returns-clause-looks c = look_tasks
