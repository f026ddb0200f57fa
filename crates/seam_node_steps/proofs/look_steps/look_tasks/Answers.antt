use Rattle.seam_node_steps.proofs.Tables.{computing}
use Rattle.seam_node_steps.proofs.look_steps.look_tasks.Goals as goal

pub returns-clause-own_again : goal.returns-clause-own_again
returns-clause-own_again c = simp computing

pub returns-clause-copy_enters : goal.returns-clause-copy_enters
returns-clause-copy_enters c = simp computing

pub returns-clause-real_before_copy : goal.returns-clause-real_before_copy
returns-clause-real_before_copy c = simp computing

pub returns-clause-not_known : goal.returns-clause-not_known
returns-clause-not_known c = simp computing

pub returns-clause-older_copy : goal.returns-clause-older_copy
returns-clause-older_copy c = simp computing

pub returns-clause-no_witness : goal.returns-clause-no_witness
returns-clause-no_witness c = simp computing

pub returns-clause-at_the_limit : goal.returns-clause-at_the_limit
returns-clause-at_the_limit c = simp computing
