use Rattle.std.proofs.Common.{refl}
use Rattle.seam_node_steps.proofs.Tables.{computing}
use Rattle.seam_node_steps.proofs.cell_steps.ghost_messages.Goals as goal

pub returns-clause-set : goal.returns-clause-set
returns-clause-set c = simp computing

pub returns-clause-set_of_equal_beat : goal.returns-clause-set_of_equal_beat
returns-clause-set_of_equal_beat c = simp computing

pub returns-clause-set_of_greater_beat : goal.returns-clause-set_of_greater_beat
returns-clause-set_of_greater_beat c = simp computing

pub returns-clause-set_where_the_real_is : goal.returns-clause-set_where_the_real_is
returns-clause-set_where_the_real_is c = simp computing

pub returns-clause-set_of_no_type : goal.returns-clause-set_of_no_type
returns-clause-set_of_no_type c = refl

pub returns-clause-drop : goal.returns-clause-drop
returns-clause-drop c = simp computing

pub returns-clause-drop_of_equal_beat : goal.returns-clause-drop_of_equal_beat
returns-clause-drop_of_equal_beat c = simp computing

pub returns-clause-drop_where_the_real_is : goal.returns-clause-drop_where_the_real_is
returns-clause-drop_where_the_real_is c = simp computing

pub returns-clause-drop_at_the_limit : goal.returns-clause-drop_at_the_limit
returns-clause-drop_at_the_limit c = refl
