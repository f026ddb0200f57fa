use Rattle.std.proofs.Common.{refl}
use Rattle.seam_node_steps.proofs.Tables.{computing}
use Rattle.seam_node_steps.proofs.cell_steps.stray_calls_at_a_cell.Goals as goal

pub returns-clause-held_already : goal.returns-clause-held_already
returns-clause-held_already c = simp computing

pub returns-clause-base_part : goal.returns-clause-base_part
returns-clause-base_part c = simp computing

pub returns-clause-outside : goal.returns-clause-outside
returns-clause-outside c = simp computing

pub returns-clause-number_0 : goal.returns-clause-number_0
returns-clause-number_0 c = simp computing

pub returns-clause-number_at_the_limit : goal.returns-clause-number_at_the_limit
returns-clause-number_at_the_limit c = simp computing

pub returns-clause-last_number_held : goal.returns-clause-last_number_held
returns-clause-last_number_held c = simp computing

pub returns-clause-beat_at_the_limit : goal.returns-clause-beat_at_the_limit
returns-clause-beat_at_the_limit c = simp computing

pub returns-clause-not_for_cells : goal.returns-clause-not_for_cells
returns-clause-not_for_cells c = refl
