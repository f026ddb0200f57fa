use Rattle.seam_node_steps.proofs.Tables.{computing}
use Rattle.seam_node_steps.proofs.cell_steps.calls_of_a_real.Goals as goal

pub returns-clause-hand_over : goal.returns-clause-hand_over
returns-clause-hand_over c = simp computing

pub returns-clause-within_hysteresis : goal.returns-clause-within_hysteresis
returns-clause-within_hysteresis c = simp computing

pub returns-clause-private : goal.returns-clause-private
returns-clause-private c = simp computing

pub returns-clause-held : goal.returns-clause-held
returns-clause-held c = simp computing

pub returns-clause-late : goal.returns-clause-late
returns-clause-late c = simp computing

pub returns-clause-turn_of_a_held_one : goal.returns-clause-turn_of_a_held_one
returns-clause-turn_of_a_held_one c = simp computing
