use Rattle.seam_node_steps.proofs.Knowing.{known_of_others, known_in_order, known_without_own}
use Rattle.seam_node_steps.proofs.known.a_cell_knows_its_reals_and_copies.Goals as goal

pub returns-clause-each : goal.returns-clause-each
returns-clause-each c cell e x = known_of_others cell e x

pub returns-clause-rising : goal.returns-clause-rising
returns-clause-rising c cell e = known_in_order cell e

pub returns-clause-own : goal.returns-clause-own
returns-clause-own c cell e = known_without_own cell e
