use Rattle.seam_law_clients.proofs.Prelude.{arith}
use Rattle.seam_law_clients.proofs.Crossing.{quiet}
use Rattle.seam_law_clients.proofs.ExampleCrossing.{may_be_loaded, no_copies, no_clients, clients_fit, witnesses, before, after, calls_lead}
use Rattle.seam_law_clients.proofs.ExampleCrossing.{goes_round}
use Rattle.seam_law_clients.proofs.CrossingLooks as looks
use Rattle.seam_law_clients.proofs.clients.an_entity_crosses_between_two_witnesses.Goals as goal

pub returns-clause-may : goal.returns-clause-may
returns-clause-may c = may_be_loaded

pub returns-clause-copies : goal.returns-clause-copies
returns-clause-copies c = no_copies

pub returns-clause-none : goal.returns-clause-none
returns-clause-none c = no_clients

pub returns-clause-fits : goal.returns-clause-fits
returns-clause-fits c = clients_fit

pub returns-clause-witnesses : goal.returns-clause-witnesses
returns-clause-witnesses c = witnesses

pub returns-clause-before : goal.returns-clause-before
returns-clause-before c = before

pub returns-clause-calls : goal.returns-clause-calls
returns-clause-calls c = calls_lead

pub returns-clause-quiet : goal.returns-clause-quiet
returns-clause-quiet c = quiet

pub returns-clause-after : goal.returns-clause-after
returns-clause-after c = after

pub returns-clause-reach : goal.returns-clause-reach
returns-clause-reach c = omega arith

pub returns-clause-round : goal.returns-clause-round
returns-clause-round c = goes_round

pub returns-clause-ended : goal.returns-clause-ended
returns-clause-ended c = looks.quiet

pub returns-clause-shown_1 : goal.returns-clause-shown_1
returns-clause-shown_1 c = looks.lines_1

pub returns-clause-shown_2 : goal.returns-clause-shown_2
returns-clause-shown_2 c = looks.lines_2
