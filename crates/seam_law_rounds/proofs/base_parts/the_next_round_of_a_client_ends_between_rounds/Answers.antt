use Rattle.seam_node_steps.proofs.Views as views
use Rattle.seam_law_rounds.proofs.ExampleCalls.{next_may_be_loaded, next_leads, next_looks_lead, after_next}
use Rattle.seam_law_rounds.proofs.base_parts.the_next_round_of_a_client_ends_between_rounds.Goals as goal

pub returns-clause-fits : goal.returns-clause-fits
returns-clause-fits c = next_may_be_loaded

pub returns-clause-calls : goal.returns-clause-calls
returns-clause-calls c = next_leads

pub returns-clause-looks : goal.returns-clause-looks
returns-clause-looks c = next_looks_lead

pub returns-clause-after : goal.returns-clause-after
returns-clause-after c = after_next

pub returns-clause-shown : goal.returns-clause-shown
returns-clause-shown c = views.second_lines
