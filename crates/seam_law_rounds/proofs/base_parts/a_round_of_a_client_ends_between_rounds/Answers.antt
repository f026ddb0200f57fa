use Rattle.seam_node_steps.proofs.Views as views
use Rattle.seam_law_rounds.proofs.ExampleRound.{may_be_loaded, round_leads, after_calls, looks_lead, after_looks}
use Rattle.seam_law_rounds.proofs.base_parts.a_round_of_a_client_ends_between_rounds.Goals as goal

pub returns-clause-fits : goal.returns-clause-fits
returns-clause-fits c = may_be_loaded

pub returns-clause-calls : goal.returns-clause-calls
returns-clause-calls c = round_leads

pub returns-clause-after_calls : goal.returns-clause-after_calls
returns-clause-after_calls c = after_calls

pub returns-clause-looks : goal.returns-clause-looks
returns-clause-looks c = looks_lead

pub returns-clause-after_looks : goal.returns-clause-after_looks
returns-clause-after_looks c = after_looks

pub returns-clause-shown : goal.returns-clause-shown
returns-clause-shown c = views.first_lines
