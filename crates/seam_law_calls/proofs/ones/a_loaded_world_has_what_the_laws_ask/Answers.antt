use Rattle.seam_law_calls.proofs.Prelude.{world_0, steps}
use Rattle.seam_law_calls.proofs.ExampleMet.{frame_is, all_fit, spared, one_holder, row_leads}
use Rattle.seam_law_calls.proofs.ones.a_loaded_world_has_what_the_laws_ask.Goals as goal

pub returns-clause-frame : goal.returns-clause-frame
returns-clause-frame c = frame_is

pub returns-clause-fits : goal.returns-clause-fits
returns-clause-fits c = all_fit

pub returns-clause-spared : goal.returns-clause-spared
returns-clause-spared c = spared

pub returns-clause-one : goal.returns-clause-one
returns-clause-one c = one_holder

pub returns-clause-handed_over : goal.returns-clause-handed_over
returns-clause-handed_over c = row_leads 1 1 world_0 steps c.an_early_call_is_held.ensures.events
