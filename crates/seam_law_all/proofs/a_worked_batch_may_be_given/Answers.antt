use Rattle.std.proofs.Common.{arith}
use Rattle.seam_node_steps.specs.Prelude.{builtin, standard}
use Rattle.seam_rule_clients.specs.Clients.{new_client}
use Rattle.seam_law_all.proofs.a_worked_batch_may_be_given.Goals as goal

pub returns-clause-keeps : goal.returns-clause-keeps
returns-clause-keeps c =
    let w = c.an_entity_crosses_between_two_witnesses.ensures in
    c.an_opened_world_keeps_the_records.ensures builtin standard w.may.begin.between.frame (omega arith) w.reach (λ e. new_client standard)

pub returns-clause-may : goal.returns-clause-may
returns-clause-may c =
    let w = c.an_entity_crosses_between_two_witnesses.ensures in record { reals = w.may.begin.fits; parts = w.may.brings }
