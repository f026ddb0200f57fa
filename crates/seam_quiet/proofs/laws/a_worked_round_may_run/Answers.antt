use Rattle.std.proofs.Common.{arith}
use Rattle.seam_node_steps.specs.Prelude.{builtin, standard}
use Rattle.seam_quiet.proofs.laws.a_worked_round_may_run.Goals as goal

pub returns : goal.returns
returns c =
    let keeps = c.a_worked_batch_may_be_given.ensures.keeps in
    let bounds = c.a_round_keeps_what_bounds_it.ensures.opened builtin standard keeps.reals.frame (omega arith) in
    record {
      keeps = keeps;
      bounded = record { nothing = bounds.0; sees = bounds.1 };
      given = c.a_worked_batch_may_be_given.ensures.may;
    }
