use Rattle.std.proofs.Common.{◌≡◌, ℕ, sym, ◌∙◌, subst}
use Rattle.seam_node_steps.specs.Prelude.{standard, opened, empty_world}
use Rattle.seam_law_rounds.specs.Prelude.{opening}
use Rattle.seam_rule_clients.specs.Clients.{ClientReplica, new_client}
use Rattle.seam_quiet.specs.RoundRuns.{MayRun}
use Rattle.seam_test_core.proofs.rounds.run.Goals as goal

pub run_round-requires-clause-may : goal.run_round-requires-clause-may
run_round-requires-clause-may g c κs within =
    let clients : ℕ → ClientReplica = λ e. new_client standard in
    let world : c.in_ok-world.world ≡ empty_world =
    c.in_ok-world.ensures.opened ∙ (λ i. opened (c.in_ok-defs.ensures i) (c.standard.ensures.value i)) in (
      opening,
      clients,
      subst (λ w. MayRun opening clients w c.in_ok-batch.field-0) (sym world)
          (subst (MayRun opening clients empty_world) (sym c.in_ok-batch.ensures) c.a_worked_round_may_run.ensures),
    )
