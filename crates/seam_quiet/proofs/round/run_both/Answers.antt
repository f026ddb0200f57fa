use Rattle.std.proofs.Common.{sym, subst}
use Rattle.seam_quiet.specs.RoundRuns.{MayRun}
use Rattle.seam_quiet.specs.CallPhase.{HasCalled}
use Rattle.seam_quiet.proofs.round.run_both.Goals as goal

pub run_calls-requires-clause-may : goal.run_calls-requires-clause-may
run_calls-requires-clause-may g c κs within =
    let asked = c.requires.1.1.1.1 in (
      asked.1.1.0,
      asked.1.1.1,
      subst (λ w. MayRun asked.1.1.0 asked.1.1.1 w c.args.batch) (sym asked.0)
          (subst (MayRun asked.1.1.0 asked.1.1.1 g.from.world) (sym asked.1.0) asked.1.1.2),
    )

pub run_ends-requires : goal.run_ends-requires
run_ends-requires g c κs within =
    let asked = c.requires.1.1.1.1 in
    let called =
    subst (λ w. HasCalled w g.from.batch c.in_ok-called.called) asked.0
    (subst (λ b. HasCalled c.args.world b c.in_ok-called.called) asked.1.0 c.in_ok-called.ensures) in
    (within.0, (within.1, (c.requires.1.1.0, (c.requires.1.1.1.0, (asked.1.1, called)))))
