use Rattle.std.proofs.Common.{[], refl, subst, ap, ◌∙◌}
use Rattle.seam_node_steps.specs.Loads.{reaps_loaded}
use Rattle.seam_core.specs.Worlds.{Leads}
use Rattle.seam_quiet.specs.RoundRuns.BeginsPhase.{reaps_begin, looks_begin}
use Rattle.seam_quiet.proofs.Phases.{goes_through}
use Rattle.seam_quiet.proofs.round.end_phases.Goals as goal

pub run_phase-requires : goal.run_phase-requires
run_phase-requires g c κs within =
    let called = c.requires.1.1.1.1.0 in
    let begins =
    reaps_begin c.args.called.world c.args.called.events called.leads called.quiet
    (c.in_ok-load_reaps.ensures.loaded ∙ ap (reaps_loaded c.args.called.world) (c.as_slice.ensures ∙ called.destroys)) in
    let ends = c.requires.1.1.1.1.1.1 c.in_ok-load_reaps.field-0 begins in
    (within.0, (within.1, (c.requires.1.1.0, (c.requires.1.1.1.0, ends))))

pub run_phase-requires-2 : goal.run_phase-requires-2
run_phase-requires-2 g c κs within =
    let called = c.requires.1.1.1.1.0 in
    let u = c.args.called.world in
    let reaped = c.in_ok-world.world in
    let ds = c.in_ok-world.reaps in
    let told = c.in_ok-load_reaps.ensures.loaded ∙ ap (reaps_loaded u) (c.as_slice.ensures ∙ called.destroys) in
    let reaps = subst (λ w. Leads w ds reaped) told c.in_ok-world.ensures.run in
    let round =
    goes_through g.from.0.world g.from.0.batch u reaped c.in_ok-load_look.field-0 c.args.called.events ds [] called.leads called.quiet
    c.requires.1.1.1.1.1.0 reaps c.in_ok-world.ensures.quiet c.in_ok-load_look.ensures.starts in
    let ends = c.requires.1.1.1.1.1.1 c.in_ok-load_look.field-0 (looks_begin round refl c.in_ok-load_look.ensures.loaded) in
    (within.0, (within.1, (c.requires.1.1.0, (c.requires.1.1.1.0, ends))))

pub returns-clause-stands : goal.returns-clause-stands
returns-clause-stands g c =
    let called = c.requires.1.1.1.1.0 in
    let u = c.args.called.world in
    let reaped = c.in_ok-world.world in
    let ds = c.in_ok-world.reaps in
    let told = c.in_ok-load_reaps.ensures.loaded ∙ ap (reaps_loaded u) (c.as_slice.ensures ∙ called.destroys) in
    let reaps = subst (λ w. Leads w ds reaped) told c.in_ok-world.ensures.run in
    let seen = c.in_ok-world-2.world in
    let ls = c.in_ok-world-2.looks in
    let looking = c.in_ok-load_look.ensures.loaded in
    let looks = subst (λ w. Leads w ls seen) looking c.in_ok-world-2.ensures.run in (
      record {
        round =
            goes_through g.from.0.world g.from.0.batch u reaped seen c.args.called.events ds ls called.leads called.quiet
            c.requires.1.1.1.1.1.0 reaps c.in_ok-world.ensures.quiet looks;
        quiet = c.in_ok-world-2.ensures.quiet;
        gone = refl;
        calls = refl;
        reaps = refl;
        looks = refl;
      },
      refl,
    )

pub returns-clause-destroys : goal.returns-clause-destroys
returns-clause-destroys g c = c.requires.1.1.1.1.0.destroys
