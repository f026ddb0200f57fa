use Rattle.std.proofs.Common.{◌≡◌, true, false, sym, ap, ◌∙◌}
use Rattle.seam_cell_parts.specs.Kept.{here_in}
use Rattle.seam_cell_parts.proofs.SettleLemmas.{rest_planned, plan_of_rest, other_test}
use Rattle.seam_cell_parts.proofs.settle.is_at_rest.Goals as goal

pub returns-then-plan-known : goal.returns-then-plan-known
returns-then-plan-known c =
    let k = c.args.known.now in
    let r = c.args.real.now.core in
    let plan = c.plan_here-plan in
    let pos_is = ap (λ s. s.pos) c.state.ensures in
    let home_is = plan.ensures.home in
    let haunts_are = plan.ensures.haunts in (
      (λ same. rest_planned (here_in k) k.bounds.tree r c.state.result.now.pos c.haunts-old.result plan.result.home plan.result.haunts
          pos_is
          c.haunts-old.ensures home_is haunts_are c.if-plan-known.true (c.is.ensures.0 same)),
      (λ rest. c.is.ensures.1 (plan_of_rest (here_in k) k.bounds.tree r c.state.result.now.pos c.haunts-old.result plan.result.home
          plan.result.haunts pos_is c.haunts-old.ensures home_is haunts_are rest).1),
    )

pub returns-else-plan-known : goal.returns-else-plan-known
returns-else-plan-known c =
    let k = c.args.known.now in
    let plan = c.plan_here-plan in (
      (λ yes. let no : true ≡ false = sym yes ∙ other_test plan.result.home k.me c.if-plan-known.false in absurd cc),
      (λ rest. absurd (c.if-plan-known.false (plan_of_rest (here_in k) k.bounds.tree c.args.real.now.core c.state.result.now.pos
          c.haunts-old.result plan.result.home plan.result.haunts (ap (λ s. s.pos) c.state.ensures) c.haunts-old.ensures
          plan.ensures.home plan.ensures.haunts rest).0)),
    )
