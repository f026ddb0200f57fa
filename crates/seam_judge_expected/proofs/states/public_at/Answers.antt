use Rattle.std.proofs.Common.{sym, ◌∙◌, map, arith}
use Rattle.seam_judge_expected.proofs.Versions.{public_here, public_before}
use Rattle.seam_judge_expected.proofs.states.public_at.Goals as goal

pub loop-public-preserved : goal.loop-public-preserved
loop-public-preserved c = (
  omega arith,
  c.loop-public.invariant.1
      ∙ public_before c.args.header.now c.args.create (map (λ x. x.now) c.args.order.now) c.loop-public.public (omega arith)
      (sym c.in_ok-changed.ensures ∙ c.if-changed.false),
)

pub returns-then-changed-clause-value : goal.returns-then-changed-clause-value
returns-then-changed-clause-value c =
    sym (c.loop-public.invariant.1
    ∙ public_here c.args.header.now c.args.create (map (λ x. x.now) c.args.order.now) c.loop-public.public (omega arith)
    (sym c.in_ok-changed.ensures ∙ c.if-changed.true))
