use Rattle.std.proofs.Common.{eq-eqb, eqb-true, arith}
use Rattle.seam_defs.proofs.Fitting.{takes-to, takes-from, args-more}
use Rattle.seam_defs.proofs.methods.are_fitting.Goals as goal

pub returns-then-not-fits_at : goal.returns-then-not-fits_at
returns-then-not-fits_at c = (
  (λ e. absurd cc),
  (λ takes. let fits = c.fits_at.ensures.1 ((takes-from c.args.types.now c.args.values.now takes).1 c.loop-i.i _ c.loop-i-test.true) in
      absurd cc),
)

pub loop-i-preserved : goal.loop-i-preserved
loop-i-preserved c =
    args-more c.args.types.now c.args.values.now c.loop-i.i c.loop-i-test.true _ (c.fits_at.ensures.0 c.if-not-fits_at.false)
    c.loop-i.invariant

pub returns : goal.returns
returns c = (
  (λ e. takes-to c.args.types.now c.args.values.now (eqb-true _ _ e) (λ k d below. c.loop-i.invariant k d (omega arith))),
  (λ takes. eq-eqb _ _ (takes-from c.args.types.now c.args.values.now takes).0),
)
