use Rattle.std.proofs.Common.{arith}
use Rattle.seam_entity.proofs.CoverLemmas.{can_call_any}
use Rattle.seam_entity.proofs.cover.are_cell_methods.Goals as goal

pub returns : goal.returns
returns c = λ t size m args any.
    can_call_any c.args.t.now size m args c.args.methods.now
    (λ k d le lt. c.loop-entry.invariant k d le (omega (arith, lt, c.loop-entry-test.false))) any
