use Rattle.std.proofs.Common.{sym, ◌∙◌, arith}
use Rattle.seam_entity.proofs.ReadyLemmas.{all_pass}
use Rattle.seam_entity.proofs.CoverLemmas.{none_held}
use Rattle.seam_entity.proofs.orders.holds_none.Goals as goal

pub returns : goal.returns
returns c = λ t test.
    sym (all_pass test c.args.entries.now c.requires)
    ∙ none_held test c.args.entries.now (λ k d le lt. c.loop-entry.invariant k d le (omega (arith, lt, c.loop-entry-test.false)))
