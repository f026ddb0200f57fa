use Rattle.std.proofs.Common.{sym, ◌∙◌}
use Rattle.seam_entity.proofs.CoverLemmas.{offered_covered}
use Rattle.seam_entity.proofs.orders.Orders.offer.Goals as goal

pub invariant_of-self : goal.invariant_of-self
invariant_of-self c = (
  c.offer_in-answer.ensures.kept,
  c.keep_if.ensures _
      (λ kept.
      offered_covered c.self.inside.cover _ _ c.args.call c.offer_in-answer.result c.is_covered-covered.result c.self.invariant.1
      c.is_covered-covered.ensures (sym c.stays_covered.ensures ∙ kept) c.offer_in-answer.ensures.answer c.offer_in-answer.ensures.after
      c.offer_in-answer.ensures.err),
)
