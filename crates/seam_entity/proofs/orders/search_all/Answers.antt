use Rattle.std.proofs.Common.{sym, ltb-true, ◌∙◌}
use Rattle.seam_entity.proofs.OrderLemmas.{gap_from}
use Rattle.seam_entity.proofs.orders.search_all.Goals as goal

pub returns-else-rank-clause-absent : goal.returns-else-rank-clause-absent
returns-else-rank-clause-absent c =
    let lt = ltb-true _ _ (sym c.in-Some.ensures.lookup.0) in
    gap_from c.args.entries.now c.args.rank c.place_of-at.result c.in-Some.entry.now c.requires lt c.in-Some.ensures.lookup.1
    (λ e. c.if-rank.false (c.rank.ensures.place ∙ e)) c.place_of-at.ensures.below c.place_of-at.ensures.above
