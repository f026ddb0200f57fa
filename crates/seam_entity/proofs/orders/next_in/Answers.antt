use Rattle.std.proofs.Common.{sym, ap, ◌∙◌, refl}
use Rattle.seam_entity.proofs.OrderLemmas.{at_of, gap_of, order_there, order_absent}
use Rattle.seam_entity.proofs.orders.next_in.Goals as goal

pub returns-in-Ok : goal.returns-in-Ok
returns-in-Ok c =
    let found = at_of _ c.args.entries.now _ _ _ refl c.rank.ensures.place c.in-Ok.ensures.found in
    c.next_number.ensures.next
    ∙ sym (ap (λ o. o.next)
    (order_there c.args.entries.now c.args.sender c.in-Ok.at c.index-entries-at.result c.requires found))

pub returns-in-Err : goal.returns-in-Err
returns-in-Err c =
    let gap = gap_of _ c.args.entries.now _ _ _ refl c.rank.ensures.place c.in-Err.ensures.absent in
    sym (ap (λ o. o.next) (order_absent c.args.entries.now c.args.sender c.in-Err.field-0 gap))
