use Rattle.std.proofs.Common.{◌≡◌, ◌<◌, sym, ap, ◌∙◌, subst, is_some, IfOk, OnErr, true, false}
use Rattle.std.specs.FinMap as table
use Rattle.seam_order.specs.Held.{item_at}
use Rattle.seam_order.specs.Offers.{offer_answer, after_offer}
use Rattle.seam_call.specs.Senders.{rank_of}
use Rattle.seam_entity.specs.Orders.{is_new, view_of}
use Rattle.seam_entity.proofs.OrderLemmas.{at_of, gap_of, no_place, order_read, written_read, ordered_read, offered_kept, on_ok}
use Rattle.seam_entity.proofs.orders.offer_in.Goals as goal

pub unreachable-requires : goal.unreachable-requires
unreachable-requires c =
    let gap = gap_of _ c.args.entries.now.items _ _ _ c.deref.ensures.value c.rank.ensures.place c.in_default.ensures.absent in
    let e : false ≡ true =
    sym (no_place c.args.entries.now.items (rank_of c.args.call.sender) c.in_default.field-0 gap) ∙ c.requires.room in
    cc

pub offer-requires-clause-not_held : goal.offer-requires-clause-not_held
offer-requires-clause-not_held c =
    let found = at_of _ c.args.entries.now.items _ _ _ c.deref.ensures.value c.rank.ensures.place c.in-Ok.ensures.found in
    let there = order_read c.args.entries.now.items c.args.call.sender c.in-Ok.at c.index_mut-entry.result.now c.requires.ordered found
    c.index_mut-entry.ensures.value in
    sym (ap (λ o. is_some (item_at c.args.call.number o.held)) there) ∙ c.requires.not_held

pub returns-clause-answer : goal.returns-clause-answer
returns-clause-answer c =
    let found = at_of _ c.args.entries.now.items _ _ _ c.deref.ensures.value c.rank.ensures.place c.in-Ok.ensures.found in
    let there = order_read c.args.entries.now.items c.args.call.sender c.in-Ok.at c.index_mut-entry.result.now c.requires.ordered found
    c.index_mut-entry.ensures.value in
    subst (λ o. IfOk c.offer.result (λ a. a ≡ offer_answer o.next c.args.call.number c.args.call)) (sym there) c.offer.ensures.answer

pub returns-clause-after : goal.returns-clause-after
returns-clause-after c =
    let found = at_of _ c.args.entries.now.items _ _ _ c.deref.ensures.value c.rank.ensures.place c.in-Ok.ensures.found in
    let there = order_read c.args.entries.now.items c.args.call.sender c.in-Ok.at c.index_mut-entry.result.now c.requires.ordered found
    c.index_mut-entry.ensures.value in
    on_ok c.offer.result
    (λ e.
    let kept = ap is_new e ∙ offered_kept c.index_mut-entry.result.now.1 c.args.call.number c.args.call c.requires.from_one in
    written_read c.args.entries.now.items c.args.call.sender c.in-Ok.at c.index_mut-entry.result.now c.offer.new.self c.requires.ordered
    found c.index_mut-entry.ensures.value kept
    ∙ ap (table.insert (view_of c.args.entries.now.items).orders (rank_of c.args.call.sender))
    (e ∙ ap (λ o. after_offer o c.args.call.number c.args.call) (sym there))) c.offer.ensures.after

pub returns-clause-err_only_above : goal.returns-clause-err_only_above
returns-clause-err_only_above c =
    let found = at_of _ c.args.entries.now.items _ _ _ c.deref.ensures.value c.rank.ensures.place c.in-Ok.ensures.found in
    let there = order_read c.args.entries.now.items c.args.call.sender c.in-Ok.at c.index_mut-entry.result.now c.requires.ordered found
    c.index_mut-entry.ensures.value in
    subst (λ o. OnErr c.offer.result (o.next < c.args.call.number)) (sym there) c.offer.ensures.err_only_above

pub returns-clause-kept : goal.returns-clause-kept
returns-clause-kept c =
    let found = at_of _ c.args.entries.now.items _ _ _ c.deref.ensures.value c.rank.ensures.place c.in-Ok.ensures.found in
    ordered_read c.args.entries.now.items c.in-Ok.at c.index_mut-entry.result.now c.offer.new.self c.requires.ordered found.inside
    c.index_mut-entry.ensures.value
