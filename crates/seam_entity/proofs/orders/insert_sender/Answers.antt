use Rattle.std.proofs.Common.{◌≡◌, sym, ap, ◌∙◌, subst, refl, true, is_ok, OnOk}
use Rattle.std.specs.List.{insert}
use Rattle.std.specs.FinSet as set
use Rattle.seam_call.specs.Senders.{rank_of}
use Rattle.seam_entity.specs.Orders.{view_of}
use Rattle.seam_entity.specs.SenderPlaces.{Entries, AreOrdered}
use Rattle.seam_entity.proofs.OrderLemmas.{orders_inserted, place_made, ordered_inserted, new_is, either, where_ok}
use Rattle.seam_entity.proofs.orders.insert_sender.Goals as goal

pub returns-clause-same : goal.returns-clause-same
returns-clause-same c =
    let ps = c.args.entries.now.items in
    ap (λ l. (view_of l).orders) c.insert.ensures
    ∙ either (λ l. (view_of l).orders ≡ (view_of ps).orders) (is_ok c.insert.result)
    (insert ps c.args.at (c.args.sender.now, c.new.result)) ps
    (orders_inserted ps c.args.sender.now c.args.at c.new.result (new_is c.new.result c.new.ensures.next c.new.ensures.held)) refl

pub returns-clause-room : goal.returns-clause-room
returns-clause-room c =
    let ps = c.args.entries.now.items in
    let has_place : Entries → Type 0 = λ l. set.contains (view_of l).senders (rank_of c.args.sender.now) ≡ true in
    subst (λ l. OnOk c.insert.result (has_place l)) (sym c.insert.ensures)
    (where_ok has_place c.insert.result (insert ps c.args.at (c.args.sender.now, c.new.result)) ps
    (place_made ps c.args.sender.now c.args.at c.new.result))

pub returns-clause-ordered : goal.returns-clause-ordered
returns-clause-ordered c =
    let ps = c.args.entries.now.items in
    subst AreOrdered (sym c.insert.ensures)
    (either AreOrdered (is_ok c.insert.result) (insert ps c.args.at (c.args.sender.now, c.new.result)) ps
    (ordered_inserted ps c.args.sender.now c.args.at c.new.result c.requires.ordered c.requires.gap) c.requires.ordered)
