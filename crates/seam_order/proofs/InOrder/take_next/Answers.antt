use Rattle.std.proofs.Common.{sym, ap, ◌∙◌, subst}
use Rattle.seam_order.specs.Held.{IsInOrder}
use Rattle.seam_order.specs.Offers.{next_item, after_taking}
use Rattle.seam_order.proofs.HeldLemmas.{item_of_lookup, taken_of_lookup, none_taken}
use Rattle.seam_order.proofs.OrderLaws.{order_after_taking}
use Rattle.seam_order.proofs.InOrder.take_next.Goals as goal

pub returns-in_default-clause-item : goal.returns-in_default-clause-item
returns-in_default-clause-item g c =
    c.in_default.ensures.value ∙ (item_of_lookup c.self.inside.next c.self.inside.held.entries ∙ ap next_item c.self.view_is)

pub returns-in_default-clause-after : goal.returns-in_default-clause-after
returns-in_default-clause-after g c =
    none_taken c.self.inside.next c.self.inside.held.entries c.remove.new.self.entries c.in_default.ensures.value
    c.in_default.ensures.unchanged
    ∙ ap after_taking c.self.view_is

pub invariant_of-self-2 : goal.invariant_of-self-2
invariant_of-self-2 g c =
    let taken = taken_of_lookup c.self.inside.next c.self.inside.held.entries c.remove.new.self.entries c.in-Some.item
    c.in-Some.ensures.value c.in-Some.ensures.entries in
    subst IsInOrder (sym taken) (order_after_taking (record { next = c.self.inside.next; held = c.self.inside.held.entries })
    c.self.invariant)

pub returns-clause-item : goal.returns-clause-item
returns-clause-item g c =
    c.in-Some.ensures.value ∙ (item_of_lookup c.self.inside.next c.self.inside.held.entries ∙ ap next_item c.self.view_is)

pub returns-clause-after : goal.returns-clause-after
returns-clause-after g c =
    taken_of_lookup c.self.inside.next c.self.inside.held.entries c.remove.new.self.entries c.in-Some.item
    c.in-Some.ensures.value c.in-Some.ensures.entries
    ∙ ap after_taking c.self.view_is
