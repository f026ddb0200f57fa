use Rattle.std.proofs.Common.{sym, ap, ◌∙◌, subst, is_some, ◌≡◌, ◌<◌, false, true}
use Rattle.seam_order.specs.Held.{OrderView, item_at, IsInOrder}
use Rattle.seam_order.specs.Offers.{after_offer}
use Rattle.seam_order.proofs.HeldLemmas.{item_of_lookup}
use Rattle.seam_order.proofs.OrderLaws.{order_after_offer, after_offer_of_insert}
use Rattle.seam_order.proofs.InOrder.hold.Goals as goal

pub unreachable-requires : goal.unreachable-requires
unreachable-requires g c =
    let there =
    c.in-Ok-Some.ensures.old ∙ (item_of_lookup c.args.n c.self.inside.held.entries
    ∙ ap (λ w. item_at c.args.n w.held) c.self.view_is) in
    let none : true ≡ false = sym (ap is_some c.in-Ok-Some.field-0-is) ∙ (ap is_some there ∙ c.requires.not_held) in
    cc

pub invariant_of-self : goal.invariant_of-self
invariant_of-self g c =
    let out = ap (λ w. is_some (item_at c.args.n w.held)) c.self.view_is ∙ c.requires.not_held in
    let lt : c.self.inside.next < c.args.n = subst (λ w. w.next < c.args.n) (sym c.self.view_is) c.requires.early in
    let kept = after_offer_of_insert c.self.inside.next c.args.n c.args.item c.self.inside.held.entries c.insert.new.self.entries lt out
    c.in-Ok-None.ensures.entries in
    let w : OrderView _ = record { next = c.self.inside.next; held = c.self.inside.held.entries } in
    subst IsInOrder (sym kept) (order_after_offer w c.args.n c.args.item c.self.invariant c.requires.small out)

pub returns-in-Ok-None-clause-after : goal.returns-in-Ok-None-clause-after
returns-in-Ok-None-clause-after g c =
    let out = ap (λ w. is_some (item_at c.args.n w.held)) c.self.view_is ∙ c.requires.not_held in
    let lt : c.self.inside.next < c.args.n = subst (λ w. w.next < c.args.n) (sym c.self.view_is) c.requires.early in
    after_offer_of_insert c.self.inside.next c.args.n c.args.item c.self.inside.held.entries c.insert.new.self.entries lt out
    c.in-Ok-None.ensures.entries
    ∙ ap (λ w. after_offer w c.args.n c.args.item) c.self.view_is
