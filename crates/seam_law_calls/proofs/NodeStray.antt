-- What is not stray about an entity is not stray to the base node, by its own tests.
use Rattle.seam_law_calls.proofs.Prelude.{◌≡◌, ℕ, ◌&&◌, is_none, Some, refl, sym, ap, ◌∙◌, slice_get, Order, Msg, BaseCall, Current, Update}
use Rattle.seam_law_calls.proofs.Prelude.{about, BaseView, stray_order, stray_base_call, stray_current, stray_update, is_base_node_of}
use Rattle.seam_law_calls.proofs.Prelude.{World, Base, letters_of, more_letter, slot_at, Frame, here_at, IsInFrame, mine, order_about}
use Rattle.seam_law_calls.proofs.Prelude.{orders_of, at_base, has_of, has_none, entity_flow, strays_at, is_stuck, NothingIsStray}
use Rattle.seam_law_calls.proofs.Prelude.{NoneIsStray}
use Rattle.std.specs.FinMap as table
use Rattle.seam_call.specs.declared.order.Order.TheVariants as order
use Rattle.seam_node_steps.specs.BaseCases.{is_stray}
use Rattle.seam_law_calls.proofs.Lists.{concerned_own, mine_own, orders_own}

entity_is : (x e : ℕ) → Some x ≡ Some e → e ≡ x
entity_is x e is = cc

message_is : (b : BaseView) (e : ℕ) (m : Msg) → about m ≡ Some e → strays_at b.here (at_base e b) m ≡ is_stray b m
message_is b e (BaseCall c) is = ap (λ x. stray_base_call b.here c (table.get b.parts x)) (entity_is c.entity e is)
message_is b e (Current x j g) is =
    ap (λ y. stray_current (record { cell = j; generation = g }) (table.get b.routes y)) (entity_is x e is)
message_is b e (Update u) is = ap (λ x. stray_update u (table.get b.parts x)) (entity_is u.entity e is)
message_is b e _ is = refl

order_is : (b : BaseView) (e : ℕ) (o : Order) → order_about o ≡ Some e → is_stuck b.here (at_base e b) o ≡ stray_order b o
order_is b e (order.Cell c) is = ap (λ x. is_none (table.get b.routes x)) (entity_is c.entity e is)
order_is b e (order.Base c) is =
    ap (λ x. is_base_node_of b.here c.entity && stray_base_call b.here c (table.get b.parts x)) (entity_is c.entity e is)
order_is b e order.Tick is = refl
order_is b e (order.Bounds x) is = refl
order_is b e (order.Reap x) is = ap (λ y. is_none (table.get b.routes y)) (entity_is x e is)

module _ (f : Frame) (e : ℕ) (w : World) (q : IsInFrame f w) (nothing : NothingIsStray f e w) (k : ℕ) (b : BaseView)
    (is : slice_get w.nodes k ≡ Some (Base b)) where
  here : here_at f k ≡ b.here
  here = sym (q.nodes k (Base b) is).here

  slot_is : ((entity_flow e w).slot k).base ≡ at_base e b
  slot_is = ap (λ n. (slot_at (has_of e) has_none n).base) is

  pub none_is_stray : NoneIsStray e w k b
  none_is_stray = record {
    messages = λ a m ms at own.
        sym (message_is b e m own)
        ∙ (ap (λ h. strays_at h (at_base e b) m) (sym here) ∙ (ap (λ s. strays_at (here_at f k) s m) (sym slot_is)
        ∙ nothing.letters a k m (letters_of (mine e) ms) (q.nodes k (Base b) is).high
        (ap (letters_of (mine e)) at ∙ ap (λ o. more_letter o (letters_of (mine e) ms)) (mine_own e m own))));
    orders = λ o os at own.
        sym (order_is b e o own)
        ∙ (ap (λ h. is_stuck h (at_base e b) o) (sym here) ∙ (ap (λ s. is_stuck (here_at f k) s o) (sym slot_is)
        ∙ nothing.orders k o (orders_of e os)
        (ap (λ s. s.orders) slot_is ∙ (ap (orders_of e) at ∙ orders_own e o os (concerned_own e (order_about o) own)))));
    parts = λ p at. nothing.parts k p (ap (λ s. s.part) slot_is ∙ at);
  }
