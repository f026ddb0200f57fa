-- No input of a base node is stray, where of each entity nothing is, or only ticks come.
use Rattle.seam_law_calls.proofs.Prelude.{◌≡◌, ℕ, ◌≤◌, ◌⊎◌, true, false, List, ◌∷◌, Option, None, Some, refl, sym, ap, ◌∙◌, subst, arith}
use Rattle.seam_law_calls.proofs.Prelude.{inl, inr, slice_get, AllByRecursion, link, Order, Msg, Tick, Here, cell_count, has_ready, about}
use Rattle.seam_law_calls.proofs.Prelude.{BaseView, PartView, may_rise, may_show, proxy_is_ready, may_execute, stray_order, World, Base}
use Rattle.seam_law_calls.proofs.Prelude.{letters_of, more_letter, slot_at, Frame, here_at, IsInFrame, AtBase, mine, order_about, orders_of}
use Rattle.seam_law_calls.proofs.Prelude.{at_base, has_of, has_none, entity_flow, strays_at, NothingIsStray, NoneIsStrayAtBases}
use Rattle.seam_law_calls.proofs.Prelude.{IsTickOrder, IsTickTo, IsUnknown}
use Rattle.std.specs.FinMap as table
use Rattle.seam_call.specs.declared.order.Order.TheVariants as order
use Rattle.seam_node_steps.specs.BaseCases.{is_stray}
use Rattle.seam_node_steps.specs.Prelude.{Bounds}
use Rattle.seam_law_calls.proofs.Holds.{both}
use Rattle.seam_law_calls.proofs.Lists.{concerned_own, mine_own, orders_own}
use Rattle.seam_law_calls.proofs.NodeStray.{none_is_stray}

-- ---- ticks

-- what is about no entity, a tick or boundaries, comes to each of them, and is stray
mine_of_none : (e : ℕ) (m : Msg) → about m ≡ None → mine e m ≡ Some m
mine_of_none e Tick is = refl
mine_of_none e (Bounds b) is = refl
mine_of_none e _ is = cc

none_strays : (h : Here) (s : AtBase) (m : Msg) → about m ≡ None → strays_at h s m ≡ true
none_strays h s Tick is = refl
none_strays h s (Bounds b) is = refl
none_strays h s _ is = cc

none_is_free : (b : BaseView) (o : Order) → order_about o ≡ None → stray_order b o ≡ false
none_is_free b order.Tick is = refl
none_is_free b (order.Bounds x) is = refl
none_is_free b _ is = cc

-- a tick comes to no base node
not_to_base : (k : ℕ) (m : Msg) → cell_count ≤ k → IsTickTo k m → ⊥
not_to_base k Tick high low = omega (arith, high, low)
not_to_base k _ high h = h

no_tick : (e : ℕ) (o : Order) → order_about o ≡ Some e → IsTickOrder o → ⊥
no_tick e order.Tick is h = cc
no_tick e _ is h = h

module _ (f : Frame) (w : World) (q : IsInFrame f w) (each : (e : ℕ) → NothingIsStray f e w ⊎ IsUnknown f e w) (k : ℕ) (b : BaseView)
    (node : slice_get w.nodes k ≡ Some (Base b)) where
  high : cell_count ≤ k
  high = (q.nodes k (Base b) node).high

  slot_is : (e : ℕ) → ((entity_flow e w).slot k).base ≡ at_base e b
  slot_is e = ap (λ n. (slot_at (has_of e) has_none n).base) node

  -- ---- messages

  module _ (a : ℕ) (m : Msg) (ms : List Msg) (at : link w.rows a k ≡ m ∷ ms) where
    seen : (e : ℕ) → mine e m ≡ Some m → (entity_flow e w).mail a k ≡ m ∷ letters_of (mine e) ms
    seen e own = ap (letters_of (mine e)) at ∙ ap (λ o. more_letter o (letters_of (mine e) ms)) own

    unknown_gets_none : (e : ℕ) → mine e m ≡ Some m → IsUnknown f e w → ⊥
    unknown_gets_none e own u =
        not_to_base k m high (subst (AllByRecursion (IsTickTo k)) (seen e own) (u.letters a k)).0

    own_by : (e : ℕ) → about m ≡ Some e → NothingIsStray f e w ⊎ IsUnknown f e w → is_stray b m ≡ false
    own_by e is (inl none) = (none_is_stray f e w q none k b node).messages a m ms at is
    own_by e is (inr u) = absurd (unknown_gets_none e (mine_own e m is) u)

    none_by : about m ≡ None → NothingIsStray f 0 w ⊎ IsUnknown f 0 w → ⊥
    none_by is (inl none) =
        let free = none.letters a k m (letters_of (mine 0) ms) high (seen 0 (mine_of_none 0 m is)) in
        let z = sym (none_strays (here_at f k) ((entity_flow 0 w).slot k).base m is) ∙ free in
        cc
    none_by is (inr u) = unknown_gets_none 0 (mine_of_none 0 m is) u

    message_by : (o : Option ℕ) → about m ≡ o → is_stray b m ≡ false
    message_by (Some e) is = own_by e is (each e)
    message_by None is = absurd (none_by is (each 0))

    message_free : is_stray b m ≡ false
    message_free = message_by (about m) refl

  -- ---- orders

  module _ (o : Order) (os : List Order) (at : b.orders ≡ o ∷ os) where
    ordered : (e : ℕ) → order_about o ≡ Some e → ((entity_flow e w).slot k).base.orders ≡ o ∷ orders_of e os
    ordered e is =
        ap (λ s. s.orders) (slot_is e) ∙ (ap (orders_of e) at ∙ orders_own e o os (concerned_own e (order_about o) is))

    of_entity : (e : ℕ) → order_about o ≡ Some e → NothingIsStray f e w ⊎ IsUnknown f e w → stray_order b o ≡ false
    of_entity e is (inl none) = (none_is_stray f e w q none k b node).orders o os at is
    of_entity e is (inr u) = absurd (no_tick e o is (subst (AllByRecursion IsTickOrder) (ordered e is) (u.slots k).orders).0)

    order_by : (x : Option ℕ) → order_about o ≡ x → stray_order b o ≡ false
    order_by (Some e) is = of_entity e is (each e)
    order_by None is = none_is_free b o is

    order_free : stray_order b o ≡ false
    order_free = order_by (order_about o) refl

  -- ---- parts

  module _ (e : ℕ) (p : PartView) (at : table.get b.parts e ≡ Some p) where
    has : ((entity_flow e w).slot k).base.part ≡ Some p
    has = ap (λ s. s.part) (slot_is e) ∙ at

    calls_by : NothingIsStray f e w ⊎ IsUnknown f e w → has_ready p.orders ≡ true → may_execute p ≡ true
    calls_by (inl none) ready = none.parts k p has
    calls_by (inr u) ready = absurd (let z = sym ((u.slots k).calls p has) ∙ ready in cc)

    updates_by : NothingIsStray f e w ⊎ IsUnknown f e w → proxy_is_ready p.proxy ≡ true → may_show p.proxy ≡ true
    updates_by (inl none) ready = (both (may_rise p.version) (may_show p.proxy) (none.parts k p has)).1
    updates_by (inr u) ready = absurd (let z = sym ((u.slots k).updates p has) ∙ ready in cc)

pub none_at_bases : (f : Frame) (w : World) → IsInFrame f w → ((e : ℕ) → NothingIsStray f e w ⊎ IsUnknown f e w) → NoneIsStrayAtBases w
none_at_bases f w q each = record {
  messages = λ a k b m ms node at. message_free f w q each k b node a m ms at;
  orders = λ k b o os node at. order_free f w q each k b node o os at;
  calls = λ k b e p node at ready. calls_by f w q each k b node e p at (each e) ready;
  updates = λ k b e p node at ready. updates_by f w q each k b node e p at (each e) ready;
}
