-- What a step of a base node does with an entity, in six kinds; and what it keeps of the orders and sends for them.
use Rattle.seam_law_calls.proofs.Prelude.{◌≡◌, ℕ, zero, suc, ◌+◌, ◌<◌, ◌≤◌, List, [], ◌∷◌, map, Option, None, Some, sym, ap, ◌∙◌, subst}
use Rattle.seam_law_calls.proofs.Prelude.{arith, refl, AllByRecursion, range_with_len, Call as CallData, Order, Msg, BaseCall, Tick, Reap}
use Rattle.seam_law_calls.proofs.Prelude.{true, Here, base_of, RouteView, tick_to, Current, Update, stray_current, AtBase, BaseMoves, newer}
use Rattle.seam_law_calls.proofs.Prelude.{strays_at}
use Rattle.seam_call.specs.declared.order.Order.TheVariants as order
use Rattle.seam_entity.specs.declared.message.Msg.TheVariants.{Call}
use Rattle.seam_law_calls.specs.BaseMoves as move

-- it leaves the orders and sends nothing, or it takes the first order and sends what that asks for
pub data BaseDeeds (h : Here) (cells e : ℕ) (s : AtBase) (i : Option Msg) (t : AtBase) (sent : List (ℕ × Msg)) : Type 0 where
  stays : t.orders ≡ s.orders → sent ≡ [] → BaseDeeds h cells e s i t sent
  calls : (c : CallData) (r : RouteView) → i ≡ None → s.orders ≡ order.Cell c ∷ t.orders → s.route ≡ Some r
      → sent ≡ (r.cell, Call c) ∷ [] → BaseDeeds h cells e s i t sent
  base_calls : (c : CallData) → i ≡ None → s.orders ≡ order.Base c ∷ t.orders → sent ≡ (base_of h e, BaseCall c) ∷ []
      → BaseDeeds h cells e s i t sent
  serves : (c : CallData) → i ≡ None → s.orders ≡ order.Base c ∷ t.orders → sent ≡ [] → BaseDeeds h cells e s i t sent
  ticks : i ≡ None → s.orders ≡ order.Tick ∷ t.orders → sent ≡ map tick_to (range_with_len 0 cells) → BaseDeeds h cells e s i t sent
  reaps : (r : RouteView) → i ≡ None → s.orders ≡ order.Reap e ∷ t.orders → s.route ≡ Some r → sent ≡ (r.cell, Reap e) ∷ []
      → BaseDeeds h cells e s i t sent

taken : (s t : AtBase) (o : Order) (os : List Order) (b : AtBase) → s.orders ≡ o ∷ os → t ≡ b → b.orders ≡ os → s.orders ≡ o ∷ t.orders
taken s t o os b at a same = at ∙ ap (λ l. o ∷ l) (sym (ap (λ x. x.orders) a ∙ same))

module _ {h : Here} {cells e : ℕ} {s : AtBase} {i : Option Msg} {t : AtBase} {sent : List (ℕ × Msg)} where
  kept : (b : AtBase) → t ≡ b → b.orders ≡ s.orders → sent ≡ [] → BaseDeeds h cells e s i t sent
  kept b a same z = stays (ap (λ x. x.orders) a ∙ same) z

  pub base_deeds : BaseMoves h cells e s i t sent → BaseDeeds h cells e s i t sent
  base_deeds (move.rests n a z) = kept _ a refl z
  base_deeds (move.strays m n b a z) = kept _ a refl z
  base_deeds (move.reroutes new r n has b a z) = kept _ a refl z
  base_deeds (move.offers c p n own has may a z) = kept _ a refl z
  base_deeds (move.updates u n own b a z) = kept _ a refl z
  base_deeds (move.orders_call c os r n at own has a z) = calls c r n (taken s t _ os _ at a refl) has z
  base_deeds (move.orders_base_call c os n at own b a z) = base_calls c n (taken s t _ os _ at a refl) z
  base_deeds (move.offers_own c os p n at own b has may a z) = serves c n (taken s t _ os _ at a refl) z
  base_deeds (move.orders_tick os n at a z) = ticks n (taken s t _ os _ at a refl) z
  base_deeds (move.orders_reap os r n at has a z) = reaps r n (taken s t _ os _ at a refl) has z
  base_deeds (move.stuck_order o os n at b a z) = kept _ a refl z
  base_deeds (move.executes p o c n has may at item a z) = kept _ a refl z
  base_deeds (move.stuck_part p n has v may a z) = kept _ a refl z
  base_deeds (move.shows p n has v may a z) = kept _ a refl z
  base_deeds (move.stuck_client p n has v may a z) = kept _ a refl z

-- the route stays, and one that comes is stray; or it is the newer of the two
pub data RouteAfter (e : ℕ) (s : AtBase) (i : Option Msg) (t : AtBase) : Type 0 where
  same_route : t.route ≡ s.route
      → ((x j g : ℕ) → i ≡ Some (Current x j g) → stray_current (record { cell = j; generation = g }) s.route ≡ true) → RouteAfter e s i t
  newer_of : (new r : RouteView) → i ≡ Some (Current e new.cell new.generation) → s.route ≡ Some r → t.route ≡ Some (newer r new)
      → RouteAfter e s i t

module _ {e : ℕ} {s : AtBase} {i : Option Msg} {t : AtBase} where
  by_task : (b : AtBase) → t ≡ b → b.route ≡ s.route → i ≡ None → RouteAfter e s i t
  by_task b a same n = same_route (ap (λ x. x.route) a ∙ same) (λ x j g is. absurd (let z = sym n ∙ is in cc))

  by_other : (b : AtBase) → t ≡ b → b.route ≡ s.route → (m : Msg) → i ≡ Some m → ((x j g : ℕ) → m ≡ Current x j g → ⊥) → RouteAfter e s i t
  by_other b a same m n not = same_route (ap (λ x. x.route) a ∙ same) (λ x j g is. absurd (not x j g (let z = sym n ∙ is in cc)))

module _ {h : Here} {cells e : ℕ} {s : AtBase} {i : Option Msg} {t : AtBase} {sent : List (ℕ × Msg)} where
  pub base_route : BaseMoves h cells e s i t sent → RouteAfter e s i t
  base_route (move.rests n a z) = by_task s a refl n
  base_route (move.strays m n b a z) =
      same_route (ap (λ x. x.route) a) (λ x j g is. let one : m ≡ Current x j g = let z = sym n ∙ is in cc in
      ap (strays_at h s) (sym one) ∙ b)
  base_route (move.reroutes new r n has b a z) = newer_of new r n has (ap (λ x. x.route) a)
  base_route (move.offers c p n own has may a z) = by_other _ a refl (BaseCall c) n (λ x j g y. cc)
  base_route (move.updates u n own b a z) = by_other _ a refl (Update u) n (λ x j g y. cc)
  base_route (move.orders_call c os r n at own has a z) = by_task _ a refl n
  base_route (move.orders_base_call c os n at own b a z) = by_task _ a refl n
  base_route (move.offers_own c os p n at own b has may a z) = by_task _ a refl n
  base_route (move.orders_tick os n at a z) = by_task _ a refl n
  base_route (move.orders_reap os r n at has a z) = by_task _ a refl n
  base_route (move.stuck_order o os n at b a z) = by_task s a refl n
  base_route (move.executes p o c n has may at item a z) = by_task _ a refl n
  base_route (move.stuck_part p n has v may a z) = by_task s a refl n
  base_route (move.shows p n has v may a z) = by_task _ a refl n
  base_route (move.stuck_client p n has v may a z) = by_task s a refl n

-- P is true of each message with its target
abbrev pub AllSent : (ℕ → Msg → Type 0) → List (ℕ × Msg) → Type 0
AllSent P ps = AllByRecursion (λ p. P p.0 p.1) ps

pub mapped_all : (P : ℕ → Msg → Type 0) (g : ℕ → ℕ × Msg) (a len : ℕ) → ((k : ℕ) → a ≤ k → k < a + len → P (g k).0 (g k).1) →
    AllSent P (map g (range_with_len a len))
mapped_all P g a zero h = tt
mapped_all P g a (suc len) h =
    (h a (omega arith) (omega arith), mapped_all P g (a + 1) len (λ k le lt. h k (omega (arith, le)) (omega (arith, lt))))

-- R is true of each order, and Q of what is sent for an order of which R is
module _ (R : Order → Type 0) (Q : ℕ → Msg → Type 0) where
  pub record Asks (h : Here) (cells e : ℕ) (route : Option RouteView) : Type 0 where
    pub calls : (c : CallData) (r : RouteView) → route ≡ Some r → R (order.Cell c) → Q r.cell (Call c)
    pub base_calls : (c : CallData) → R (order.Base c) → Q (base_of h e) (BaseCall c)
    pub ticks : R order.Tick → (j : ℕ) → j < cells → Q j Tick
    pub reaps : (r : RouteView) → route ≡ Some r → R (order.Reap e) → Q r.cell (Reap e)

  sends : (t : AtBase) (sent : List (ℕ × Msg)) → AllByRecursion R t.orders → (l : List (ℕ × Msg)) → sent ≡ l → AllSent Q l →
      AllByRecursion R t.orders × AllSent Q sent
  sends t sent os l z is = (os, subst (AllSent Q) (sym z) is)

  first_of : (s t : AtBase) (o : Order) → s.orders ≡ o ∷ t.orders → AllByRecursion R s.orders → R o × AllByRecursion R t.orders
  first_of s t o at all = subst (AllByRecursion R) at all

  module _ {h : Here} {cells e : ℕ} {s : AtBase} {i : Option Msg} {t : AtBase} {sent : List (ℕ × Msg)} where
    deeds_keep : BaseDeeds h cells e s i t sent → Asks h cells e s.route → AllByRecursion R s.orders →
        AllByRecursion R t.orders × AllSent Q sent
    deeds_keep (stays same z) asks all = sends t sent (subst (AllByRecursion R) (sym same) all) [] z tt
    deeds_keep (calls c r n at has z) asks all =
        let a = first_of s t _ at all in sends t sent a.1 _ z (asks.calls c r has a.0, tt)
    deeds_keep (base_calls c n at z) asks all = let a = first_of s t _ at all in sends t sent a.1 _ z (asks.base_calls c a.0, tt)
    deeds_keep (serves c n at z) asks all = sends t sent (first_of s t _ at all).1 [] z tt
    deeds_keep (ticks n at z) asks all =
        let a = first_of s t _ at all in
        sends t sent a.1 _ z (mapped_all Q tick_to 0 cells (λ j le lt. asks.ticks a.0 j (omega (arith, lt))))
    deeds_keep (reaps r n at has z) asks all =
        let a = first_of s t _ at all in sends t sent a.1 _ z (asks.reaps r has a.0, tt)

    pub base_keeps : BaseMoves h cells e s i t sent → Asks h cells e s.route → AllByRecursion R s.orders →
        AllByRecursion R t.orders × AllSent Q sent
    base_keeps m = deeds_keep (base_deeds m)
