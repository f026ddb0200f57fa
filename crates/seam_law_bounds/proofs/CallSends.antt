-- What each step sends of calls to the cell part: one that was ordered, one that is passed on, or none.
use Rattle.seam_law_bounds.proofs.Prelude.{◌≡◌, ℕ, ◌+◌, ◌<◌, ◌≤◌, ◌⊎◌, true, List, [], ◌∷◌, Option, None, Some, refl, sym, ap, ◌∙◌, subst}
use Rattle.seam_law_bounds.proofs.Prelude.{arith, inl, inr, range_with_len, Division, Call as CallData, Order, RealView, Msg, Hand}
use Rattle.seam_law_bounds.proofs.Prelude.{cell_count, base_numbers, base_of, NextPlace, haunts_at, ghost_messages, settled_to, stray_call}
use Rattle.seam_law_bounds.proofs.Prelude.{is_stray, current_to, RouteView, tick_to, IsSilent, Frame, here_at, Has, CellMoves, Moves}
use Rattle.seam_law_bounds.proofs.Prelude.{at_a_cell, at_a_base, real_in, all_append, SeesNoGhost, ghosts_silent, drops_silent}
use Rattle.seam_law_bounds.proofs.Prelude.{mapped_silent, numbered_silent, call_in}
use Rattle.std.specs.FinSet as set
use Rattle.seam_call.specs.declared.order.Order.TheVariants as order
use Rattle.seam_entity.specs.declared.message.Msg.TheVariants.{Call}
use Rattle.seam_law_calls.proofs.CellDeeds as deed
use Rattle.seam_law_calls.proofs.CellDeeds.{CellDeeds, Ignored, cell_deeds, not_called}
use Rattle.seam_law_calls.proofs.BaseDeeds as base
use Rattle.seam_law_calls.proofs.BaseDeeds.{base_deeds, BaseDeeds}

no_calls : SeesNoGhost call_in
no_calls = record { sets = λ e n c. refl; drops = λ e n. refl }

module _ (f : Frame) (e k : ℕ) (s : Has) (i : Option Msg) (t : Has) (sent : List (ℕ × Msg)) where
  -- no call comes to a node that the real left
  abbrev NonePasses : Type 0
  NonePasses = (c : CallData) → i ≡ Some (Call c) → real_in s ≡ None → (n : NextPlace) → s.cell.slot.next ≡ Some n → ⊥

  -- the orders are the same, or the first is gone
  abbrev pub FewerOrders : Type 0
  FewerOrders = (t.base.orders ≡ s.base.orders) ⊎ ((o : Order) × (s.base.orders ≡ o ∷ t.base.orders))

  pub data Sends : Type 0 where
    plain : IsSilent call_in sent → NonePasses → FewerOrders → Sends
    ordered : (c : CallData) (r : RouteView) → i ≡ None → s.base.orders ≡ order.Cell c ∷ t.base.orders → s.base.route ≡ Some r
        → sent ≡ (r.cell, Call c) ∷ [] → Sends
    passed : (c : CallData) (n : NextPlace) → i ≡ Some (Call c) → real_in s ≡ None → s.cell.slot.next ≡ Some n
        → t.cell.slot.next ≡ Some n → t.base.orders ≡ s.base.orders → sent ≡ (n.cell, Call c) ∷ [] → Sends

  task : i ≡ None → NonePasses
  task a c is away n at = let z = sym a ∙ is in cc

  other : (m : Msg) → i ≡ Some m → ((c : CallData) → m ≡ Call c → ⊥) → NonePasses
  other m a none c is away n at = none c (let z = sym a ∙ is in cc)

  held : (r : RealView) → real_in s ≡ Some r → NonePasses
  held r has c is away n at = let z = sym has ∙ away in cc

  silent_of : (l : List (ℕ × Msg)) → sent ≡ l → IsSilent call_in l → IsSilent call_in sent
  silent_of l is h = subst (IsSilent call_in) (sym is) h

  stray_none : (tree : Division) → Ignored (here_at f k) tree s.cell i → NonePasses
  stray_none tree why c is away n at = elim (not_called why c is) [
    | inl strays ↦
        let gone = ap (λ o. stray_call (here_at f k) c o s.cell.slot.next) away in
        let left = ap (stray_call (here_at f k) c None) at in
        let z = sym strays ∙ (gone ∙ left) in
        cc
    | inr l ↦ let z = sym l.1 ∙ away in cc
  ]

  module _ (base : t.base ≡ s.base) where
    same : FewerOrders
    same = inl (ap (λ b. b.orders) base)

    cell_sends : {tree : Division} → CellDeeds (here_at f k) tree e s.cell i t.cell sent → Sends
    cell_sends (deed.passes c p n own away at d) =
        passed c p n away at (ap (λ a. a.slot.next) d.state ∙ at) (ap (λ b. b.orders) base) d.sends
    cell_sends {tree} (deed.idles a z) = plain (silent_of [] z tt) (stray_none tree a.why) same
    cell_sends {tree} (deed.stays u r q changed has own acts at d) =
        plain (silent_of _ d.sends (ghosts_silent call_in no_calls (here_at f k) q k (haunts_at (here_at f k) tree q.state.pos k q.haunts)
        changed)) (held r has) same
    cell_sends {tree} (deed.goes u r q changed j has own acts at n d) =
        let haunts = haunts_at (here_at f k) tree q.state.pos j (set.insert q.haunts k) in
        let gone = settled_to q haunts (q.beat + 1) (q.generation + 1) in
        let told = ghost_messages (here_at f k) q j haunts changed in
        plain (silent_of _ d.sends (all_append (λ p. call_in p.1 ≡ None) told ((j, Hand gone None) ∷ [])
        (ghosts_silent call_in no_calls (here_at f k) q j haunts changed) (refl, tt))) (held r has) same
    cell_sends (deed.holds c r n own has mine may lt d) = plain (silent_of [] d.sends tt) (held r has) same
    cell_sends (deed.lands r bs n own has may d) =
        plain (silent_of _ d.sends (mapped_silent call_in (current_to (here_at f k) r) (λ b. refl) (base_numbers (here_at f k))))
        (other _ n (λ c z. cc)) same
    cell_sends (deed.reaped r n has own may d) = plain (silent_of _ d.sends (drops_silent call_in no_calls r)) (held r has) same
    cell_sends (deed.looks n r w known a at has own v small d) =
        plain (silent_of _ d.sends (numbered_silent call_in (base_of (here_at f k) r.entity) r.entity w.sent _ (λ u. refl))) (task a) same

  module _ (high : cell_count ≤ k) (cell : (c : CallData) → i ≡ Some (Call c) → k < cell_count) where
    at_base : NonePasses
    at_base c is away n at = let low = cell c is in omega (arith, low, high)

    base_sends : (cells : ℕ) → BaseDeeds (here_at f k) cells e s.base i t.base sent → Sends
    base_sends cells (base.stays same z) = plain (silent_of [] z tt) at_base (inl same)
    base_sends cells (base.calls c r n at has z) = ordered c r n at has z
    base_sends cells (base.base_calls c n at z) = plain (silent_of _ z (refl, tt)) at_base (inr (_, at))
    base_sends cells (base.serves c n at z) = plain (silent_of [] z tt) at_base (inr (_, at))
    base_sends cells (base.ticks n at z) =
        plain (silent_of _ z (mapped_silent call_in tick_to (λ j. refl) (range_with_len 0 cells))) at_base (inr (_, at))
    base_sends cells (base.reaps r n at has z) = plain (silent_of _ z (refl, tt)) at_base (inr (_, at))

  pub sends : ((c : CallData) → i ≡ Some (Call c) → k < cell_count) → Moves f e k s i t sent → Sends
  sends cell (at_a_cell tree of low m is) = cell_sends is (cell_deeds m)
  sends cell (at_a_base high m is) = base_sends high cell _ (base_deeds m)
