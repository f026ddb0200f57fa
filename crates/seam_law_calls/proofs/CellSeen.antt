-- Each step of a node is, for one sender, one or two of the moves of its calls to the entity's cell part.
use Rattle.seam_law_calls.proofs.Prelude.{◌≡◌, ℕ, ◌+◌, ◌<◌, ◌≤◌, Bool, true, ◌||◌, is_some, List, [], ◌∷◌, ◌++◌, Option, None, Some, refl}
use Rattle.seam_law_calls.proofs.Prelude.{sym, ap, ◌∙◌, subst, arith, inl, inr, range_with_len, cases_eq, found, Division, items_to}
use Rattle.seam_law_calls.proofs.Prelude.{OrderView, next_item, Call as CallData, Order, rank_of, order_or, order_of, RealView, Msg}
use Rattle.seam_law_calls.proofs.Prelude.{BaseCall, Hand, Reap, Here, cell_count, base_numbers, base_of, order_is_ready}
use Rattle.seam_law_calls.proofs.Prelude.{ready_order, may_call, with_offer, settled_to, NextPlace, SlotStep, slot_after, haunts_at}
use Rattle.seam_law_calls.proofs.Prelude.{ghost_messages, current_to, stray_call, shown_of, looks_with, tick_to, letters_of, more_letter}
use Rattle.seam_law_calls.proofs.Prelude.{IsSilent, carried_in, Desk, Post, Mail, Item, Quiet, Only, Passes, takes, Twice, once, twice}
use Rattle.seam_law_calls.proofs.Prelude.{Frame, IsTreeOf, here_at, Has, AtCell, Does, Acts, surveys, calls, readies, Moves}
use Rattle.seam_law_calls.proofs.Prelude.{at_a_cell, at_a_base, real_in, desk_for, cell_order_from, real_desk, cell_post, cell_mail}
use Rattle.seam_law_calls.proofs.Prelude.{FindsTurn, sees_none, sees_after_silent, sees_one_here, sees_one_there}
use Rattle.std.specs.FinMap as table
use Rattle.std.specs.FinSet as set
use Rattle.seam_law_flow.specs.Prelude.{rests}
use Rattle.seam_law_flow.specs.Prelude.{sends, offers}
use Rattle.seam_law_flow.specs.CallMoves.{relays, lands, leaves}
use Rattle.seam_call.specs.declared.order.Order.TheVariants as order
use Rattle.seam_entity.specs.declared.message.Msg.TheVariants.{Call}
use Rattle.seam_node_steps.specs.Settle as settle
use Rattle.seam_law_calls.proofs.CellDeeds as deed
use Rattle.seam_law_calls.proofs.CellDeeds.{CellDeeds, Ignored, cell_deeds, not_handed, not_called}
use Rattle.seam_law_calls.proofs.BaseDeeds as base_deed
use Rattle.seam_law_calls.proofs.BaseDeeds.{BaseDeeds, base_deeds}
use Rattle.seam_law_calls.proofs.Holds.{not_both}
use Rattle.seam_law_calls.proofs.Plain.{SeesNoGhost, ghosts_silent, mapped_silent, numbered_silent}
use Rattle.seam_law_calls.proofs.Handling.{FindsRoom, not_stray}
use Rattle.seam_law_calls.proofs.DeskLemmas.{from_same, from_other, desk_executes, desk_holds, desk_keeps, desk_stays, desk_takes}
use Rattle.seam_node_steps.specs.Prelude.{Boundaries, at_start}

-- a ready call is of the sender under whose place it is held
abbrev pub HoldsOwn : Has → Type 0
HoldsOwn h = (r : RealView) (o : ℕ × OrderView CallData) (c : CallData) → real_in h ≡ Some r → ready_order r.orders ≡ Some o →
    next_item o.1 ≡ Some c → rank_of c.sender ≡ o.0

call_not_stray : (h : Here) (c : CallData) (o : Option RealView) (n : Option NextPlace) →
    ((r : RealView) → o ≡ Some r → may_call h r c ≡ true) → (is_some o || is_some n) ≡ true → stray_call h c o n ≡ true → ⊥
call_not_stray h c (Some r) n may place b = not_both (may_call h r c) (may r refl) b
call_not_stray h c None (Some n) may place b = cc
call_not_stray h c None None may place b = cc

module _ (f : Frame) (e k s : ℕ) (h : Has) (i : Option Msg) (t : Has) (sent : List (ℕ × Msg)) (out : ℕ → List Msg)
    (items : (j : ℕ) → out j ≡ items_to j sent) where
  abbrev mine : Msg → Option (Mail CallData)
  mine m = cell_mail s m

  abbrev came : Option (Mail CallData)
  came = carried_in mine i

  abbrev seen_out : ℕ → List (Mail CallData)
  seen_out j = letters_of mine (out j)

  abbrev pub Seen : Type 0
  Seen = Twice Passes k (cell_post s h) came (cell_post s t) seen_out

  no_ghosts : SeesNoGhost mine
  no_ghosts = record { sets = λ e n c. refl; drops = λ e n. refl }

  quiet : IsSilent mine sent → Quiet seen_out
  quiet q j = ap (letters_of mine) (items j) ∙ sees_none mine j sent q

  only : (told : List (ℕ × Msg)) (to : ℕ) (m : Msg) (z : Mail CallData) → sent ≡ told ++ (to, m) ∷ [] → IsSilent mine told →
      mine m ≡ Some z → Only seen_out to z
  only told to m z is q n = record {
    here =
        ap (letters_of mine) (items to ∙ ap (items_to to) is)
        ∙ (sees_after_silent mine to told ((to, m) ∷ []) q ∙ (sees_one_here mine to m ∙ ap (λ o. more_letter o []) n));
    others = λ j x.
        ap (letters_of mine) (items j ∙ ap (items_to j) is)
        ∙ (sees_after_silent mine j told ((to, m) ∷ []) q ∙ sees_one_there mine to j m x);
  }

  abbrev post : List (ℕ × CallData) → Option (Desk CallData) → Post CallData
  post l d = record { stored = l; desk = d }

  post_is : (l m : List (ℕ × CallData)) (d q : Option (Desk CallData)) → l ≡ m → d ≡ q → post l d ≡ post m q
  post_is l m d q a b = ap (λ x. post x d) a ∙ ap (λ y. post m y) b

  abbrev stores : Has → List (ℕ × CallData)
  stores x = letters_of (cell_order_from s) x.base.orders

  abbrev desk_at : Has → Option (Desk CallData)
  desk_at x = real_desk s (real_in x)

  idle : came ≡ None → IsSilent mine sent → stores t ≡ stores h → desk_at t ≡ desk_at h → Seen
  idle n q a b = once (rests n (post_is (stores t) (stores h) (desk_at t) (desk_at h) a b) (quiet q))

  unseen : (m : Msg) → i ≡ Some m → mine m ≡ None → came ≡ None
  unseen m at n = ap (carried_in mine) at ∙ n

  -- ---- a cell

  module _ (base : t.base ≡ h.base) where
    stores_same : stores t ≡ stores h
    stores_same = ap (λ b. letters_of (cell_order_from s) b.orders) base

    real_is : (x : SlotStep) (u : AtCell) → Does u x t.cell sent → desk_at t ≡ real_desk s (slot_after x.slot u.slot).real
    real_is x u d = ap (λ a. real_desk s a.slot.real) d.state

    silent_of : (x : SlotStep) (u : AtCell) → Does u x t.cell sent → IsSilent mine x.sent → IsSilent mine sent
    silent_of x u d q = subst (IsSilent mine) (sym d.sends) q

    idle_step : (x : SlotStep) (u : AtCell) → Does u x t.cell sent → real_desk s (slot_after x.slot u.slot).real ≡ desk_at h →
        came ≡ None → IsSilent mine x.sent → Seen
    idle_step x u d b n q = idle n (silent_of x u d q) stores_same (real_is x u d ∙ b)

    abbrev acted : RealView → Post CallData
    acted q = post (stores h) (Some (desk_for s q.orders q.done))

    before : (r : RealView) → real_in h ≡ Some r → desk_at h ≡ Some (desk_for s r.orders r.done)
    before r has = ap (real_desk s) has

    stays_put : (r q : RealView) → real_in h ≡ Some r → desk_for s q.orders q.done ≡ desk_for s r.orders r.done → acted q ≡ cell_post s h
    stays_put r q has is = post_is (stores h) (stores h) _ (desk_at h) refl (ap Some is ∙ sym (before r has))

    turned : (q : RealView) (d : Desk CallData) → desk_for s q.orders q.done ≡ d → acted q ≡ post (stores h) (Some d)
    turned q d is = post_is (stores h) (stores h) _ _ refl (ap Some is)

    acts_seen : (u : AtCell) (r q : RealView) (changed : Bool) → real_in h ≡ Some r → HoldsOwn h →
        Acts (here_at f k) e h.cell i r u q changed → (o : ℕ → List (Mail CallData)) → Quiet o → Passes k (cell_post s h) came (acted q) o
    acts_seen u r q changed has own (surveys n a b c) o z = rests (ap (carried_in mine) a) (stays_put r q has refl) z
    acts_seen u r q changed has own (calls c a x m d) o z = elim (cases_eq (rank_of c.sender) s) [
      | inl is ↦ offers c.number c (desk_for s r.orders r.done) (ap (carried_in mine) a ∙ from_same s c (Item c.number c) is)
          (before r has) (turned q _ (desk_executes s r.orders r.done c is d)) z
      | inr is ↦ rests (ap (carried_in mine) a ∙ from_other s c (Item c.number c) is)
          (stays_put r q has (desk_keeps s r.orders r.done c (rank_of c.sender) _ refl is)) z
    ]
    acts_seen u r q changed has own (readies p c a m at item) o z =
        let there : table.get r.orders p.0 ≡ Some p.1 = (found order_is_ready r.orders p at).0 in
        let its = own r p c has at item in
        elim (cases_eq (rank_of c.sender) s) [
          | inl is ↦
              let place : p.0 ≡ s = sym its ∙ is in
              takes c (desk_for s r.orders r.done) (ap (carried_in mine) a) (before r has)
              (ap (λ x. next_item (order_or (table.get r.orders x))) (sym place) ∙ (ap (λ y. next_item (order_or y)) there ∙ item))
              (turned q _ (desk_takes s r.orders r.done c p.0 p.1 is place there)) z
          | inr is ↦ rests (ap (carried_in mine) a) (stays_put r q has (desk_keeps s r.orders r.done c p.0 _ its is)) z
        ]

    stays_seen : (tree : Division) (u : AtCell) (r q : RealView) (changed : Bool) → real_in h ≡ Some r → HoldsOwn h →
        Acts (here_at f k) e h.cell i r u q changed → Does u (settle.stays (here_at f k) tree h.cell.slot q changed) t.cell sent → Seen
    stays_seen tree u r q changed has own acts d =
        let x = settle.stays (here_at f k) tree h.cell.slot q changed in
        let silent = ghosts_silent mine no_ghosts (here_at f k) q k (haunts_at (here_at f k) tree q.state.pos k q.haunts) changed in
        let after : cell_post s t ≡ acted q = post_is (stores t) (stores h) (desk_at t) _ stores_same (real_is x u d) in
        once (subst (λ p. Passes k (cell_post s h) came p seen_out) (sym after)
        (acts_seen u r q changed has own acts seen_out (quiet (silent_of x u d silent))))

    goes_seen : (tree : Division) (u : AtCell) (r q : RealView) (changed : Bool) (j : ℕ) → real_in h ≡ Some r → HoldsOwn h →
        Acts (here_at f k) e h.cell i r u q changed → Does u (settle.goes (here_at f k)
        (at_start tree) h.cell.slot q changed j) t.cell sent → Seen
    goes_seen tree u r q changed j has own acts d =
        let x = settle.goes (here_at f k) (at_start tree) h.cell.slot q changed j in
        let haunts = haunts_at (here_at f k) tree q.state.pos j (set.insert q.haunts k) in
        let gone = settled_to q haunts (q.beat + 1) (q.generation + 1) in
        let silent = ghosts_silent mine no_ghosts (here_at f k) q j haunts changed in
        let after : cell_post s t ≡ post (stores h) None = post_is (stores t) (stores h) (desk_at t) None stores_same (real_is x u d) in
        twice (acted q) (acts_seen u r q changed has own acts (λ y. []) (λ y. refl))
        (leaves (desk_for s q.orders q.done) j refl refl after
        (only (ghost_messages (here_at f k) q j haunts changed) j (Hand gone None) _ d.sends silent refl))

    holds_seen : (c : CallData) (r : RealView) → i ≡ Some (Call c) → real_in h ≡ Some r → (order_of r.orders c.sender).next < c.number →
        cell_post s t ≡ acted (with_offer r c) → IsSilent mine sent → Seen
    holds_seen c r a has early after q = elim (cases_eq (rank_of c.sender) s) [
      | inl is ↦ once (offers c.number c (desk_for s r.orders r.done) (ap (carried_in mine) a ∙ from_same s c (Item c.number c) is)
          (before r has) (after ∙ turned (with_offer r c) _ (desk_holds s r.orders r.done c is early)) (quiet q))
      | inr is ↦ once (rests (ap (carried_in mine) a ∙ from_other s c (Item c.number c) is)
          (after ∙ stays_put r (with_offer r c) has (desk_stays s r.orders r.done c is)) (quiet q))
    ]

    passes_seen : (c : CallData) (to : ℕ) → i ≡ Some (Call c) → cell_post s t ≡ cell_post s h → sent ≡ (to, Call c) ∷ [] → Seen
    passes_seen c to a after is = elim (cases_eq (rank_of c.sender) s) [
      | inl same ↦ once (relays c.number c to (ap (carried_in mine) a ∙ from_same s c (Item c.number c) same) after
          (only [] to (Call c) (Item c.number c) is tt (from_same s c (Item c.number c) same)))
      | inr other ↦ once (rests (ap (carried_in mine) a ∙ from_other s c (Item c.number c) other) after
          (quiet (subst (IsSilent mine) (sym is) (from_other s c (Item c.number c) other, tt))))
    ]

    module _ (room : (r : RealView) (bs : Option Boundaries) → i ≡ Some (Hand r bs) → FindsRoom f k h r)
        (turn : (c : CallData) → i ≡ Some (Call c) →
        FindsTurn f k h c) where
      unseen_by : (tree : Division) → IsTreeOf f tree → (j : Option Msg) → i ≡ j → Ignored (here_at f k) tree h.cell i → came ≡ None
      unseen_by tree of None n why = ap (carried_in mine) n
      unseen_by tree of (Some (Hand r bs)) n why = absurd (not_stray f k h r (room r bs n) tree of (not_handed why r bs n))
      unseen_by tree of (Some (Call c)) n why = absurd (elim (not_called why c n) [
        | inl b ↦ let p = turn c n in call_not_stray (here_at f k) c h.cell.slot.real h.cell.slot.next p.may p.place b
        | inr l ↦ let le = (turn c n).due l.0 l.1 in let lt = l.2 in omega (arith, le, lt)
      ])
      unseen_by tree of (Some m) n why = unseen m n refl

      cell_seen : HoldsOwn h → (i ≡ Some (Reap e) → ⊥) → (tree : Division) → IsTreeOf f tree →
          CellDeeds (here_at f k) tree e h.cell i t.cell sent → Seen
      cell_seen own calm tree of (deed.idles a z) =
          idle (unseen_by tree of i refl a.why) (subst (IsSilent mine) (sym z) tt) stores_same (ap (real_desk s) a.real)
      cell_seen own calm tree of (deed.stays u r q changed has is acts at d) = stays_seen tree u r q changed has own acts d
      cell_seen own calm tree of (deed.goes u r q changed j has is acts at n d) = goes_seen tree u r q changed j has own acts d
      cell_seen own calm tree of (deed.holds c r n is has mine_is may lt d) =
          holds_seen c r n has lt (post_is (stores t) (stores h) (desk_at t) _ stores_same (real_is _ h.cell d)) (silent_of _ h.cell d tt)
      cell_seen own calm tree of (deed.passes c p n is has at d) =
          passes_seen c p.cell n (post_is (stores t) (stores h) (desk_at t) (desk_at h) stores_same (real_is _ h.cell d)) d.sends
      cell_seen own calm tree of (deed.lands r bs n is has may d) =
          once (lands (desk_for s r.orders r.done) (ap (carried_in mine) n)
          (post_is (stores t) (stores h) (desk_at t) _ stores_same (real_is _ h.cell d))
          (quiet (silent_of _ h.cell d (mapped_silent mine (current_to (here_at f k) r) (λ b. refl) (base_numbers (here_at f k))))))
      cell_seen own calm tree of (deed.reaped r n has is may d) = absurd (calm n)
      cell_seen own calm tree of (deed.looks n r w known a at has is v small d) =
          idle_step (looks_with (here_at f k) h.cell.slot r w known (shown_of (here_at f k) r w known))
          (record { slot = h.cell.slot; survey = h.cell.survey; looks = n }) d (sym (before r has)) (ap (carried_in mine) a)
          (numbered_silent mine (base_of (here_at f k) r.entity) r.entity w.sent _ (λ u. refl))

  -- ---- a base node

  module _ (cell : t.cell ≡ h.cell) (high : cell_count ≤ k) (room : (r : RealView) (bs : Option Boundaries) → i ≡ Some (Hand r bs) →
      FindsRoom f k h r)
      (turn : (c : CallData) → i ≡ Some (Call c) → FindsTurn f k h c) where
    desk_same : desk_at t ≡ desk_at h
    desk_same = ap (λ c. real_desk s c.slot.real) cell

    base_none : (j : Option Msg) → i ≡ j → came ≡ None
    base_none None a = ap (carried_in mine) a
    base_none (Some (Call c)) a = let low = (turn c a).cell in absurd (omega (arith, low, high))
    base_none (Some (Hand r bs)) a = let low = (room r bs a).cell in absurd (omega (arith, low, high))
    base_none (Some m) a = unseen m a refl

    still : IsSilent mine sent → stores t ≡ stores h → Seen
    still q a = idle (base_none i refl) q a desk_same

    nothing : sent ≡ [] → IsSilent mine sent
    nothing z = subst (IsSilent mine) (sym z) tt

    one_silent : (j : ℕ) (m : Msg) → mine m ≡ None → sent ≡ (j, m) ∷ [] → IsSilent mine sent
    one_silent j m n z = subst (IsSilent mine) (sym z) (n, tt)

    orders_seen : (c : CallData) (os : List Order) (to : ℕ) → i ≡ None → h.base.orders ≡ order.Cell c ∷ os → t.base.orders ≡ os →
        sent ≡ (to, Call c) ∷ [] → Seen
    orders_seen c os to n at now z =
        let first = ap (letters_of (cell_order_from s)) at in
        let after = ap (letters_of (cell_order_from s)) now in
        elim (cases_eq (rank_of c.sender) s) [
          | inl is ↦ once (sends c.number c (letters_of (cell_order_from s) os) to (ap (carried_in mine) n)
              (first ∙ ap (λ o. more_letter o (letters_of (cell_order_from s) os)) (from_same s c (c.number, c) is))
              (post_is (stores t) _ (desk_at t) (desk_at h) after desk_same)
              (only [] to (Call c) (Item c.number c) z tt (from_same s c (Item c.number c) is)))
          | inr is ↦ still (one_silent to (Call c) (from_other s c (Item c.number c) is) z)
              (after ∙ sym (first ∙ ap (λ o. more_letter o (letters_of (cell_order_from s) os)) (from_other s c (c.number, c) is)))
        ]

    -- an order that is none for the cell part is gone
    other_gone : (o : Order) (os : List Order) → cell_order_from s o ≡ None → h.base.orders ≡ o ∷ os → t.base.orders ≡ os →
        stores t ≡ stores h
    other_gone o os none at now =
        ap (letters_of (cell_order_from s)) now
        ∙ sym (ap (letters_of (cell_order_from s)) at ∙ ap (λ x. more_letter x (letters_of (cell_order_from s) os)) none)

    base_seen : (cells : ℕ) → BaseDeeds (here_at f k) cells e h.base i t.base sent → Seen
    base_seen cells (base_deed.stays orders z) = still (nothing z) (ap (letters_of (cell_order_from s)) orders)
    base_seen cells (base_deed.calls c r n at has z) = orders_seen c t.base.orders r.cell n at refl z
    base_seen cells (base_deed.base_calls c n at z) =
        still (one_silent (base_of (here_at f k) e) (BaseCall c) refl z) (other_gone (order.Base c) t.base.orders refl at refl)
    base_seen cells (base_deed.serves c n at z) = still (nothing z) (other_gone (order.Base c) t.base.orders refl at refl)
    base_seen cells (base_deed.ticks n at z) =
        still (subst (IsSilent mine) (sym z) (mapped_silent mine tick_to (λ j. refl) (range_with_len 0 cells)))
        (other_gone order.Tick t.base.orders refl at refl)
    base_seen cells (base_deed.reaps r n at has z) =
        still (one_silent r.cell (Reap e) refl z) (other_gone (order.Reap e) t.base.orders refl at refl)

  pub calls_seen : ((r : RealView) (bs : Option Boundaries) → i ≡ Some (Hand r bs) → FindsRoom f k h r) →
      ((c : CallData) → i ≡ Some (Call c) → FindsTurn f k h c) →
      HoldsOwn h → (i ≡ Some (Reap e) → ⊥) → Moves f e k h i t sent → Seen
  calls_seen room turn own calm (at_a_cell tree of low m same) = cell_seen same room turn own calm tree of (cell_deeds m)
  calls_seen room turn own calm (at_a_base high m same) = base_seen same high room turn _ (base_deeds m)
