-- Each sender's calls of a batch are in turn in a loaded world, for each entity of it.
use Rattle.seam_law_rounds.proofs.Prelude.{◌≡◌, ℕ, ◌<◌, ◌≤◌, Bool, true, false, cond, eqb, List, [], ◌∷◌, ◌++◌, map, Option, None, Some}
use Rattle.seam_law_rounds.proofs.Prelude.{refl, sym, ap, ◌∙◌, subst, arith, inl, inr, option_map, slice_get, AllByRecursion, eqb-true}
use Rattle.seam_law_rounds.proofs.Prelude.{cases_lt, append_assoc, append-nil, filter-append, slice_get_cases, IsTree, items_to, item_at}
use Rattle.seam_law_rounds.proofs.Prelude.{Call as CallData, Order, Batch, rank_of, order_or, RealView, Msg, cell_count, fits_cell_part}
use Rattle.seam_law_rounds.proofs.Prelude.{BaseView, NodeView, World, node_has_work, Cell, Base, cell_round, order_if, ordered_at, loaded}
use Rattle.seam_law_rounds.proofs.Prelude.{Flow, slot_at, letters_of, more_letter, number_from, of_number, Desk, AreInTurn, Frame, here_at}
use Rattle.seam_law_rounds.proofs.Prelude.{IsAt, Has, kept_if, has_of, has_none, order_concerns, orders_of, is_from, from_sender}
use Rattle.seam_law_rounds.proofs.Prelude.{cell_order_from, real_desk, cell_mail, as_sender, IsCallOf, AreCallsOf, CellCallsInTurn, real_at}
use Rattle.seam_law_rounds.proofs.Prelude.{order_in, cell_call_from, calls_of, calls_at, AreNumbered, IsFitOrder, next_from}
use Rattle.seam_law_rounds.proofs.Prelude.{IsBetweenRounds, framed, each, made, node_loaded, MayBegin, quiet_tasks, letters_of-number_from}
use Rattle.seam_law_rounds.proofs.Prelude.{loaded_in_turn}
use Rattle.seam_call.specs.declared.order.Order.TheVariants as order
use Rattle.std.specs.FinMap as table
use Rattle.seam_law_rounds.proofs.Framing.{node_begun, node_goes}
use Rattle.seam_law_rounds.proofs.Staying.{made_orders}
use Rattle.seam_law_rounds.proofs.Loaded.{no_items, after, no_mail, slot_is, Loaded, real_loaded}
use Rattle.seam_node_steps.specs.Prelude.{TellsNone}

-- ---- the calls fit

module _ (f : Frame) (e ty s : ℕ) where
  abbrev Ours : List CallData → Type 0
  Ours cs = AllByRecursion (IsCallOf f e ty s) cs

  from_by : (c : CallData) (rest : List CallData) (b : Bool) → is_from s c ≡ b → fits_cell_part (here_at f 0) e ty c ≡ true → Ours rest →
      Ours (more_letter (kept_if b c) rest)
  from_by c rest true is h all = (record { sender = eqb-true (rank_of c.sender) s is; fits = h }, all)
  from_by c rest false is h all = all

  ours_by : (o : Order) (rs : List Order) (b : Bool) → order_concerns e o ≡ b → IsFitOrder f e ty o →
      Ours (letters_of (cell_call_from s) rs) → Ours (letters_of (cell_call_from s) (cond b (o ∷ rs) rs))
  ours_by o rs false is h all = all
  ours_by (order.Cell c) rs true is h all =
      from_by c (letters_of (cell_call_from s) rs) (is_from s c) refl (h (eqb-true c.entity e is)) all
  ours_by _ rs true is h all = all

  pub ours : (os : List (ℕ × Order)) → AllByRecursion (λ o. IsFitOrder f e ty o.1) os →
      Ours (letters_of (cell_call_from s) (orders_of e (map order_in os)))
  ours [] h = tt
  ours (o ∷ os) h = ours_by o.1 (orders_of e (map order_in os)) (order_concerns e o.1) refl h.0 (ours os h.1)

-- ---- the orders of a base node

module _ (f : Frame) (e k : ℕ) where
  -- a base node's orders that concern the entity are these
  abbrev OrdersAre : List Order → NodeView → Type 0
  OrdersAre l (Cell c) = Unit {0}
  OrdersAre l (Base n) = orders_of e n.orders ≡ l

  orders_are : (l : List Order) (s : NodeView) → (has_of e s).base.orders ≡ l → OrdersAre l s
  orders_are l (Cell c) h = tt
  orders_are l (Base n) h = h

  cons_is : (o : Order) (os : List Order) → orders_of e (o ∷ os) ≡ orders_of e (o ∷ []) ++ orders_of e os
  cons_is o os = filter-append (order_concerns e) (o ∷ []) os

  abbrev Given : List (ℕ × Order) → Type 0
  Given os = (l : List Order) (n : BaseView) → n.here.me ≡ k → orders_of e n.orders ≡ l →
      OrdersAre (l ++ orders_of e (items_to k os)) (each ordered_at os (Base n))

  given_by : (o : ℕ × Order) (os : List (ℕ × Order)) (b : Bool) → Given os → (l : List Order) (n : BaseView) → n.here.me ≡ k →
      orders_of e n.orders ≡ l →
      OrdersAre (l ++ orders_of e (cond b (o.1 ∷ items_to k os) (items_to k os))) (each ordered_at os (Base (order_if b n o.1)))
  given_by o os true more l n me h =
      let now = filter-append (order_concerns e) n.orders (o.1 ∷ []) ∙ ap (λ x. x ++ orders_of e (o.1 ∷ [])) h in
      let is = append_assoc l (orders_of e (o.1 ∷ [])) (orders_of e (items_to k os))
      ∙ ap (λ x. l ++ x) (sym (cons_is o.1 (items_to k os))) in
      subst (λ x. OrdersAre x (each ordered_at os (Base (order_if true n o.1)))) is
      (more (l ++ orders_of e (o.1 ∷ [])) (order_if true n o.1) me now)
  given_by o os false more l n me h = more l n me h

  given : (os : List (ℕ × Order)) → Given os
  given [] l n me h = h ∙ sym (append-nil l)
  given (o ∷ os) l n me h =
      subst (λ j. OrdersAre (l ++ orders_of e (items_to k (o ∷ os))) (each ordered_at os (Base (order_if (eqb o.0 j) n o.1)))) (sym me)
      (given_by o os (eqb o.0 k) (given os) l n me h)

  orders_given : (os : List (ℕ × Order)) (s : NodeView) → IsAt f k s → (has_of e s).base.orders ≡ [] → cell_count ≤ k →
      OrdersAre (orders_of e (items_to k os)) (each ordered_at os s)
  orders_given os (Cell c) at h high = let low = at.low in absurd (omega (arith, low, high))
  orders_given os (Base n) at h high = given os [] n (ap (λ x. x.me) at.here) h

  at_base_is : (l : List Order) (s : NodeView) → IsAt f k s → cell_count ≤ k → OrdersAre l s → (has_of e s).base.orders ≡ l
  at_base_is l (Cell c) at high h = let low = at.low in absurd (omega (arith, low, high))
  at_base_is l (Base n) at high h = h

  pub at_cell_none : (s : NodeView) → IsAt f k s → k < cell_count → (has_of e s).base.orders ≡ []
  at_cell_none (Cell c) at low = refl
  at_cell_none (Base n) at low = let high = at.high in absurd (omega (arith, low, high))

-- a node without a task has no order
idle_orders : (e : ℕ) (s : NodeView) → node_has_work s ≡ false → (has_of e s).base.orders ≡ []
idle_orders e (Cell c) h = refl
idle_orders e (Base n) h = ap (orders_of e) (no_items n.orders _ h)

-- what a loaded node has of orders that concern the entity
module _ (f : Frame) (w : World) (b : Batch) (between : IsBetweenRounds f w) (tree : IsTree b.tree)
    (unmoved : AllByRecursion (λ o. TellsNone o.1) b.orders) (e : ℕ) where
  pub node_orders : (k : ℕ) (s : NodeView) → slice_get w.nodes k ≡ Some s → cell_count ≤ k →
      (has_of e (node_loaded b s)).base.orders ≡ orders_of e (items_to k b.orders)
  node_orders k s at high =
      let q = between.nodes in
      let begun = node_begun f b tree k s (q.sound.states k s at) (q.nodes k s at) in
      let goes = node_goes f b tree k unmoved s (q.sound.states k s at) (q.nodes k s at) in
      let none = made_orders e b s ∙ idle_orders e s (quiet_tasks node_has_work w between.quiet k s at) in
      at_base_is (framed f b) e k (orders_of e (items_to k b.orders)) (node_loaded b s) goes.1 high
      (orders_given (framed f b) e k b.orders (cell_round b.tree (made b s)) begun.1 none high)

  pub node_none : (k : ℕ) (s : NodeView) → slice_get w.nodes k ≡ Some s → k < cell_count → (has_of e (node_loaded b s)).base.orders ≡ []
  node_none k s at low =
      at_cell_none (framed f b) e k (node_loaded b s)
      (node_goes f b tree k unmoved s (between.nodes.sound.states k s at) (between.nodes.nodes k s at)).1 low

module _ (f : Frame) (w : World) (b : Batch) (begin : MayBegin f w b) (e home : ℕ) (r : RealView)
    (here : real_at e (loaded w b) home ≡ Some r) where
  abbrev then : Flow Has Msg
  then = after f w b begin e

  abbrev its : Loaded f w b begin e home r
  its = real_loaded f w b begin e home r here

  -- what a node has of a sender's calls is what the batch gives it, or nothing
  module _ (s : ℕ) where
    abbrev stored : ℕ → List (ℕ × CallData)
    stored k = letters_of (cell_order_from s) (then.slot k).base.orders

    stored_is : (k : ℕ) (o : Option NodeView) → slice_get w.nodes k ≡ o →
        stored k ≡ letters_of (cell_order_from s) (slot_at (has_of e) has_none (option_map (node_loaded b) o)).base.orders
    stored_is k o at =
        ap (λ h. letters_of (cell_order_from s) h.base.orders)
        (slot_is w b e k ∙ ap (λ x. slot_at (has_of e) has_none (option_map (node_loaded b) x)) at)

    there_by : (k : ℕ) (n : NodeView) → slice_get w.nodes k ≡ Some n → cell_count ≤ k → stored k ≡ calls_at b e s k
    there_by k n at high =
        stored_is k (Some n) at
        ∙ ap (letters_of (cell_order_from s)) (node_orders f w b begin.between begin.fits.tree begin.fits.unmoved e k n at high)

    none_by : (k : ℕ) (o : Option NodeView) → slice_get w.nodes k ≡ o → calls_at b e s k ≡ [] → stored k ≡ []
    none_by k None at none = stored_is k None at
    none_by k (Some n) at none = elim (cases_lt k cell_count) [
      | inr high ↦ there_by k n at high ∙ none
      | inl low ↦
          stored_is k (Some n) at ∙ ap (letters_of (cell_order_from s))
          (node_none f w b begin.between begin.fits.tree begin.fits.unmoved e k n at low)
    ]

    -- ---- in turn

    abbrev first : ℕ
    first = next_from s r

    abbrev numbers : AreNumbered f b e s first
    numbers = (begin.fits.calls e home r here).numbered s

    abbrev desk_at : List (ℕ × CallData) → Desk CallData
    desk_at held = record { order = record { next = first; held = held }; done = [] }

    store_by : (n : ℕ) (o : Option NodeView) → slice_get w.nodes numbers.node ≡ o →
        letters_of (of_number n) (stored numbers.node) ≡ more_letter (item_at n (number_from first (calls_of b e s))) []
    store_by n None at =
        let many = begin.between.many in
        let in_net = numbers.in_net in
        elim (slice_get_cases w.nodes numbers.node).1 [
          | inl p ↦ absurd (let z = sym at ∙ p.2 in cc)
          | inr p ↦ let past = p.0 in absurd (omega (arith, past, many, in_net))
        ]
    store_by n (Some m) at =
        ap (letters_of (of_number n)) (there_by numbers.node m at numbers.is_base ∙ numbers.calls)
        ∙ letters_of-number_from n first (calls_of b e s)

    store : (n : ℕ) → letters_of (of_number n) (stored numbers.node) ≡ more_letter (item_at n (number_from first (calls_of b e s))) []
    store n = store_by n (slice_get w.nodes numbers.node) refl

    pub sender_in_turn : AreInTurn first (calls_of b e s) (as_sender s then)
    sender_in_turn = loaded_in_turn first (calls_of b e s) (as_sender s then) numbers.node home (record {
      mail = λ x y. ap (letters_of (cell_mail s)) (no_mail f w b begin e x y);
      store = store;
      stores = λ j n. none_by j (slice_get w.nodes j) refl (numbers.others j n);
      here =
          ap (real_desk s) here
          ∙ (ap (λ d. Some (record { order = order_or (table.get r.orders s); done = letters_of (from_sender s) d })) its.idle
          ∙ ap (λ h. Some (desk_at h)) (its.settled.none_held s));
      others = λ j n. ap (real_desk s) (its.settled.others j n);
      from_one = its.settled.from_one s;
      small = numbers.room;
    })

  pub calls_in_turn : CellCallsInTurn e (λ s. next_from s r) (calls_of b e) (loaded w b)
  calls_in_turn = sender_in_turn

  pub are_calls : AreCallsOf (framed f b) e r.ty (calls_of b e)
  are_calls s = ours (framed f b) e r.ty s b.orders (begin.fits.calls e home r here).fit
