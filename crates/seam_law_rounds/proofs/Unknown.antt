-- Of an entity that is not there as a phase begins, nothing but ticks is due or comes, in any phase of a round.
use Rattle.seam_law_rounds.proofs.Prelude.{◌≡◌, ℕ, Bool, true, false, cond, eqb, ◌||◌, List, [], ◌∷◌, Option, None, Some, refl, sym, ap}
use Rattle.seam_law_rounds.proofs.Prelude.{◌∙◌, subst, arith, inl, inr, option_map, slice_get, AllByRecursion, cases_lt, eqb-true, ne_eqb}
use Rattle.seam_law_rounds.proofs.Prelude.{slice_get-map, total, items_to, Event, Order, Batch, has_ready, cell_count, base_of, PartView}
use Rattle.seam_law_rounds.proofs.Prelude.{ProxyView, proxy_is_ready, holders, NodeView, World, node_has_work, Cell, Base, part_begins}
use Rattle.seam_law_rounds.proofs.Prelude.{proxy_begins, with_nodes, ordered_at, reap_ordered_at, loaded, reaps_loaded, look_loaded}
use Rattle.seam_law_rounds.proofs.Prelude.{slot_at, letters_of, Frame, here_at, IsAt, IsInFrame, Has, mine, has_of, has_none, entity_flow}
use Rattle.seam_law_rounds.proofs.Prelude.{real_in, real_of, order_about, order_concerns, orders_of, times, IsTickOrder, IsTickTo}
use Rattle.seam_law_rounds.proofs.Prelude.{IsUnknown, OnlyTicks, RunsTo, IsBetweenRounds, AreReapable, framed, each, node_loaded, MayBegin}
use Rattle.seam_law_rounds.proofs.Prelude.{with_proxy, quiet_links, quiet_tasks, counted_none, none_counts, none_is_ready, unknown_leads}
use Rattle.seam_node_steps.specs.Prelude.{TellsNone}
use Rattle.seam_call.specs.declared.order.Order.TheVariants as order
use Rattle.seam_law_rounds.proofs.Loading.{node_there}
use Rattle.seam_law_rounds.proofs.Framing.{in_frame}
use Rattle.seam_law_rounds.proofs.Loaded.{no_mail, slot_is, holds_made}
use Rattle.seam_law_rounds.proofs.Turns.{node_none, node_orders}
use Rattle.seam_law_rounds.proofs.Shape.{Nowhere}
use Rattle.seam_law_rounds.proofs.Calm.{IsCalmOrder, order_reaps}
use Rattle.seam_law_rounds.proofs.Starting.{Given}
use Rattle.seam_law_rounds.proofs.Giving.{reaps_framed, look_framed, reaps_given, look_given}
use Rattle.seam_law_rounds.proofs.Reaping as reaping
use Rattle.seam_law_rounds.proofs.Looking as looking
use Rattle.seam_law_rounds.proofs.PartLoads.{part_at, parts_ordered}
use Rattle.seam_law_rounds.proofs.Joining.{peopled, is_among, joined_if, part_joined, part_peopled}
use Rattle.seam_law_rounds.proofs.Calms.{zero_of, reaps_part}

-- ---- a part with nothing to do

abbrev Rests : Option PartView → Type 0
Rests o = (p : PartView) → o ≡ Some p → (has_ready p.orders ≡ false) × (proxy_is_ready p.proxy ≡ false)

none_rests : Rests None
none_rests p at = absurd (let z = at in cc)

quiet_rests : (e : ℕ) (s : NodeView) → node_has_work s ≡ false → Rests (part_at e s)
quiet_rests e (Cell c) h = none_rests
quiet_rests e (Base n) h = λ p at. none_is_ready n e p h at

proxy_rests : (o : Option ProxyView) → proxy_is_ready o ≡ false → proxy_is_ready (option_map proxy_begins o) ≡ false
proxy_rests None h = h
proxy_rests (Some x) h = h

begun_rests : (o : Option PartView) → Rests o → Rests (option_map part_begins o)
begun_rests None h = none_rests
begun_rests (Some q) h = λ p at.
    let same : part_begins q ≡ p = cc in
    let was = h q refl in
    subst (λ (x : PartView). (has_ready x.orders ≡ false) × (proxy_is_ready x.proxy ≡ false)) same (was.0, proxy_rests q.proxy was.1)

-- what a node has of the entity
only : (h : Has) → real_in h ≡ None → AllByRecursion IsTickOrder h.base.orders → Rests h.base.part → OnlyTicks h
only h real orders rest = record { real = real; orders = orders; calls = λ p at. (rest p at).0; updates = λ p at. (rest p at).1 }

none_ticks : OnlyTicks has_none
none_ticks = only has_none refl tt none_rests

-- those that have a holder are others
others_by : {A : Type 0} (w : World) (e : ℕ) (g : A → ℕ) → holders w e ≡ 0 → (xs : List A) →
    AllByRecursion (λ x. holders w (g x) ≡ 1) xs → AllByRecursion (λ x. g x ≡ e → ⊥) xs
others_by w e g zero [] h = tt
others_by w e g zero (x ∷ xs) h = (
  λ is.
      let one = sym (ap (holders w) is) ∙ h.0 in
      omega (arith, zero, one),
  others_by w e g zero xs h.1,
)

among_none : (e : ℕ) (qs : List ℕ) → AllByRecursion (λ q. q ≡ e → ⊥) qs → is_among e qs ≡ false
among_none e [] h = refl
among_none e (q ∷ qs) h = ap (λ b. b || is_among e qs) (ne_eqb q e h.0) ∙ among_none e qs h.1

-- ---- a round

module _ (f : Frame) (w : World) (b : Batch) (begin : MayBegin f w b) where
  -- an entity that is nowhere has no holder
  pub nobody : (e : ℕ) → Nowhere e (loaded w b) → holders (loaded w b) e ≡ 0
  nobody e n =
      none_counts (loaded w b) e
      (record { slots = n; mail = λ x y. ap (letters_of real_of) (no_mail f w b begin e x y) })

  module _ (e : ℕ) (zero : holders (loaded w b) e ≡ 0) where
    about : (x : ℕ) → x ≡ e → holders (loaded w b) x ≡ 1 → ⊥
    about x is one = let z = sym (ap (holders (loaded w b)) is) ∙ one in omega (arith, zero, z)

    -- ---- its orders

    tick_by : (o : Order) (os : List Order) (d : Bool) → order_concerns e o ≡ d →
        ((x : ℕ) → order_about o ≡ Some x → holders (loaded w b) x ≡ 1) → TellsNone o →
        AllByRecursion IsTickOrder os → AllByRecursion IsTickOrder (cond d (o ∷ os) os)
    tick_by (order.Cell c) os true is known plain all = absurd (about c.entity (eqb-true c.entity e is) (known c.entity refl))
    tick_by (order.Base c) os true is known plain all = absurd (about c.entity (eqb-true c.entity e is) (known c.entity refl))
    tick_by order.Tick os true is known plain all = (tt, all)
    tick_by (order.Reap x) os true is known plain all = absurd (about x (eqb-true x e is) (known x refl))
    tick_by (order.Bounds x) os true is known plain all = cc
    tick_by o os false is known plain all = all

    item_by : (o : ℕ × Order) (os : List Order) (d : Bool) → ((x : ℕ) → order_about o.1 ≡ Some x → holders (loaded w b) x ≡ 1) →
        TellsNone o.1 → AllByRecursion IsTickOrder (orders_of e os) → AllByRecursion IsTickOrder (orders_of e (cond d (o.1 ∷ os) os))
    item_by o os true known plain all = tick_by o.1 (orders_of e os) (order_concerns e o.1) refl known plain all
    item_by o os false known plain all = all

    ticks_only : (k : ℕ) (os : List (ℕ × Order)) → AllByRecursion (λ o. (x : ℕ) → order_about o.1 ≡ Some x → holders (loaded w b) x ≡ 1) os
        → AllByRecursion (λ o. TellsNone o.1) os → AllByRecursion IsTickOrder (orders_of e (items_to k os))
    ticks_only k [] h plain = tt
    ticks_only k (o ∷ os) h plain = item_by o (items_to k os) (eqb o.0 k) h.0 plain.0 (ticks_only k os h.1 plain.1)

    orders_at : (k : ℕ) (s : NodeView) → slice_get w.nodes k ≡ Some s →
        AllByRecursion IsTickOrder (has_of e (node_loaded b s)).base.orders
    orders_at k s at = elim (cases_lt k cell_count) [
      | inl low ↦ subst (AllByRecursion IsTickOrder) (sym (node_none f w b begin.between begin.fits.tree begin.fits.unmoved e k s at low))
          tt
      | inr high ↦ subst (AllByRecursion IsTickOrder) (sym (node_orders f w b begin.between begin.fits.tree begin.fits.unmoved e k s at
          high))
          (ticks_only k b.orders begin.fits.known begin.fits.unmoved)
    ]

    -- ---- its part, which the batch neither makes nor gives a client

    part_is : (k : ℕ) (s : NodeView) → IsAt f k s → part_at e (node_loaded b s) ≡ option_map part_begins (part_at e s)
    part_is k s at =
        let made = others_by (loaded w b) e (λ x. x.entity) zero b.creates (holds_made f w b begin) in
        let joins = others_by (loaded w b) e (λ x. x) zero b.clients begin.fits.clients in
        part_joined e f b k s at
        ∙ (ap (λ d. joined_if d (with_proxy (here_at f k)) (part_at e (peopled b s))) (among_none e b.clients joins)
        ∙ part_peopled e b s made)

    -- ---- all of it

    slot_by : (k : ℕ) (o : Option NodeView) → slice_get w.nodes k ≡ o → real_in ((entity_flow e (loaded w b)).slot k) ≡ None →
        (entity_flow e (loaded w b)).slot k ≡ slot_at (has_of e) has_none (option_map (node_loaded b) o) →
        OnlyTicks ((entity_flow e (loaded w b)).slot k)
    slot_by k None at real is = subst OnlyTicks (sym is) none_ticks
    slot_by k (Some s) at real is =
        let idle = quiet_tasks node_has_work w begin.between.quiet k s at in
        subst OnlyTicks (sym is)
        (only (has_of e (node_loaded b s)) (sym (ap real_in is) ∙ real) (orders_at k s at)
        (subst Rests (sym (part_is k s (begin.between.nodes.nodes k s at))) (begun_rests (part_at e s) (quiet_rests e s idle))))

    pub unknown_loaded : IsUnknown (framed f b) e (loaded w b)
    unknown_loaded = record {
      frame = in_frame f w b begin;
      cells = begin.fits.tree.cells_to;
      slots = λ k. slot_by k (slice_get w.nodes k) refl ((counted_none (loaded w b) e zero).slots k) (slot_is w b e k);
      letters = λ a k. subst (AllByRecursion (IsTickTo k)) (sym (no_mail f w b begin e a k)) tt;
    }

    pub unknown_in_round : (v : World) (es : List Event) → RunsTo (loaded w b) es v → IsUnknown (framed f b) e v
    unknown_in_round v es run = unknown_leads (framed f b) e (loaded w b) v es unknown_loaded run

-- ---- a phase whose load only gives orders

no_reaps : (e : ℕ) (os : List Order) → AllByRecursion (IsCalmOrder e) os → total order_reaps os ≡ 0 → AllByRecursion IsTickOrder os
no_reaps e [] h none = tt
no_reaps e (order.Tick ∷ os) h none = (tt, no_reaps e os h.1 (omega (arith, none)))
no_reaps e (order.Reap x ∷ os) h none = absurd (omega (arith, none))
no_reaps e (_ ∷ os) h none = absurd h.0

module _ (f : Frame) (u : World) (between : IsBetweenRounds f u) (turn : NodeView → NodeView) (frame : IsInFrame f (with_nodes u turn))
    (e : ℕ) (nowhere : Nowhere e u) (given : (k : ℕ) (s : NodeView) → slice_get u.nodes k ≡ Some s → Given e 0 s (turn s))
    (parts : (s : NodeView) → part_at e (turn s) ≡ part_at e s) where
  turned_by : (k : ℕ) (o : Option NodeView) → slice_get (with_nodes u turn).nodes k ≡ o → OnlyTicks (slot_at (has_of e) has_none o)
  turned_by k None at = none_ticks
  turned_by k (Some t) at =
      let n = node_there (slice_get u.nodes k) turn t (sym (slice_get-map turn u.nodes k) ∙ at) in
      let g = given k n.0 n.1 in
      let idle = quiet_tasks node_has_work u between.quiet k n.0 n.1 in
      subst (λ x. OnlyTicks (has_of e x)) n.2
      (only (has_of e (turn n.0))
      (ap (λ c. c.slot.real) g.cell ∙ (sym (ap (λ o. real_in (slot_at (has_of e) has_none o)) n.1) ∙ nowhere k))
      (no_reaps e (has_of e (turn n.0)).base.orders g.orders g.reaps)
      (subst Rests (sym (parts n.0)) (quiet_rests e n.0 idle)))

  unknown_turned : IsUnknown f e (with_nodes u turn)
  unknown_turned = record {
    frame = frame;
    cells = between.frame.tree.cells_to;
    slots = λ k. turned_by k (slice_get (with_nodes u turn).nodes k) refl;
    letters = λ a k.
        subst (AllByRecursion (IsTickTo k))
        (sym (ap (letters_of (mine e)) (quiet_links node_has_work u between.nodes.sound.square between.quiet a k))) tt;
  }

module _ (f : Frame) (u : World) (between : IsBetweenRounds f u) (es : List ℕ) (may : AreReapable u es) where
  abbrev turn : NodeView → NodeView
  turn = each reap_ordered_at es

  zero_by : (x : Bool) (n : ℕ) → n ≡ 0 → cond {A = ℕ} x n 0 ≡ 0
  zero_by true n h = h
  zero_by false n h = refl

  pub unknown_reaps : (e : ℕ) → Nowhere e u → IsUnknown f e (reaps_loaded u es)
  unknown_reaps e n =
      let others = others_by u e (λ x. x) (zero_of f u between e n) es may.there in
      subst (IsUnknown f e) (sym (reaping.loaded_is f u between es may))
      (unknown_turned f u between turn (reaps_framed f u between.nodes es) e n (λ k s at.
      subst (λ m. Given e m s (turn s)) (zero_by (eqb k (base_of (here_at f 0) e)) (times e es) (reaping.never_by e es others))
      (reaps_given e f k es s (between.nodes.nodes k s at) (quiet_tasks node_has_work u between.quiet k s at))) (reaps_part e es))

module _ (f : Frame) (u : World) (between : IsBetweenRounds f u) where
  pub unknown_look : (e : ℕ) → Nowhere e u → IsUnknown f e (look_loaded u)
  unknown_look e n =
      unknown_turned f u between (ordered_at looking.tick) (look_framed f u between.nodes looking.tick refl) e n
      (λ k s at. look_given e f k cell_count s (quiet_tasks node_has_work u between.quiet k s at)) (parts_ordered e (looking.tick ∷ []))

-- ---- over a list of events, of an entity without a holder

-- one that has no holder is nowhere
nowhere_of : (u : World) (e : ℕ) → holders u e ≡ 0 → Nowhere e u
nowhere_of u e zero = (counted_none u e zero).slots

pub unknown_in_reaps : (f : Frame) (u : World) → IsBetweenRounds f u → (es : List ℕ) → AreReapable u es → (vs : List Event) (v : World) →
    RunsTo (reaps_loaded u es) vs v → (e : ℕ) → holders u e ≡ 0 → IsUnknown f e v
unknown_in_reaps f u between es may vs v run e zero =
    unknown_leads f e (reaps_loaded u es) v vs (unknown_reaps f u between es may e (nowhere_of u e zero)) run

pub unknown_in_looks : (f : Frame) (u : World) → IsBetweenRounds f u → (vs : List Event) (v : World) → RunsTo (look_loaded u) vs v →
    (e : ℕ) → holders u e ≡ 0 → IsUnknown f e v
unknown_in_looks f u between vs v run e zero =
    unknown_leads f e (look_loaded u) v vs (unknown_look f u between e (nowhere_of u e zero)) run
