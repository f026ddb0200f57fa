-- Where a batch has no tick, its calls show no client anything of cell parts.
use Rattle.seam_law_transcript.proofs.Prelude.{◌≡◌, ℕ, ◌+◌, ◌≤◌, Bool, true, false, cond, eqb, List, [], ◌∷◌, length, Option, None, Some}
use Rattle.seam_law_transcript.proofs.Prelude.{refl, sym, ap, ◌∙◌, subst, arith, inl, inr, is_some, option_map, slice_get, AllByRecursion}
use Rattle.seam_law_transcript.proofs.Prelude.{cases_eq, cases_lt, Division, cells_of, leaf_at, IsQuiet, items_to, Event, Create, Order}
use Rattle.seam_law_transcript.proofs.Prelude.{Batch, cell_count, RealView, WitnessView, PartView, ProxyView, NodeView, World}
use Rattle.seam_law_transcript.proofs.Prelude.{node_has_work, Cell, Base, real_if, created_at, attached, base_round, cell_round, ordered_at}
use Rattle.seam_law_transcript.proofs.Prelude.{loaded, letters_of, slot_at, Frame, has_of, has_none, order_concerns, orders_of, entity_flow}
use Rattle.seam_law_transcript.proofs.Prelude.{real_of, home_of, proxy_of, lines_in, shown_in, shown_at, is_tick_order, tick_in}
use Rattle.seam_law_transcript.proofs.Prelude.{HasToldAtMost, HasNoLooks, HasClient, HasRoomFor, sent_of, sent_by, RunsTo, real_at, framed}
use Rattle.seam_law_transcript.proofs.Prelude.{each, made, node_loaded, AreInStep, AreFor, MayBeLoaded, IsServed, bare, served, quiet_tasks}
use Rattle.seam_law_transcript.proofs.Prelude.{settled_loaded, each_keeps, Any, any, no_mail, slot_is, node_orders, node_none}
use Rattle.seam_law_transcript.proofs.Prelude.{are_for_loaded, its_part, few_lines, idle_looks}
use Rattle.seam_law_calls.specs.Prelude.{order_in}
use Rattle.seam_law_rounds.proofs.PartTurns.{few_more}

abbrev pub IsNoTick : ℕ × Order → Type 0
IsNoTick o = is_tick_order o.1 ≡ false

-- ---- no tick comes to a node

items_none : (k : ℕ) (os : List (ℕ × Order)) → AllByRecursion IsNoTick os → AllByRecursion (λ o. is_tick_order o ≡ false) (items_to k os)
items_none k [] all = tt
items_none k (o ∷ os) all = by (eqb o.0 k) (items_none k os all.1)
  where
    by : (b : Bool) → AllByRecursion (λ x. is_tick_order x ≡ false) (items_to k os) →
        AllByRecursion (λ x. is_tick_order x ≡ false) (cond b (o.1 ∷ items_to k os) (items_to k os))
    by true rest = (all.0, rest)
    by false rest = rest

orders_none : (e : ℕ) (os : List Order) → AllByRecursion (λ o. is_tick_order o ≡ false) os →
    AllByRecursion (λ o. is_tick_order o ≡ false) (orders_of e os)
orders_none e [] all = tt
orders_none e (o ∷ os) all = by (order_concerns e o) (orders_none e os all.1)
  where
    by : (b : Bool) → AllByRecursion (λ x. is_tick_order x ≡ false) (orders_of e os) →
        AllByRecursion (λ x. is_tick_order x ≡ false) (cond b (o ∷ orders_of e os) (orders_of e os))
    by true rest = (all.0, rest)
    by false rest = rest

-- ---- no witness is to look

module _ (e : ℕ) where
  abbrev IsIdle : NodeView → Type 0
  IsIdle s = (has_of e s).cell.looks ≡ 0

  created_idle : (t : Division) (x : Create) (s : NodeView) → Any x → IsIdle s → IsIdle (created_at t x s)
  created_idle t x (Cell c) u h = by (eqb (leaf_at t x.pos) c.here.me)
    where
      by : (b : Bool) → IsIdle (Cell (real_if b c x))
      by true = h
      by false = h
  created_idle t x (Base n) u h = h

  attached_idle : (q : ℕ) (s : NodeView) → Any q → IsIdle s → IsIdle (attached q s)
  attached_idle q (Cell c) u h = h
  attached_idle q (Base n) u h = h

  ordered_idle : (o : ℕ × Order) (s : NodeView) → Any o → IsIdle s → IsIdle (ordered_at o s)
  ordered_idle o (Cell c) u h = h
  ordered_idle o (Base n) u h = h

  round_idle : (t : Division) (s : NodeView) → IsIdle s → IsIdle (cell_round t s)
  round_idle t (Cell c) h = h
  round_idle t (Base n) h = h

  begun_idle : (cells : ℕ) (s : NodeView) → IsIdle s → IsIdle (base_round cells s)
  begun_idle cells (Cell c) h = h
  begun_idle cells (Base n) h = h

  loaded_idle : (b : Batch) (s : NodeView) → IsIdle s → IsIdle (node_loaded b s)
  loaded_idle b s h =
      each_keeps ordered_at IsIdle Any ordered_idle b.orders (any b.orders) (cell_round b.tree (made b s))
      (round_idle b.tree (made b s)
      (each_keeps attached IsIdle Any attached_idle b.clients (any b.clients) (each (created_at b.tree) b.creates
      (base_round (cells_of b.tree) s))
      (each_keeps (created_at b.tree) IsIdle Any (created_idle b.tree) b.creates (any b.creates) (base_round (cells_of b.tree) s)
      (begun_idle (cells_of b.tree) s h))))

module _ (f : Frame) (w : World) (b : Batch) (may : MayBeLoaded f w b) (tickless : AllByRecursion IsNoTick b.orders) (e : ℕ) where
  abbrev start : World
  start = loaded w b

  orders_by : (k : ℕ) (s : NodeView) → slice_get w.nodes k ≡ Some s →
      AllByRecursion (λ o. is_tick_order o ≡ false) (has_of e (node_loaded b s)).base.orders
  orders_by k s at = elim (cases_lt k cell_count) [
    | inl low ↦ subst (AllByRecursion (λ o. is_tick_order o ≡ false))
        (sym (node_none f w b may.begin.between may.begin.fits.tree may.begin.fits.unmoved e k s at low)) tt
    | inr high ↦
        subst (AllByRecursion (λ o. is_tick_order o ≡ false)) (sym (node_orders f w b may.begin.between may.begin.fits.tree
        may.begin.fits.unmoved e k s at high))
        (orders_none e (items_to k b.orders) (items_none k b.orders tickless))
  ]

  slot_by : (k : ℕ) (o : Option NodeView) → slice_get w.nodes k ≡ o →
      ((slot_at (has_of e) has_none (option_map (node_loaded b) o)).cell.looks ≡ 0)
      × AllByRecursion (λ x. is_tick_order x ≡ false) (slot_at (has_of e) has_none (option_map (node_loaded b) o)).base.orders
  slot_by k None at = (refl, tt)
  slot_by k (Some s) at =
      (loaded_idle e b s (idle_looks e s (quiet_tasks node_has_work w may.begin.between.quiet k s at)), orders_by k s at)

  no_looks : HasNoLooks e start
  no_looks = record {
    cells = λ k. ap (λ x. x.cell.looks) (slot_is w b e k) ∙ (slot_by k (slice_get w.nodes k) refl).0;
    orders = λ k. subst (λ x. AllByRecursion (λ o. is_tick_order o ≡ false) x.base.orders) (sym (slot_is w b e k))
        (slot_by k (slice_get w.nodes k) refl).1;
    letters = λ a k. subst (AllByRecursion (λ m. tick_in m ≡ None)) (sym (no_mail f w b may.begin e a k)) tt;
  }

  -- ---- an entity with a witness

  module _ (k : ℕ) (r : RealView) (here : real_at e start k ≡ Some r) (x : WitnessView) (has : r.witness ≡ Some x)
      (p : PartView) (y : ProxyView) (there : ((entity_flow e start).slot (home_of f e)).base.part ≡ Some p) (client : p.proxy ≡ Some y)
      (none : letters_of shown_in y.lines ≡ []) where
    abbrev g : Frame
    g = framed f b

    told : HasToldAtMost e (sent_by r) start
    told = record {
      cells = λ j q at.
          let settled = settled_loaded f w b may.begin e k r here in
          elim (cases_eq j k) [
            | inl is ↦
                let same : q ≡ r = (let z = sym at ∙ (ap (λ i. real_at e start i) is ∙ here) in cc) in
                subst (λ z. sent_by z ≤ sent_by r) (sym same) (omega arith)
            | inr n ↦ absurd (let z = sym (settled.others j n) ∙ at in cc)
          ];
      hands = λ a j. subst (AllByRecursion (λ m. (q : RealView) → real_of m ≡ Some q → sent_by q ≤ sent_by r))
          (sym (no_mail f w b may.begin e a j)) tt;
    }

    room : HasRoomFor e (sent_by r) start
    room =
        let few = few_lines f w b may e k r here in
        let more = few_more f w b may e k r here (its_part f w b may e k r here) in
        omega (arith, few, more)

    client_by : IsServed g e r.ty start → (first : ℕ) × HasClient g e r.ty first start
    client_by (bare alone unseen) = absurd (let z = sym (ap is_some has) ∙ unseen.cells k r here in cc)
    client_by (served first low h seen) = (first, h)

    in_step : (o : Option WitnessView) (q : Option ProxyView) (z : ProxyView) (version : ℕ) → o ≡ Some x → q ≡ Some z →
        AreFor o q version → AreInStep x z version
    in_step o q z version is at are =
        subst (λ (a : Option ProxyView). AreFor (Some x) a version) at (subst (λ (a : Option WitnessView). AreFor a q version) is are)

    unshown : shown_at ((entity_flow e start).slot (home_of f e)) ≡ []
    unshown =
        ap (λ o. letters_of shown_in (lines_in (proxy_of o))) there ∙ ap (λ o. letters_of shown_in (lines_in o)) client ∙ none

    -- the first update is the witness's next
    due : (first : ℕ) (h : HasClient g e r.ty first start) → sent_by r + 1 ≡ first
    due first h =
        let step =
        in_step r.witness h.part.proxy h.proxy h.part.version has h.has
        (are_for_loaded f w b may.begin may.parts e k r here h.part h.here) in
        let sent : sent_by r ≡ x.sent = ap sent_of has in
        let order = ap (λ o. (order_in (proxy_of o)).next) h.here ∙ ap (λ o. (order_in o).next) h.has in
        let many = ap length unshown in
        let next = h.delivery.next in
        let its = step.next in
        omega (arith, many, order, next, its, sent)

    module _ (serves : IsServed g e r.ty start) (v : World) (es : List Event) (run : RunsTo start es v)
        (quiet : IsQuiet node_has_work v)
        (leads : (update : ℕ) → HasClient g e r.ty update start → HasToldAtMost e (sent_by r) start → HasRoomFor e (sent_by r) start →
        HasNoLooks e start → HasClient g e r.ty update v)
        (tells : HasNoLooks e start → HasToldAtMost e (sent_by r) start → HasToldAtMost e (sent_by r) v)
        (all : (update : ℕ) (h : HasClient g e r.ty update v) → shown_at ((entity_flow e v).slot (home_of g e)) ≡ h.issued)
        (j : ℕ) (q : RealView) (at : real_at e v j ≡ Some q) where
      pub nothing_shown : shown_at ((entity_flow e v).slot (home_of g e)) ≡ []
      nothing_shown =
          let c = client_by serves in
          let h = leads c.0 c.1 told room no_looks in
          let low = (tells no_looks told).cells j q at in
          let high = h.told.cells j q at in
          let first_is = due c.0 c.1 in
          all c.0 h ∙ none_of h.issued (omega (arith, low, high, first_is))
        where
          none_of : {X : Type 0} (xs : List X) → length xs ≡ 0 → xs ≡ []
          none_of [] is = refl
          none_of (z ∷ zs) is = absurd (omega (arith, is))
