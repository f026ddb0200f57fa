-- No input of a cell is stray: in a round, where entities are reaped, and where witnesses look.
use Rattle.seam_law_ghosts.proofs.Prelude.{◌≡◌, ℕ, ◌+◌, ◌<◌, ◌≤◌, ◌⊎◌, Bool, true, false, cond, is_some, List, [], ◌∷◌, Option, None, Some}
use Rattle.seam_law_ghosts.proofs.Prelude.{refl, sym, ap, ◌∙◌, subst, arith, inl, inr, slice_get, eq-eqb, slice_get-map, Division, link}
use Rattle.seam_law_ghosts.proofs.Prelude.{Event, OrderView, next_item, Call as CallData, Batch, Orders, order_or, RealView, Msg, limit}
use Rattle.seam_law_ghosts.proofs.Prelude.{may_rise, cell_count, order_is_ready, has_ready, ready_order, may_settle, may_execute, about}
use Rattle.seam_law_ghosts.proofs.Prelude.{is_stray, stray_survey, CellView, slot_of, NodeView, World, node_has_work, Cell, with_nodes}
use Rattle.seam_law_ghosts.proofs.Prelude.{ordered_at, reap_ordered_at, loaded, reaps_loaded, look_loaded, slot_at, Frame, here_at}
use Rattle.seam_law_ghosts.proofs.Prelude.{IsInFrame, times, has_of, has_none, entity_flow, has_witness, real_burden, real_in, RunsTo}
use Rattle.seam_law_ghosts.proofs.Prelude.{real_at, IsBetweenRounds, framed, each, AreReapable, MayBegin, HasNoStrayTask, quiet_tasks}
use Rattle.seam_law_ghosts.proofs.Prelude.{found, all_two, node_there, in_frame, kept_after, Somewhere, Nowhere, search_real, frame_leads}
use Rattle.seam_law_ghosts.proofs.Prelude.{IsCalm, none_ready, reaps_framed, look_framed, reaps_cell, look_cell, low, leads, calm_leads}
use Rattle.seam_law_ghosts.proofs.Prelude.{IsUnknown, unknown_leads, unknown_loaded, unknown_reaps, unknown_look, nobody}
use Rattle.std.specs.FinMap as table
use Rattle.seam_law_rounds.proofs.Phases.{settled}
use Rattle.seam_law_rounds.proofs.Reaping as reaping
use Rattle.seam_law_rounds.proofs.Looking as looking
use Rattle.seam_law_ghosts.proofs.Listing.{IsListed}
use Rattle.seam_law_ghosts.proofs.Lasting.{AreListed, listed_leads, real_bound}
use Rattle.seam_law_ghosts.proofs.Beginning.{lists_loaded, empty_lists, none_listed}
use Rattle.seam_law_ghosts.proofs.InRound.{unknown_gets_none, free_by_place, of_cell}
use Rattle.seam_law_ghosts.proofs.InPhases.{calm_free}
use Rattle.seam_law_calls.proofs.Holds.{denied, below_is}

-- ---- tasks

first_times : (e : ℕ) (es : List ℕ) → 1 ≤ times e (e ∷ es)
first_times e es =
    let is = ap (λ b. cond {A = ℕ} b (times e es + 1) (times e es)) (eq-eqb e e refl) in
    omega (arith, is)

settles_by : (o : Option RealView) → is_some o ≡ true → ((r : RealView) → o ≡ Some r → may_settle r ≡ true) → stray_survey o ≡ false
settles_by None h may = cc
settles_by (Some r) h may = denied (may_settle r) (may r refl)

looks_by : (o : Option RealView) → has_witness o ≡ true → (r : RealView) × (o ≡ Some r) × (is_some r.witness ≡ true)
looks_by None h = cc
looks_by (Some r) h = (r, refl, h)

-- where lists are as they should be, and each real may do what is asked of it, no task is stray
module _ (v : World) (k : ℕ) (c : CellView) (node : slice_get v.nodes k ≡ Some (Cell c))
    (lists : (e : ℕ) → IsListed ((entity_flow e v).slot k).cell)
    (settles : (e : ℕ) (r : RealView) → 1 ≤ ((entity_flow e v).slot k).cell.survey → real_at e v k ≡ Some r → may_settle r ≡ true)
    (executes : (e : ℕ) (r : RealView) → real_at e v k ≡ Some r → has_ready r.orders ≡ true → may_execute r ≡ true) where
  has_is : (e : ℕ) → (entity_flow e v).slot k ≡ has_of e (Cell c)
  has_is e = ap (slot_at (has_of e) has_none) node

  listed : (e : ℕ) → IsListed (has_of e (Cell c)).cell
  listed e = subst (λ h. IsListed h.cell) (has_is e) (lists e)

  pub tasks_free : HasNoStrayTask c
  tasks_free = record {
    survey = λ e es is.
        let some = subst (λ l. 1 ≤ times e l) (sym is) (first_times e es) in
        settles_by (table.get c.reals e) ((listed e).survey some) (λ r at.
        settles e r (subst (λ h. 1 ≤ h.cell.survey) (sym (has_is e)) some) (ap real_in (has_is e) ∙ at));
    ready = λ e r at ready. denied (may_execute r) (executes e r (ap real_in (has_is e) ∙ at) ready);
    looks = λ e es is.
        looks_by (table.get c.reals e) ((listed e).looks (subst (λ l. 1 ≤ times e l) (sym is) (first_times e es)));
  }

-- ---- a round

module _ (f : Frame) (w : World) (b : Batch) (begin : MayBegin f w b) (v : World) (es : List Event) (run : RunsTo (loaded w b) es v) where
  frame_then : IsInFrame (framed f b) v
  frame_then = frame_leads (framed f b) (loaded w b) v es (in_frame f w b begin) run

  pub round_free : (a k : ℕ) (c : CellView) (m : Msg) (ms : List Msg) (e : ℕ) → slice_get v.nodes k ≡ Some (Cell c) →
      link v.rows a k ≡ m ∷ ms → about m ≡ Some e → is_stray c.here c.tree (slot_of c e) m ≡ false
  round_free a k c m ms e node at is =
      let q = frame_then.nodes k (Cell c) node in
      of_cell (framed f b) v k c e m node q.here
      (free_by_place f w b begin v es run a k c m ms e node at is q.low q.tree (search_real e (loaded w b)))

  room_by : (e k : ℕ) (r : RealView) → real_at e v k ≡ Some r → Somewhere e (loaded w b) ⊎ Nowhere e (loaded w b) →
      real_burden r + 1 < limit
  room_by e k r at (inl p) =
      let few = (kept_after f w b begin e p.0 p.1 p.2 v es run).room in
      let part = real_bound e v k r at in
      omega (arith, few, part)
  room_by e k r at (inr n) =
      let u = unknown_leads (framed f b) e (loaded w b) v es
      (unknown_loaded f w b begin e (nobody f w b begin e n)) run in
      absurd (let z = sym (u.slots k).real ∙ at in cc)

  executes : (e k : ℕ) (r : RealView) → real_at e v k ≡ Some r → may_execute r ≡ true
  executes e k r at =
      let few = room_by e k r at (search_real e (loaded w b)) in
      all_two _ _ (below_is (r.version + 1) limit (omega (arith, few)))
      (all_two _ _ (below_is (r.beat + 1) limit (omega (arith, few))) (below_is (r.generation + 1) limit (omega (arith, few))))

  settles : (e k : ℕ) (r : RealView) → real_at e v k ≡ Some r → may_settle r ≡ true
  settles e k r at =
      let few = room_by e k r at (search_real e (loaded w b)) in
      all_two _ _ (below_is (r.beat + 1) limit (omega (arith, few))) (below_is (r.generation + 1) limit (omega (arith, few)))

  pub round_tasks : (k : ℕ) (c : CellView) → slice_get v.nodes k ≡ Some (Cell c) → HasNoStrayTask c
  round_tasks k c node =
      tasks_free v k c node
      (λ e. (listed_leads (framed f b) e (loaded w b) v es (lists_loaded f w b begin e) run).slots k)
      (λ e r some at. settles e k r at) (λ e r at ready. executes e k r at)

-- ---- the other phases

module _ (f : Frame) (u : World) (between : IsBetweenRounds f u) (turn : NodeView → NodeView) (frame : IsInFrame f (with_nodes u turn))
    (e : ℕ) (cells : (s : NodeView) → (has_of e (turn s)).cell ≡ (has_of e s).cell) where
  there : (k : ℕ) (t : NodeView) → slice_get (with_nodes u turn).nodes k ≡ Some t →
      (s : NodeView) × (slice_get u.nodes k ≡ Some s) × (turn s ≡ t)
  there k t at = node_there (slice_get u.nodes k) turn t (sym (slice_get-map turn u.nodes k) ∙ at)

  listed_by : (k : ℕ) (o : Option NodeView) → slice_get (with_nodes u turn).nodes k ≡ o → IsListed (slot_at (has_of e) has_none o).cell
  listed_by k None at = none_listed
  listed_by k (Some t) at =
      let n = there k t at in
      subst IsListed (sym (cells n.0) ∙ ap (λ x. (has_of e x).cell) n.2)
      (empty_lists e n.0 (quiet_tasks node_has_work u between.quiet k n.0 n.1))

  pub lists_turned : AreListed f e (with_nodes u turn)
  lists_turned = record { frame = frame; slots = λ k. listed_by k (slice_get (with_nodes u turn).nodes k) refl }

-- a real of which no call is held has none that is ready
no_ready_by : (os : Orders) → ((s : ℕ) → (order_or (table.get os s)).held ≡ []) → (o : Option (ℕ × OrderView CallData)) →
    ready_order os ≡ o → is_some o ≡ true → ⊥
no_ready_by os none None at h = cc
no_ready_by os none (Some o) at h = item_by (next_item o.1) refl
  where
    item_by : (x : Option CallData) → next_item o.1 ≡ x → ⊥
    item_by None is = let z = sym (ap is_some is) ∙ (found order_is_ready os o at).1 in cc
    item_by (Some c) is = none_ready os none o c at is

-- a phase whose load only gives orders
module _ (f : Frame) (u : World) (between : IsBetweenRounds f u) (w : World) (frame : IsInFrame f w) (told : ℕ → Bool)
    (small : (e home : ℕ) (r : RealView) → real_at e u home ≡ Some r → told e ≡ true → may_rise r.beat ≡ true)
    (calm : (e home : ℕ) (r : RealView) → real_at e u home ≡ Some r → IsCalm f e home r u (told e) w)
    (unknown : (e : ℕ) → Nowhere e u → IsUnknown f e w) (lists : (e : ℕ) → AreListed f e w) (v : World) (vs : List Event)
    (run : RunsTo w vs v) where
  calm_then : (e home : ℕ) (r : RealView) → real_at e u home ≡ Some r → IsCalm f e home r u (told e) v
  calm_then e home r here =
      calm_leads f between.frame u between e home r here (told e) (small e home r here) w v vs (calm e home r here) run

  phase_by : (a k : ℕ) (s : NodeView) (m : Msg) (ms : List Msg) (e : ℕ) → slice_get v.nodes k ≡ Some s → link v.rows a k ≡ m ∷ ms →
      about m ≡ Some e → k < cell_count → (tree : Division) → Somewhere e u ⊎ Nowhere e u →
      is_stray (here_at f k) tree ((entity_flow e v).slot k).cell.slot m ≡ false
  phase_by a k s m ms e node at is lt tree (inl p) =
      calm_free f e p.0 p.1 (low f between.frame u between e p.0 p.1 p.2 (told e) (small e p.0 p.1 p.2))
      (settled f between.frame u between e p.0 p.1 p.2 (told e) (small e p.0 p.1 p.2)).none_held u
      (leads f between.frame u between e p.0 p.1 p.2 (told e) (small e p.0 p.1 p.2)) (told e) (small e p.0 p.1 p.2) v
      (calm_then e p.0 p.1 p.2) a k s node lt tree m ms at is
  phase_by a k s m ms e node at is lt tree (inr n) =
      absurd (unknown_gets_none f e v (unknown_leads f e w v vs (unknown e n) run) a k m ms at is)

  pub phase_free : (a k : ℕ) (c : CellView) (m : Msg) (ms : List Msg) (e : ℕ) → slice_get v.nodes k ≡ Some (Cell c) →
      link v.rows a k ≡ m ∷ ms → about m ≡ Some e → is_stray c.here c.tree (slot_of c e) m ≡ false
  phase_free a k c m ms e node at is =
      let q = (frame_leads f w v vs frame run).nodes k (Cell c) node in
      of_cell f v k c e m node q.here (phase_by a k (Cell c) m ms e node at is q.low c.tree (search_real e u))

  settles_never : (e k : ℕ) (r : RealView) → 1 ≤ ((entity_flow e v).slot k).cell.survey → real_at e v k ≡ Some r →
      Somewhere e u ⊎ Nowhere e u → may_settle r ≡ true
  settles_never e k r some at (inl p) =
      let zero = ((calm_then e p.0 p.1 p.2).nodes k).survey in
      absurd (omega (arith, zero, some))
  settles_never e k r some at (inr n) =
      absurd (let z = sym ((unknown_leads f e w v vs (unknown e n) run).slots k).real ∙ at in cc)

  executes_never : (e k : ℕ) (r : RealView) → real_at e v k ≡ Some r → has_ready r.orders ≡ true →
      Somewhere e u ⊎ Nowhere e u → may_execute r ≡ true
  executes_never e k r at ready (inl p) =
      let same = (((calm_then e p.0 p.1 p.2).nodes k).real r at).1 in
      absurd (no_ready_by r.orders
      (subst (λ (x : RealView). (s : ℕ) → (order_or (table.get x.orders s)).held ≡ []) same.1 (between.settled e p.0 p.1 p.2).none_held)
      (ready_order r.orders) refl ready)
  executes_never e k r at ready (inr n) =
      absurd (let z = sym ((unknown_leads f e w v vs (unknown e n) run).slots k).real ∙ at in cc)

  pub phase_tasks : (k : ℕ) (c : CellView) → slice_get v.nodes k ≡ Some (Cell c) → HasNoStrayTask c
  phase_tasks k c node =
      tasks_free v k c node (λ e. (listed_leads f e w v vs (lists e) run).slots k)
      (λ e r some at. settles_never e k r some at (search_real e u)) (λ e r at ready. executes_never e k r at ready (search_real e u))

module _ (f : Frame) (u : World) (between : IsBetweenRounds f u) (es : List ℕ) (may : AreReapable u es) where
  abbrev turn : NodeView → NodeView
  turn = each reap_ordered_at es

  lists_reaps : (e : ℕ) → AreListed f e (reaps_loaded u es)
  lists_reaps e =
      subst (AreListed f e) (sym (reaping.loaded_is f u between es may))
      (lists_turned f u between turn (reaps_framed f u between.nodes es) e (reaps_cell e es))

  pub frame_reaps : IsInFrame f (reaps_loaded u es)
  frame_reaps = subst (IsInFrame f) (sym (reaping.loaded_is f u between es may)) (reaps_framed f u between.nodes es)

  module _ (vs : List Event) (v : World) (run : RunsTo (reaps_loaded u es) vs v) where
    pub reaps_free : (a k : ℕ) (c : CellView) (m : Msg) (ms : List Msg) (e : ℕ) → slice_get v.nodes k ≡ Some (Cell c) →
        link v.rows a k ≡ m ∷ ms → about m ≡ Some e → is_stray c.here c.tree (slot_of c e) m ≡ false
    reaps_free =
        phase_free f u between (reaps_loaded u es) frame_reaps (λ e. reaping.is_told e es) (reaping.small f u between es may)
        (reaping.calm f u between es may) (unknown_reaps f u between es may) lists_reaps v vs run

    pub reaps_tasks : (k : ℕ) (c : CellView) → slice_get v.nodes k ≡ Some (Cell c) → HasNoStrayTask c
    reaps_tasks =
        phase_tasks f u between (reaps_loaded u es) frame_reaps (λ e. reaping.is_told e es) (reaping.small f u between es may)
        (reaping.calm f u between es may) (unknown_reaps f u between es may) lists_reaps v vs run

module _ (f : Frame) (u : World) (between : IsBetweenRounds f u) where
  pub frame_look : IsInFrame f (look_loaded u)
  frame_look = look_framed f u between.nodes looking.tick refl

  lists_look : (e : ℕ) → AreListed f e (look_loaded u)
  lists_look e = lists_turned f u between (ordered_at looking.tick) frame_look e (look_cell e looking.tick)

  module _ (vs : List Event) (v : World) (run : RunsTo (look_loaded u) vs v) where
    pub look_free : (a k : ℕ) (c : CellView) (m : Msg) (ms : List Msg) (e : ℕ) → slice_get v.nodes k ≡ Some (Cell c) →
        link v.rows a k ≡ m ∷ ms → about m ≡ Some e → is_stray c.here c.tree (slot_of c e) m ≡ false
    look_free =
        phase_free f u between (look_loaded u) frame_look (λ e. false) (λ e home r here. looking.small f u between r)
        (looking.calm f u between) (unknown_look f u between) lists_look v vs run

    pub look_tasks : (k : ℕ) (c : CellView) → slice_get v.nodes k ≡ Some (Cell c) → HasNoStrayTask c
    look_tasks =
        phase_tasks f u between (look_loaded u) frame_look (λ e. false) (λ e home r here. looking.small f u between r)
        (looking.calm f u between) (unknown_look f u between) lists_look v vs run
