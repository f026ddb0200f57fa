-- A number of which no node has anything stays so, over every list of events of a round that has nothing about it.
use Rattle.seam_law_book.proofs.Prelude.{◌≡◌, ℕ, Bool, true, false, cond, List, [], ◌∷◌, map, Option, None, Some, refl, sym, ap, ◌∙◌, subst}
use Rattle.seam_law_book.proofs.Prelude.{arith, eqb, option_map, slice_get, ◌||◌, is_some, eqb-true, AllByRecursion, range_with_len}
use Rattle.seam_law_book.proofs.Prelude.{nat_cmp, eq_by_cmp, nat_tests, filter-append, slice_get-map, Division, leaf_at, cells_of, IsSquare}
use Rattle.seam_law_book.proofs.Prelude.{IsQuiet, Event, Create, Order, Batch, cell_count, base_of, RealView, created, real_begins, Msg}
use Rattle.seam_law_book.proofs.Prelude.{Hand, Current, GhostSet, GhostDrop, Tick, Update, Map, set_at, has_any, Slot, CellView, slot_of}
use Rattle.seam_law_book.proofs.Prelude.{ready_entity, BaseView, PartView, tick_to, NodeView, World, node_has_work, Cell, Base, with_nodes}
use Rattle.seam_law_book.proofs.Prelude.{real_if, part_if, with_route, new_part, created_at, with_witness, with_proxy, attached, cell_round}
use Rattle.seam_law_book.proofs.Prelude.{base_round, part_begins, order_if, ordered_at, reap_ordered_at, loaded, reaps_loaded, look_loaded}
use Rattle.seam_law_book.proofs.Prelude.{letters_of, slot_at, Frame, here_at, IsInFrame, Has, AtCell, order_about, order_concerns}
use Rattle.seam_law_book.proofs.Prelude.{orders_of, times, no_cell, no_base, has_of, has_none, mine, entity_flow, CellMoves, BaseMoves}
use Rattle.seam_law_book.proofs.Prelude.{Moves, at_a_cell, at_a_base, RunsTo, IsNew, each, node_loaded, quiet_links, quiet_tasks}
use Rattle.seam_law_book.proofs.Prelude.{all_append, get-set_at, slots, each_keeps, Any, any, nodes_after, loaded_is, get-each_value}
use Rattle.seam_law_book.proofs.Prelude.{neither, none_left, other_set, AreOthers, all_lead}
use Rattle.std.specs.FinMap as table
use Rattle.seam_node_steps.specs.Prelude.{Ghost, GhostCopy, copy_in}
use Rattle.seam_ghosts.proofs.Forgotten.{get_with_copies}
use Rattle.seam_call.specs.declared.order.Order.TheVariants as order
use Rattle.seam_entity.specs.declared.message.Msg.TheVariants.{Call}
use Rattle.seam_law_calls.specs.CellMoves as move
use Rattle.seam_law_calls.specs.BaseMoves as base_move
use Rattle.seam_node_steps.specs.Prelude.{noting}
use Rattle.seam_node_steps.proofs.Gone.{none_without}

-- ---- nothing but ticks

abbrev no_slot : Slot
no_slot = record { real = None; next = None; ghost = None }

abbrev IsTick : Msg → Type 0
IsTick Tick = Unit {0}
IsTick _ = ⊥

-- an order that is about no entity
abbrev IsForAll : Order → Type 0
IsForAll order.Tick = Unit {0}
IsForAll (order.Bounds b) = Unit {0}
IsForAll _ = ⊥

-- a node has nothing of the entity, and no order that is about it
record IsBare (h : Has) : Type 0 where
  slot : h.cell.slot ≡ no_slot
  route : h.base.route ≡ None
  part : h.base.part ≡ None
  orders : AllByRecursion IsForAll h.base.orders

record IsNowhere (e : ℕ) (w : World) : Type 0 where
  nodes : (k : ℕ) → IsBare ((entity_flow e w).slot k)
  letters : (a k : ℕ) → AllByRecursion IsTick ((entity_flow e w).mail a k)

bare_none : IsBare has_none
bare_none = record { slot = refl; route = refl; part = refl; orders = tt }

-- ---- a move

module _ (f : Frame) (e k : ℕ) (s : Has) (i : Option Msg) (t : Has) (sent : List (ℕ × Msg)) (here : IsBare s)
    (come : (m : Msg) → i ≡ Some m → IsTick m) where
  abbrev Stays : Type 0
  Stays = IsBare t × AllByRecursion (λ p. IsTick p.1) sent

  with_sent : IsBare t → (l : List (ℕ × Msg)) → sent ≡ l → AllByRecursion (λ p. IsTick p.1) l → Stays
  with_sent bare l is all = (bare, subst (AllByRecursion (λ p. IsTick p.1)) (sym is) all)

  -- a cell with the slot as it was
  same_slot : t.base ≡ s.base → (c : AtCell) → c.slot ≡ s.cell.slot → t.cell ≡ c → IsBare t
  same_slot base c slot is = record {
    slot = ap (λ (x : AtCell). x.slot) is ∙ slot ∙ here.slot;
    route = ap (λ b. b.route) base ∙ here.route;
    part = ap (λ b. b.part) base ∙ here.part;
    orders = subst (λ b. AllByRecursion IsForAll b.orders) (sym base) here.orders;
  }

  never : (r : RealView) → s.cell.slot.real ≡ Some r → ⊥
  never r has = let z = sym (ap (λ x. x.real) here.slot) ∙ has in cc

  cell_bare : t.base ≡ s.base → {tree : Division} → CellMoves (here_at f k) tree e s.cell i t.cell sent → Stays
  cell_bare base (move.rests n d) = with_sent (same_slot base _ refl d.state) _ d.sends tt
  cell_bare base (move.strays m n b d) = with_sent (same_slot base _ refl d.state) _ d.sends tt
  cell_bare base (move.stays u r q changed has own acts at d) = absurd (never r has)
  cell_bare base (move.goes u r q changed j has own acts at n d) = absurd (never r has)
  cell_bare base (move.late c r n has may lt d) = absurd (never r has)
  cell_bare base (move.holds c r n own has mine may lt d) = absurd (never r has)
  cell_bare base (move.passes c p n own has at d) = absurd (come (Call c) n)
  cell_bare base (move.lands r bs n own has may d) = absurd (come (Hand r bs) n)
  cell_bare base (move.hears_set n c is has d) = absurd (come (GhostSet e n c) is)
  cell_bare base (move.ignores_set n c r is has d) = absurd (never r has)
  cell_bare base (move.hears_drop n is d) = absurd (come (GhostDrop e n) is)
  cell_bare base (move.reaped r n has own may d) = absurd (never r has)
  cell_bare base (move.ticks n st z) = with_sent (same_slot base _ refl st) _ z tt
  cell_bare base (move.unlists n is at b d) = with_sent (same_slot base _ refl d.state) _ d.sends tt
  cell_bare base (move.looks n r w known is at has own v small d) = absurd (never r has)
  cell_bare base (move.overlooks n known is at b d) = with_sent (same_slot base _ refl d.state) _ d.sends tt
  cell_bare base (move.stuck r is has ready may d) = absurd (never r has)

  all_ticks : (js : List ℕ) → AllByRecursion {X = ℕ × Msg} (λ p. IsTick p.1) (map tick_to js)
  all_ticks [] = tt
  all_ticks (j ∷ js) = (tt, all_ticks js)

  same_base : t.cell ≡ s.cell → t.base ≡ s.base → IsBare t
  same_base cell base = same_slot base s.cell refl cell

  no_part : (p : PartView) → s.base.part ≡ Some p → ⊥
  no_part p has = let z = sym here.part ∙ has in cc

  first_tick : (o : Order) (os : List Order) → s.base.orders ≡ o ∷ os → IsForAll o × AllByRecursion IsForAll os
  first_tick o os at = subst (AllByRecursion IsForAll) at here.orders

  base_bare : (cells : ℕ) → t.cell ≡ s.cell → BaseMoves (here_at f k) cells e s.base i t.base sent → Stays
  base_bare cells cell (base_move.rests n a z) = with_sent (same_base cell a) _ z tt
  base_bare cells cell (base_move.strays m n b a z) = with_sent (same_base cell a) _ z tt
  base_bare cells cell (base_move.reroutes new r n has b a z) = absurd (come (Current e new.cell new.generation) n)
  base_bare cells cell (base_move.offers c p n own has may a z) = absurd (no_part p has)
  base_bare cells cell (base_move.updates u n own b a z) = absurd (come (Update u) n)
  base_bare cells cell (base_move.orders_call c os r n at own has a z) = absurd (first_tick (order.Cell c) os at).0
  base_bare cells cell (base_move.orders_base_call c os n at own b a z) = absurd (first_tick (order.Base c) os at).0
  base_bare cells cell (base_move.offers_own c os p n at own b has may a z) = absurd (no_part p has)
  base_bare cells cell (base_move.orders_tick os n at a z) =
      with_sent (record {
        slot = ap (λ (x : AtCell). x.slot) cell ∙ here.slot;
        route = ap (λ b. b.route) a ∙ here.route;
        part = ap (λ b. b.part) a ∙ here.part;
        orders = subst (λ b. AllByRecursion IsForAll b.orders) (sym a) (first_tick order.Tick os at).1;
      }) _ z (all_ticks (range_with_len 0 cells))
  base_bare cells cell (base_move.orders_reap os r n at has a z) = absurd (first_tick (order.Reap e) os at).0
  base_bare cells cell (base_move.stuck_order o os n at b a z) = with_sent (same_base cell a) _ z tt
  base_bare cells cell (base_move.executes p o c n has may at item a z) = absurd (no_part p has)
  base_bare cells cell (base_move.stuck_part p n has v may a z) = absurd (no_part p has)
  base_bare cells cell (base_move.shows p n has v may a z) = absurd (no_part p has)
  base_bare cells cell (base_move.stuck_client p n has v may a z) = absurd (no_part p has)

  stays_bare : Moves f e k s i t sent → Stays
  stays_bare (at_a_cell tree of low m base) = cell_bare base m
  stays_bare (at_a_base high m cell) = base_bare _ cell m

-- ---- a list of events

module _ (f : Frame) (e : ℕ) where
  nowhere_leads : (w v : World) (es : List Event) → IsInFrame f w → IsNowhere e w → RunsTo w es v → IsNowhere e v
  nowhere_leads w v es frame here run =
      let all = all_lead f e (λ k s. IsBare s) (λ a k m. IsTick m)
      (λ k s i t sent here come m. stays_bare f e k s i t sent here (λ x is. (come x is).1) m) w v es frame
      (record { slots = here.nodes; letters = here.letters }) run in
      record { nodes = all.slots; letters = all.letters }

  -- where the world is quiet again, no node has anything of it
  node_none : (s : NodeView) → node_has_work s ≡ false → IsBare (has_of e s) → has_of e s ≡ has_none
  node_none (Cell c) idle b =
      let two = neither (has_any c.survey) (is_some (ready_entity c) || has_any c.looks) idle in
      let survey = none_left c.survey two.0 in
      let looks = none_left c.looks (neither (is_some (ready_entity c)) (has_any c.looks) two.1).1 in
      λ i. record { cell = record { slot = b.slot i; survey = times e (survey i); looks = times e (looks i) }; base = no_base }
  node_none (Base n) idle b =
      let orders = none_left n.orders (neither (has_any n.orders) _ idle).0 in
      λ i. record { cell = no_cell; base = record { orders = orders_of e (orders i); route = b.route i; part = b.part i } }

  new_quiet : (v : World) → IsQuiet node_has_work v → IsNowhere e v → IsNew v e
  new_quiet v quiet n k =
      slots (λ j h. IsBare h → h ≡ has_none) e v (λ j s at. node_none s (quiet_tasks node_has_work v quiet j s at)) (λ j b. refl) k
      (n.nodes k)

-- ---- loads

module _ (e : ℕ) where
  abbrev Bare : NodeView → Type 0
  Bare s = IsBare (has_of e s)

  abbrev IsOther : ℕ → Type 0
  IsOther q = q ≡ e → ⊥

  no_value : {X : Type 0} (g : X → X) (o : Option X) → o ≡ None → option_map g o ≡ None
  no_value g o none = ap (option_map g) none

  -- a map that has nothing of it, with what is there of another changed
  changed_by : {X : Type 0} (g : X → X) (m : Map X) (q : ℕ) (c : Bool) → eq_by_cmp nat_cmp e q ≡ c → table.get m e ≡ None →
      cond c (option_map g (table.get m q)) (table.get m e) ≡ None
  changed_by g m q true is none =
      let at : e ≡ q = grind (arith, nat_tests, is) in
      no_value g (table.get m q) (ap (table.get m) (sym at) ∙ none)
  changed_by g m q false is none = none

  changed : {X : Type 0} (g : X → X) (m : Map X) (q : ℕ) → table.get m e ≡ None →
      table.get (set_at m q (option_map g (table.get m q))) e ≡ None
  changed g m q none = get-set_at m q e (option_map g (table.get m q)) ∙ changed_by g m q (eq_by_cmp nat_cmp e q) refl none

  abbrev slot_with : Option RealView → Slot → Slot
  slot_with r s = record s { real = r }

  real_none : (s : Slot) → s ≡ no_slot → (r : Option RealView) → r ≡ None → slot_with r s ≡ no_slot
  real_none s is r none = ap (slot_with r) is ∙ ap (λ o. slot_with o no_slot) none

  base_begun : (n : ℕ) (s : NodeView) → Bare s → Bare (base_round n s)
  base_begun n (Cell c) b = b
  base_begun n (Base m) b = record {
    slot = refl;
    route = none_without e m.gone m.routes b.route;
    part = get-each_value part_begins m.parts e ∙ no_value part_begins (table.get m.parts e) b.part;
    orders = b.orders;
  }

  module _ (t : Division) (x : Create) (other : IsOther x.entity) where
    real_by : (c : CellView) (d : Bool) → Bare (Cell c) → Bare (Cell (real_if d c x))
    real_by c true b = record {
      slot = real_none (slot_of c e) b.slot _ (other_set e c.reals x.entity (Some (created c.here x.entity x.ty x.pos)) other
          ∙ ap (λ s. s.real) b.slot);
      route = refl;
      part = refl;
      orders = tt;
    }
    real_by c false b = b

    part_by : (n : BaseView) (d : Bool) → Bare (Base n) → Bare (Base (part_if d n x))
    part_by n true b = record {
      slot = refl;
      route = b.route;
      part = other_set e n.parts x.entity (Some (new_part n.here x.ty)) other ∙ b.part;
      orders = b.orders;
    }
    part_by n false b = b

    made : (s : NodeView) → Bare s → Bare (created_at t x s)
    made (Cell c) b = real_by c (eqb (leaf_at t x.pos) c.here.me) b
    made (Base n) b = part_by (with_route n x.entity (leaf_at t x.pos)) (eqb (base_of n.here x.entity) n.here.me) (record {
      slot = refl;
      route = other_set e n.routes x.entity (Some (record { cell = leaf_at t x.pos; generation = 0 })) other ∙ b.route;
      part = b.part;
      orders = b.orders;
    })

  joined : (q : ℕ) (s : NodeView) → Any q → Bare s → Bare (attached q s)
  joined q (Cell c) u b = record {
    slot = real_none (slot_of c e) b.slot _ (changed (with_witness c.here) c.reals q (ap (λ s. s.real) b.slot));
    route = refl;
    part = refl;
    orders = tt;
  }
  joined q (Base n) u b =
      record { slot = refl; route = b.route; part = changed (with_proxy n.here) n.parts q b.part; orders = b.orders }

  no_copy : (o : Option (Ghost GhostCopy)) → o ≡ None → cond (is_some (copy_in o)) o None ≡ None
  no_copy o is = ap (λ p. cond (is_some (copy_in p)) p None) is

  begun : (t : Division) (s : NodeView) → Bare s → Bare (cell_round t s)
  begun t (Cell c) b = record {
    slot = λ i. record {
      real = (get-each_value real_begins c.reals e ∙ no_value real_begins (table.get c.reals e) (ap (λ s. s.real) b.slot)) i;
      next = (table.get-empty nat_cmp e) i;
      ghost = (get_with_copies c.ghosts e ∙ no_copy (table.get c.ghosts e) (ap (λ s. s.ghost) b.slot)) i;
    };
    route = refl;
    part = refl;
    orders = tt;
  }
  begun t (Base n) b = b

  -- an order that is not about it
  abbrev IsNotAbout : Order → Type 0
  IsNotAbout o = order_about o ≡ Some e → ⊥

  tick_if : (o : Order) (c : Bool) → order_concerns e o ≡ c → IsNotAbout o → AllByRecursion IsForAll (cond c (o ∷ []) [])
  tick_if order.Tick true is not = (tt, tt)
  tick_if (order.Bounds b) true is not = (tt, tt)
  tick_if (order.Cell c) true is not = absurd (not (ap Some (eqb-true c.entity e is)))
  tick_if (order.Base c) true is not = absurd (not (ap Some (eqb-true c.entity e is)))
  tick_if (order.Reap x) true is not = absurd (not (ap Some (eqb-true x e is)))
  tick_if o false is not = tt

  given_by : (n : BaseView) (o : Order) (d : Bool) → IsNotAbout o → Bare (Base n) → Bare (Base (order_if d n o))
  given_by n o true not b = record {
    slot = refl;
    route = b.route;
    part = b.part;
    orders = subst (AllByRecursion IsForAll) (sym (filter-append (order_concerns e) n.orders (o ∷ [])))
        (all_append IsForAll (orders_of e n.orders) (orders_of e (o ∷ [])) b.orders (tick_if o (order_concerns e o) refl not));
  }
  given_by n o false not b = b

  given : (o : ℕ × Order) (s : NodeView) → IsNotAbout o.1 → Bare s → Bare (ordered_at o s)
  given o (Cell c) not b = b
  given o (Base n) not b = given_by n o.1 (eqb o.0 n.here.me) not b

  reap_given : (q : ℕ) (s : NodeView) → IsOther q → Bare s → Bare (reap_ordered_at q s)
  reap_given q (Cell c) other b = b
  reap_given q (Base n) other b =
      given_by (noting q n) (order.Reap q) (eqb (base_of n.here q) n.here.me) (λ is. other (let z = is in cc))
      (record { slot = b.slot; route = b.route; part = b.part; orders = b.orders })

  node_bare : (b : Batch) → AreOthers e b.creates → AllByRecursion (λ o. IsNotAbout o.1) b.orders → (s : NodeView) → Bare s →
      Bare (node_loaded b s)
  node_bare b others not s h =
      let n = base_round (cells_of b.tree) s in
      let made_all = each (created_at b.tree) b.creates n in
      let joined_all = each attached b.clients made_all in
      each_keeps ordered_at Bare (λ o. IsNotAbout o.1) given b.orders not (cell_round b.tree joined_all)
      (begun b.tree joined_all (each_keeps attached Bare Any joined b.clients (any b.clients) made_all
      (each_keeps (created_at b.tree) Bare (λ x. x.entity ≡ e → ⊥) (λ x s other h. made b.tree x other s h) b.creates others n
      (base_begun (cells_of b.tree) s h))))

  -- a world with each node changed
  module _ (w : World) (quiet : IsQuiet node_has_work w) (square : IsSquare w) (new : IsNew w e) (turn : NodeView → NodeView)
      (turns : (s : NodeView) → Bare s → Bare (turn s)) where
    at_node : (k : ℕ) (o : Option NodeView) → slice_get w.nodes k ≡ o → IsBare (slot_at (has_of e) has_none (option_map turn o))
    at_node k None at = bare_none
    at_node k (Some s) at =
        turns s (subst IsBare (sym (sym (ap (slot_at (has_of e) has_none) at) ∙ new k)) bare_none)

    nowhere_turned : IsNowhere e (with_nodes w turn)
    nowhere_turned = record {
      nodes = λ k. subst IsBare (sym (ap (slot_at (has_of e) has_none) (slice_get-map turn w.nodes k)))
          (at_node k (slice_get w.nodes k) refl);
      letters = λ a k. subst (AllByRecursion IsTick)
          (sym (ap (letters_of (mine e)) (quiet_links node_has_work w square quiet a k))) tt;
    }

-- ---- a phase

module _ (f : Frame) (e : ℕ) (w : World) (quiet : IsQuiet node_has_work w) (square : IsSquare w) (new : IsNew w e) (v : World)
    (es : List Event) (ends : IsQuiet node_has_work v) where
  pub new_after_calls : (b : Batch) → AreOthers e b.creates → AllByRecursion (λ o. IsNotAbout e o.1) b.orders →
      IsInFrame f (loaded w b) → RunsTo (loaded w b) es v → IsNew v e
  new_after_calls b others not frame run =
      new_quiet f e v ends (nowhere_leads f e (loaded w b) v es frame
      (subst (IsNowhere e) (sym (loaded_is w b)) (nowhere_turned e w quiet square new (node_loaded b) (node_bare e b others not))) run)

  pub new_after_reaps : (gone : List ℕ) → AllByRecursion (λ q. q ≡ e → ⊥) gone → IsInFrame f (reaps_loaded w gone) →
      RunsTo (reaps_loaded w gone) es v → IsNew v e
  new_after_reaps gone others frame run =
      new_quiet f e v ends (nowhere_leads f e (reaps_loaded w gone) v es frame
      (subst (IsNowhere e) (sym (nodes_after reap_ordered_at w gone)) (nowhere_turned e w quiet square new (each reap_ordered_at gone)
      (λ s h. each_keeps reap_ordered_at (Bare e) (IsOther e) (reap_given e) gone others s h))) run)

  pub new_after_looks : IsInFrame f (look_loaded w) → RunsTo (look_loaded w) es v → IsNew v e
  new_after_looks frame run =
      new_quiet f e v ends (nowhere_leads f e (look_loaded w) v es frame
      (nowhere_turned e w quiet square new (ordered_at (cell_count, order.Tick)) (λ s h. given e (cell_count, order.Tick) s (λ is. cc) h))
      run)
