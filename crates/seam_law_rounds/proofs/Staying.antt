-- What a load leaves of an entity that was there: its real, with no calls done and perhaps a witness, its routes, and no next place.
use Rattle.seam_law_rounds.proofs.Prelude.{◌≡◌, ℕ, Bool, true, false, cond, eqb, List, [], ◌∷◌, ◌++◌, Option, None, Some, refl, sym, ap}
use Rattle.seam_law_rounds.proofs.Prelude.{◌∙◌, subst, arith, option_map, AllByRecursion, nat_cmp, eq_by_cmp, unsigned_tied, filter-append}
use Rattle.seam_law_rounds.proofs.Prelude.{ne_eqb, nat_tests, Division, leaf_at, cells_of, Create, Order, Batch, RealView, WitnessView, Map}
use Rattle.seam_law_rounds.proofs.Prelude.{set_at, Here, base_of, CellView, BaseView, NodeView, Cell, Base, created, real_begins, real_if}
use Rattle.seam_law_rounds.proofs.Prelude.{part_if, with_route, created_at, with_witness, attached, cell_round, base_round, order_if}
use Rattle.seam_law_rounds.proofs.Prelude.{ordered_at, Has, has_of, orders_of, order_concerns, real_in, reaped_by_order, HasNoReaps, each}
use Rattle.seam_law_rounds.proofs.Prelude.{made, node_loaded, all_append, get-set_at}
use Rattle.std.specs.FinMap as table
use Rattle.seam_node_steps.specs.Prelude.{RouteView, routes_without}
use Rattle.seam_law_rounds.specs.Between.{KeepsRoute}
use Rattle.seam_law_rounds.proofs.Loading.{each_keeps, Any, any, get-each_value}

-- the real is the same but for its witness, and what the turn makes of it
abbrev pub Kept : (RealView → RealView) → Option RealView → Option RealView → Type 0
Kept turn None p = p ≡ None
Kept turn (Some r) p = (x : Option WitnessView) × (p ≡ Some (record (turn r) { witness = x }))

abbrev pub same : RealView → RealView
same r = r

kept_all : (o : Option RealView) → Kept same o o
kept_all None = refl
kept_all (Some r) = (r.witness, refl)

kept_witness : (h : Here) (o p : Option RealView) → Kept same o p → Kept same o (option_map (with_witness h) p)
kept_witness h None p k = ap (option_map (with_witness h)) k
kept_witness h (Some r) p k = ((with_witness h r).witness, ap (option_map (with_witness h)) k.1)

kept_begins : (o p : Option RealView) → Kept same o p → Kept real_begins o (option_map real_begins p)
kept_begins None p k = ap (option_map real_begins) k
kept_begins (Some r) p k = (k.0, ap (option_map real_begins) k.1)

-- the orders are the same, and the route where it is kept
pub record Stays (turn : RealView → RealView) (keeps : Type 0) (g h : Has) : Type 0 where
  pub real : Kept turn (real_in g) (real_in h)
  pub route : keeps → h.base.route ≡ g.base.route
  pub orders : h.base.orders ≡ g.base.orders

pub stays_as : (g : Has) → Stays same (Unit {0}) g g
stays_as g = record { real = kept_all (real_in g); route = λ keeps. refl; orders = refl }

module _ (e : ℕ) where
  -- as the round begins, the node's route to the entity is what it was
  abbrev pub IsRouted : NodeView → Type 0
  IsRouted (Cell c) = Unit {0}
  IsRouted (Base b) = table.get (routes_without b.gone b.routes) e ≡ table.get b.routes e

  -- ---- the base nodes begin the round

  pub base_stays : (n : ℕ) (s : NodeView) → Stays same (IsRouted s) (has_of e s) (has_of e (base_round n s))
  base_stays n (Cell c) = record { real = kept_all (table.get c.reals e); route = λ keeps. refl; orders = refl }
  base_stays n (Base b) = record { real = refl; route = λ keeps. keeps; orders = refl }

  -- ---- another entity is created

  pub other_set : {X : Type 0} (m : Map X) (q : ℕ) (o : Option X) → (q ≡ e → ⊥) → table.get (set_at m q o) e ≡ table.get m e
  other_set m q o n =
      get-set_at m q e o
      ∙ ap (λ b. cond b o (table.get m e)) (unsigned_tied e q ∙ ne_eqb e q (λ is. n (sym is)))

  module _ (t : Division) (x : Create) (other : x.entity ≡ e → ⊥) where
    real_other : (b : Bool) (c : CellView) → table.get (real_if b c x).reals e ≡ table.get c.reals e
    real_other true c = other_set c.reals x.entity (Some (created c.here x.entity x.ty x.pos)) other
    real_other false c = refl

    part_other : (b : Bool) (n : BaseView) → ((has_of e (Base (part_if b n x))).base.route ≡ table.get n.routes e) ×
        ((has_of e (Base (part_if b n x))).base.orders ≡ orders_of e n.orders)
    part_other true n = (refl, refl)
    part_other false n = (refl, refl)

    created_stays : (keeps : Type 0) (g : Has) (s : NodeView) → Stays same keeps g (has_of e s) →
        Stays same keeps g (has_of e (created_at t x s))
    created_stays keeps g (Cell c) h = cell_made g c (eqb (leaf_at t x.pos) c.here.me) h
      where
        cell_made : (g : Has) (c : CellView) (b : Bool) → Stays same keeps g (has_of e (Cell c)) →
            Stays same keeps g (has_of e (Cell (real_if b c x)))
        cell_made g c b h = record {
          real = subst (Kept same (real_in g)) (sym (real_other b c)) h.real;
          route = h.route;
          orders = h.orders;
        }
    created_stays keeps g (Base n) h = base_made (eqb (base_of n.here x.entity) n.here.me)
      where
        base_made : (b : Bool) → Stays same keeps g (has_of e (Base (part_if b (with_route n x.entity (leaf_at t x.pos)) x)))
        base_made b =
            let two = part_other b (with_route n x.entity (leaf_at t x.pos)) in
            record {
              real = h.real;
              route = λ kept.
                  two.0
                  ∙ other_set n.routes x.entity (Some (record { cell = leaf_at t x.pos; generation = 0 })) other
                  ∙ h.route kept;
              orders = two.1 ∙ h.orders;
            }

  -- ---- a client is attached

  joined_by : (h : Here) (m : Map RealView) (q : ℕ) (o : Option RealView) (b : Bool) → eq_by_cmp nat_cmp e q ≡ b →
      Kept same o (table.get m e) → Kept same o (cond b (option_map (with_witness h) (table.get m q)) (table.get m e))
  joined_by h m q o true is k =
      let at : e ≡ q = grind (arith, nat_tests, is) in
      subst (λ j. Kept same o (option_map (with_witness h) (table.get m j))) at (kept_witness h o (table.get m e) k)
  joined_by h m q o false is k = k

  joined_stays : (keeps : Type 0) (g : Has) (q : ℕ) (s : NodeView) → Stays same keeps g (has_of e s) →
      Stays same keeps g (has_of e (attached q s))
  joined_stays keeps g q (Cell c) h = record {
    real = subst (Kept same (real_in g)) (sym (get-set_at c.reals q e (option_map (with_witness c.here) (table.get c.reals q))))
        (joined_by c.here c.reals q (real_in g) (eq_by_cmp nat_cmp e q) refl h.real);
    route = h.route;
    orders = h.orders;
  }
  joined_stays keeps g q (Base n) h = record { real = h.real; route = h.route; orders = h.orders }

  -- ---- the cells begin the round

  no_real : (o : Option RealView) → Kept same o None → Kept real_begins o None
  no_real None k = refl
  no_real (Some r) k = absurd (let z = k.1 in cc)

  round_stays : (keeps : Type 0) (g : Has) (t : Division) (s : NodeView) → Stays same keeps g (has_of e s) →
      Stays real_begins keeps g (has_of e (cell_round t s)) × ((has_of e (cell_round t s)).cell.slot.next ≡ None)
  round_stays keeps g t (Cell c) h = (
    record {
      real = subst (Kept real_begins (real_in g)) (sym (get-each_value real_begins c.reals e))
          (kept_begins (real_in g) (table.get c.reals e) h.real);
      route = h.route;
      orders = h.orders;
    },
    table.get-empty nat_cmp e,
  )
  round_stays keeps g t (Base n) h = (record { real = no_real (real_in g) h.real; route = h.route; orders = h.orders }, refl)

  -- ---- the orders

  -- what the load leaves of the entity at a node
  pub record Becomes (keeps : Type 0) (g h : Has) : Type 0 where
    pub real : Kept real_begins (real_in g) (real_in h)
    pub next : h.cell.slot.next ≡ None
    pub route : keeps → h.base.route ≡ g.base.route
    pub spared : HasNoReaps g → HasNoReaps h

  abbrev Spares : Order → Type 0
  Spares o = reaped_by_order o ≡ None

  kept_by : (o : Order) (os : List Order) (b : Bool) → Spares o → AllByRecursion Spares os → AllByRecursion Spares (cond b (o ∷ os) os)
  kept_by o os true h all = (h, all)
  kept_by o os false h all = all

  one_more : (o : Order) (os : List Order) → Spares o → AllByRecursion Spares (orders_of e os) →
      AllByRecursion Spares (orders_of e (os ++ o ∷ []))
  one_more o os h all =
      subst (AllByRecursion Spares) (sym (filter-append (order_concerns e) os (o ∷ [])))
      (all_append Spares (orders_of e os) (orders_of e (o ∷ [])) all (kept_by o [] (order_concerns e o) h tt))

  order_becomes : (keeps : Type 0) (g : Has) (o : ℕ × Order) (s : NodeView) → Spares o.1 → Becomes keeps g (has_of e s) →
      Becomes keeps g (has_of e (ordered_at o s))
  order_becomes keeps g o (Cell c) spares h = h
  order_becomes keeps g o (Base n) spares h = base_ordered (eqb o.0 n.here.me)
    where
      base_ordered : (b : Bool) → Becomes keeps g (has_of e (Base (order_if b n o.1)))
      base_ordered true = record {
        real = h.real;
        next = h.next;
        route = h.route;
        spared = λ none. one_more o.1 n.orders spares (h.spared none);
      }
      base_ordered false = h

  -- ---- all of it

  becomes_of : (keeps : Type 0) (g h : Has) → Stays real_begins keeps g h → h.cell.slot.next ≡ None → Becomes keeps g h
  becomes_of keeps g h s next = record {
    real = s.real;
    next = next;
    route = s.route;
    spared = λ none. subst (AllByRecursion Spares) (sym s.orders) none;
  }

  -- where the entities that are created are others, it stays while they are
  pub creates_stay : (t : Division) (xs : List Create) → AllByRecursion (λ x. x.entity ≡ e → ⊥) xs → (keeps : Type 0) (g : Has)
      (s : NodeView) → Stays same keeps g (has_of e s) → Stays same keeps g (has_of e (each (created_at t) xs s))
  creates_stay t xs others keeps g s h =
      each_keeps (created_at t) (λ n. Stays same keeps g (has_of e n)) (λ x. x.entity ≡ e → ⊥)
      (λ x n other h. created_stays t x other keeps g n h) xs others s h

  -- and so it does while clients are attached and cells begin the round
  pub begun_stays : (b : Batch) (keeps : Type 0) (g : Has) (s : NodeView) → Stays same keeps g (has_of e s) →
      Stays real_begins keeps g (has_of e (cell_round b.tree (each attached b.clients s)))
      × ((has_of e (cell_round b.tree (each attached b.clients s))).cell.slot.next ≡ None)
  begun_stays b keeps g s h =
      round_stays keeps g b.tree (each attached b.clients s)
      (each_keeps attached (λ n. Stays same keeps g (has_of e n)) Any (λ q n u h. joined_stays keeps g q n h) b.clients (any b.clients) s h)

  pub becomes_after : (b : Batch) → AllByRecursion (λ o. Spares o.1) b.orders → (keeps : Type 0) (g : Has) (s : NodeView) →
      Stays same keeps g (has_of e s) →
      Becomes keeps g (has_of e (each ordered_at b.orders (cell_round b.tree (each attached b.clients s))))
  becomes_after b spares keeps g s h =
      let begun = cell_round b.tree (each attached b.clients s) in
      let two = begun_stays b keeps g s h in
      each_keeps ordered_at (λ n. Becomes keeps g (has_of e n)) (λ o. Spares o.1) (λ o n h k. order_becomes keeps g o n h k) b.orders
      spares begun (becomes_of keeps g (has_of e begun) two.0 two.1)

  -- all of it
  pub node_becomes : (b : Batch) → AllByRecursion (λ x. x.entity ≡ e → ⊥) b.creates → AllByRecursion (λ o. Spares o.1) b.orders →
      (s : NodeView) → Becomes (IsRouted s) (has_of e s) (has_of e (node_loaded b s))
  node_becomes b others spares s =
      let begun = base_round (cells_of b.tree) s in
      becomes_after b spares (IsRouted s) (has_of e s) (each (created_at b.tree) b.creates begun)
      (creates_stay b.tree b.creates others (IsRouted s) (has_of e s) begun (base_stays (cells_of b.tree) s))

  -- and where the route is kept
  pub routed : {keeps : Type 0} {g h : Has} → keeps → Becomes keeps g h → Becomes (Unit {0}) g h
  routed kept b = record { real = b.real; next = b.next; route = λ any. b.route kept; spared = b.spared }

  -- ---- the orders before the batch's are given

  abbrev HasOrders : List Order → NodeView → Type 0
  HasOrders os n = (has_of e n).base.orders ≡ os

  created_orders : (t : Division) (x : Create) (os : List Order) (s : NodeView) → HasOrders os s → HasOrders os (created_at t x s)
  created_orders t x os (Cell c) h = h
  created_orders t x os (Base n) h = base_by (eqb (base_of n.here x.entity) n.here.me)
    where
      base_by : (b : Bool) → HasOrders os (Base (part_if b (with_route n x.entity (leaf_at t x.pos)) x))
      base_by true = h
      base_by false = h

  joined_orders : (q : ℕ) (os : List Order) (s : NodeView) → HasOrders os s → HasOrders os (attached q s)
  joined_orders q os (Cell c) h = h
  joined_orders q os (Base n) h = h

  begun_orders : (n : ℕ) (s : NodeView) → HasOrders (has_of e s).base.orders (base_round n s)
  begun_orders n (Cell c) = refl
  begun_orders n (Base b) = refl

  round_orders : (t : Division) (os : List Order) (s : NodeView) → HasOrders os s → HasOrders os (cell_round t s)
  round_orders t os (Cell c) h = h
  round_orders t os (Base n) h = h

  pub made_orders : (b : Batch) (s : NodeView) → HasOrders (has_of e s).base.orders (cell_round b.tree (made b s))
  made_orders b s =
      let os = (has_of e s).base.orders in
      let begun = base_round (cells_of b.tree) s in
      let first =
      each_keeps (created_at b.tree) (HasOrders os) Any (λ x n u h. created_orders b.tree x os n h) b.creates (any b.creates) begun
      (begun_orders (cells_of b.tree) s) in
      round_orders b.tree os (made b s)
      (each_keeps attached (HasOrders os) Any (λ q n u h. joined_orders q os n h) b.clients (any b.clients)
      (each (created_at b.tree) b.creates begun) first)

  -- ---- no node that is loaded forgets a route

  kept_created : (t : Division) (x : Create) (s : NodeView) → Any x → KeepsRoute e s → KeepsRoute e (created_at t x s)
  kept_created t x (Cell c) u h = tt
  kept_created t x (Base n) u h = by (eqb (base_of n.here x.entity) n.here.me)
    where
      by : (b : Bool) → KeepsRoute e (Base (part_if b (with_route n x.entity (leaf_at t x.pos)) x))
      by true = h
      by false = h

  kept_attached : (q : ℕ) (s : NodeView) → Any q → KeepsRoute e s → KeepsRoute e (attached q s)
  kept_attached q (Cell c) u h = tt
  kept_attached q (Base n) u h = h

  kept_begun : (n : ℕ) (s : NodeView) → KeepsRoute e (base_round n s)
  kept_begun n (Cell c) = tt
  kept_begun n (Base b) = tt

  kept_round : (t : Division) (s : NodeView) → KeepsRoute e s → KeepsRoute e (cell_round t s)
  kept_round t (Cell c) h = tt
  kept_round t (Base n) h = h

  kept_ordered : (o : ℕ × Order) (s : NodeView) → Any o → KeepsRoute e s → KeepsRoute e (ordered_at o s)
  kept_ordered o (Cell c) u h = tt
  kept_ordered o (Base n) u h = by (eqb o.0 n.here.me)
    where
      by : (b : Bool) → KeepsRoute e (Base (order_if b n o.1))
      by true = h
      by false = h

  pub node_keeps : (b : Batch) (s : NodeView) → KeepsRoute e (node_loaded b s)
  node_keeps b s =
      let begun = base_round (cells_of b.tree) s in
      let created = each (created_at b.tree) b.creates begun in
      each_keeps ordered_at (KeepsRoute e) Any kept_ordered b.orders (any b.orders) (cell_round b.tree (made b s))
      (kept_round b.tree (made b s)
      (each_keeps attached (KeepsRoute e) Any kept_attached b.clients (any b.clients) created
      (each_keeps (created_at b.tree) (KeepsRoute e) Any (kept_created b.tree) b.creates (any b.creates) begun
      (kept_begun (cells_of b.tree) s))))
