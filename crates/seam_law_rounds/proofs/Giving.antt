-- What the loads of reaps and looks give to a node.
use Rattle.seam_law_rounds.proofs.Prelude.{◌≡◌, ℕ, ◌+◌, ◌≤◌, Bool, true, false, cond, eqb, List, [], ◌∷◌, ◌++◌, Option, None, Some, refl}
use Rattle.seam_law_rounds.proofs.Prelude.{sym, ap, ◌∙◌, subst, arith, inl, inr, option_map, slice_get, slice_get-map, AllByRecursion}
use Rattle.seam_law_rounds.proofs.Prelude.{cases_eq, eq-eqb, ne_eqb, append-nil, filter-append, total, Order, RealView, base_of, CellView}
use Rattle.seam_law_rounds.proofs.Prelude.{BaseView, NodeView, World, node_has_work, Cell, Base, with_nodes, order_if, ordered_at}
use Rattle.seam_law_rounds.proofs.Prelude.{reap_ordered_at, IsNode, slot_at, Frame, here_at, IsBaseAt, IsAt, IsInFrame, order_concerns}
use Rattle.seam_law_rounds.proofs.Prelude.{orders_of, times, has_of, has_none, real_in, real_at, each, all_append}
use Rattle.seam_machine.proofs.Totals.{total-append}
use Rattle.seam_call.specs.declared.order.Order.TheVariants as order
use Rattle.seam_law_rounds.proofs.Loading.{each_keeps, Any, any}
use Rattle.seam_law_rounds.proofs.Framing.{frame_turns}
use Rattle.seam_node_steps.specs.Prelude.{TellsNone}
use Rattle.seam_law_rounds.proofs.Calm.{IsCalmOrder, order_reaps}
use Rattle.seam_law_rounds.proofs.Starting.{Given, idle_orders}
use Rattle.seam_law_rounds.specs.Between.{KeepsRoute, KeepsRoutes}
use Rattle.seam_node_steps.specs.Prelude.{noting}

-- ---- a world stays in its frame

order_goes : (f : Frame) (k : ℕ) (d : Bool) (b : BaseView) (o : Order) → TellsNone o → IsNode (Base b) × IsAt f k (Base b) →
    IsNode (Base (order_if d b o)) × IsAt f k (Base (order_if d b o))
order_goes f k true b o none h = (
  record { bases = h.0.bases; cells = h.0.cells; routes = h.0.routes },
  record {
    high = h.1.high;
    here = h.1.here;
    cells = h.1.cells;
    orders = all_append TellsNone b.orders (o ∷ []) h.1.orders (none, tt);
  },
)
order_goes f k false b o none h = h

reap_goes : (f : Frame) (k q : ℕ) (s : NodeView) → IsNode s × IsAt f k s → IsNode (reap_ordered_at q s) × IsAt f k (reap_ordered_at q s)
reap_goes f k q (Cell c) h = h
reap_goes f k q (Base b) h =
    order_goes f k (eqb (base_of b.here q) b.here.me) (noting q b) (order.Reap q) refl (
      record { bases = h.0.bases; cells = h.0.cells; routes = h.0.routes },
      record { high = h.1.high; here = h.1.here; cells = h.1.cells; orders = h.1.orders },
    )

tick_goes : (f : Frame) (k : ℕ) (o : ℕ × Order) → TellsNone o.1 → (s : NodeView) → IsNode s × IsAt f k s → IsNode (ordered_at o s)
    × IsAt f k (ordered_at o s)
tick_goes f k o none (Cell c) h = h
tick_goes f k o none (Base b) h = order_goes f k (eqb o.0 b.here.me) b o.1 none h

module _ (f : Frame) (u : World) (q : IsInFrame f u) where
  pub reaps_framed : (es : List ℕ) → IsInFrame f (with_nodes u (each reap_ordered_at es))
  reaps_framed es =
      frame_turns f f refl (each reap_ordered_at es)
      (λ k s node at. each_keeps reap_ordered_at (λ t. IsNode t × IsAt f k t) Any (λ x t any h. reap_goes f k x t h) es (any es) s
      (node, at)) u
      q

  pub look_framed : (o : ℕ × Order) → TellsNone o.1 → IsInFrame f (with_nodes u (ordered_at o))
  look_framed o none = frame_turns f f refl (ordered_at o) (λ k s node at. tick_goes f k o none s (node, at)) u q

  -- there is a base node
  bases_by : (e home : ℕ) (r : RealView) (o : Option NodeView) → slice_get u.nodes home ≡ o →
      real_in (slot_at (has_of e) has_none o) ≡ Some r → 1 ≤ f.settings.bases
  bases_by e home r None at here = absurd (let z = here in cc)
  bases_by e home r (Some (Base b)) at here = absurd (let z = here in cc)
  bases_by e home r (Some (Cell c)) at here =
      let one = (q.sound.states home (Cell c) at).bases in
      let same = ap (λ h. h.settings.bases) (q.nodes home (Cell c) at).here in
      omega (arith, one, same)

  pub some_base : (e home : ℕ) (r : RealView) → real_at e u home ≡ Some r → 1 ≤ f.settings.bases
  some_base e home r here = bases_by e home r (slice_get u.nodes home) refl here

-- ---- the orders about an entity

nothing : (n : ℕ) → 0 + n ≡ n
nothing n = omega arith

module _ (e : ℕ) where
  orders_if : (b : BaseView) (o : Order) (d : Bool) →
      orders_of e (order_if d b o).orders ≡ orders_of e b.orders ++ cond d (orders_of e (o ∷ [])) []
  orders_if b o true = filter-append (order_concerns e) b.orders (o ∷ [])
  orders_if b o false = sym (append-nil (orders_of e b.orders))

  route_if : (b : BaseView) (o : Order) (d : Bool) → (has_of e (Base (order_if d b o))).base.route ≡ (has_of e (Base b)).base.route
  route_if b o true = refl
  route_if b o false = refl

  -- one more order
  given_more : (n m : ℕ) (s : NodeView) (b : BaseView) (o : Order) (d : Bool) (more : List Order) →
      cond d (orders_of e (o ∷ [])) [] ≡ more → AllByRecursion (IsCalmOrder e) more → total order_reaps more ≡ m → Given e n s (Base b) →
      Given e (n + m) s (Base (order_if d b o))
  given_more n m s b o d more is calm weigh g =
      let orders = orders_if b o d ∙ ap (λ l. orders_of e b.orders ++ l) is in
      record {
        cell = g.cell;
        route = route_if b o d ∙ g.route;
        orders = subst (AllByRecursion (IsCalmOrder e)) (sym orders) (all_append (IsCalmOrder e) (orders_of e b.orders) more g.orders calm);
        reaps =
            ap (total order_reaps) orders
            ∙ (total-append order_reaps (orders_of e b.orders) more ∙ (let a = g.reaps in omega (arith, a, weigh)));
      }

  none_if : (d : Bool) (o : Order) → order_concerns e o ≡ false → cond d (orders_of e (o ∷ [])) [] ≡ []
  none_if true o is = ap (λ b. cond b (o ∷ []) []) is
  none_if false o is = refl

  idle_given : (s : NodeView) → node_has_work s ≡ false → Given e 0 s s
  idle_given s h =
      let none = idle_orders e s h in
      record {
        cell = refl;
        route = refl;
        orders = subst (AllByRecursion (IsCalmOrder e)) (sym none) tt;
        reaps = ap (total order_reaps) none;
      }

  as_many : (n m : ℕ) (s t : NodeView) → n ≡ m → Given e n s t → Given e m s t
  as_many n m s t is g = subst (λ x. Given e x s t) is g

  module _ (f : Frame) (k : ℕ) where
    abbrev base : ℕ
    base = base_of (here_at f 0) e

    -- ---- reaps

    reap_by : (n : ℕ) (s : NodeView) (b : BaseView) (q : ℕ) (d : Bool) → (q ≡ e → d ≡ eqb k base) → Given e n s (Base b) →
        Given e (n + cond (eqb k base) (cond (eqb q e) 1 0) 0) s (Base (order_if d b (order.Reap q)))
    reap_by n s b q d same g = elim (cases_eq q e) [
      | inr other ↦
          let none : cond {A = ℕ} (eqb k base) (cond {A = ℕ} (eqb q e) 1 0) 0 ≡ 0 =
          ap (λ x. cond {A = ℕ} (eqb k base) (cond {A = ℕ} x 1 0) 0) (ne_eqb q e other) ∙ zero_by (eqb k base) in
          as_many (n + 0) _ s _ (ap (λ m. n + m) (sym none))
          (given_more n 0 s b (order.Reap q) d [] (none_if d (order.Reap q) (ne_eqb q e other)) tt refl g)
      | inl is ↦ its_by d (eqb k base) (same is) is
    ]
      where
        zero_by : (x : Bool) → cond {A = ℕ} x 0 0 ≡ 0
        zero_by true = refl
        zero_by false = refl

        its_by : (d x : Bool) → d ≡ x → q ≡ e → Given e (n + cond x (cond (eqb q e) 1 0) 0) s (Base (order_if d b (order.Reap q)))
        its_by true true h is =
            as_many (n + 1) _ s _ (ap (λ y. n + cond {A = ℕ} y 1 0) (sym (eq-eqb q e is)))
            (given_more n 1 s b (order.Reap q) true (order.Reap q ∷ []) (ap (λ y. cond y (order.Reap q ∷ []) []) (eq-eqb q e is))
            (is, tt) refl g)
        its_by false false h is = given_more n 0 s b (order.Reap q) false [] refl tt refl g
        its_by true false h is = cc
        its_by false true h is = cc

    times_more : (n : ℕ) (x : Bool) (q : ℕ) (es : List ℕ) →
        n + cond {A = ℕ} x (cond {A = ℕ} (eqb q e) 1 0) 0 + cond {A = ℕ} x (times e es) 0 ≡ n + cond {A = ℕ} x (times e (q ∷ es)) 0
    times_more n true q es = times_by (eqb q e)
      where
        times_by : (y : Bool) → n + cond {A = ℕ} y 1 0 + times e es ≡ n + cond {A = ℕ} y (times e es + 1) (times e es)
        times_by true = omega arith
        times_by false = omega arith
    times_more n false q es = omega arith

    none_more : (n : ℕ) (x : Bool) → n ≡ n + cond {A = ℕ} x 0 0
    none_more n true = omega arith
    none_more n false = omega arith

    reaps_by : (es : List ℕ) (n : ℕ) (s : NodeView) (b : BaseView) → IsBaseAt f k b → Given e n s (Base b) →
        Given e (n + cond (eqb k base) (times e es) 0) s (each reap_ordered_at es (Base b))
    reaps_by [] n s b at g = as_many n _ s (Base b) (none_more n (eqb k base)) g
    reaps_by (q ∷ es) n s b at g =
        let d = eqb (base_of b.here q) b.here.me in
        let now = reap_by n s (noting q b) q d (λ is. its at q is)
        (record { cell = g.cell; route = g.route; orders = g.orders; reaps = g.reaps }) in
        let at_next = at_more d (noting q b) (order.Reap q) refl
        (record { high = at.high; here = at.here; cells = at.cells; orders = at.orders }) in
        as_many _ _ s _ (times_more n (eqb k base) q es) (reaps_by es _ s (order_if d (noting q b) (order.Reap q)) at_next now)
      where
        turned : (x y : ℕ) → eqb x y ≡ eqb y x
        turned x y = elim (cases_eq x y) [
          | inl is ↦ eq-eqb x y is ∙ sym (eq-eqb y x (sym is))
          | inr n ↦ ne_eqb x y n ∙ sym (ne_eqb y x (λ is. n (sym is)))
        ]

        its : (at : IsBaseAt f k b) (q : ℕ) → q ≡ e → eqb (base_of b.here q) b.here.me ≡ eqb k base
        its at q is =
            ap (λ h. eqb (base_of h q) h.me) at.here
            ∙ (ap (λ x. eqb (base_of (here_at f k) x) k) is ∙ turned base k)

        at_more : (d : Bool) (b : BaseView) (o : Order) → TellsNone o → IsBaseAt f k b → IsBaseAt f k (order_if d b o)
        at_more true b o none at = record {
          high = at.high;
          here = at.here;
          cells = at.cells;
          orders = all_append TellsNone b.orders (o ∷ []) at.orders (none, tt);
        }
        at_more false b o none at = at

    same_cell : (c : CellView) (es : List ℕ) → each reap_ordered_at es (Cell c) ≡ Cell c
    same_cell c [] = refl
    same_cell c (q ∷ es) = same_cell c es

    pub reaps_given : (es : List ℕ) (s : NodeView) → IsAt f k s → node_has_work s ≡ false →
        Given e (cond (eqb k base) (times e es) 0) s (each reap_ordered_at es s)
    reaps_given es (Cell c) at h =
        let low = at.low in
        let zero = ap (λ x. cond {A = ℕ} x (times e es) 0) (ne_eqb k base (λ is. omega (arith, is, low))) in
        subst (Given e (cond (eqb k base) (times e es) 0) (Cell c)) (sym (same_cell c es))
        (as_many 0 _ (Cell c) (Cell c) (sym zero) (idle_given (Cell c) h))
    reaps_given es (Base b) at h =
        as_many _ _ (Base b) _ (nothing (cond (eqb k base) (times e es) 0)) (reaps_by es 0 (Base b) b at (idle_given (Base b) h))

    -- ---- a look

    pub look_given : (j : ℕ) (s : NodeView) → node_has_work s ≡ false → Given e 0 s (ordered_at (j, order.Tick) s)
    look_given j (Cell c) h = idle_given (Cell c) h
    look_given j (Base b) h = tick_by (eqb j b.here.me)
      where
        tick_by : (d : Bool) → Given e 0 (Base b) (Base (order_if d b order.Tick))
        tick_by true = given_more 0 0 (Base b) b order.Tick true (order.Tick ∷ []) refl (tt, tt) refl (idle_given (Base b) h)
        tick_by false = idle_given (Base b) h

-- ---- reals stay where they are

cell_if : (e : ℕ) (q : ℕ) (s : NodeView) → (has_of e (reap_ordered_at q s)).cell ≡ (has_of e s).cell
cell_if e q (Cell c) = refl
cell_if e q (Base b) = refl

pub reaps_cell : (e : ℕ) (es : List ℕ) (s : NodeView) → (has_of e (each reap_ordered_at es s)).cell ≡ (has_of e s).cell
reaps_cell e es s =
    each_keeps reap_ordered_at (λ t. (has_of e t).cell ≡ (has_of e s).cell) Any (λ q t any h. cell_if e q t ∙ h) es (any es) s refl

pub look_cell : (e : ℕ) (o : ℕ × Order) (s : NodeView) → (has_of e (ordered_at o s)).cell ≡ (has_of e s).cell
look_cell e o (Cell c) = refl
look_cell e o (Base b) = refl

cell_by : (e : ℕ) (turn : NodeView → NodeView) → ((s : NodeView) → (has_of e (turn s)).cell ≡ (has_of e s).cell) → (o : Option NodeView) →
    (slot_at (has_of e) has_none (option_map turn o)).cell ≡ (slot_at (has_of e) has_none o).cell
cell_by e turn same None = refl
cell_by e turn same (Some s) = same s

pub reals_stay : (e : ℕ) (turn : NodeView → NodeView) → ((s : NodeView) → (has_of e (turn s)).cell ≡ (has_of e s).cell) →
    (u : World) (k : ℕ) → real_at e (with_nodes u turn) k ≡ real_at e u k
reals_stay e turn same u k =
    ap (λ o. real_in (slot_at (has_of e) has_none o)) (slice_get-map turn u.nodes k)
    ∙ ap (λ c. c.slot.real) (cell_by e turn same (slice_get u.nodes k))

-- ---- routes that are kept

module _ (e : ℕ) where
  keeps_order : (d : Bool) (b : BaseView) (o : Order) → KeepsRoute e (Base b) → KeepsRoute e (Base (order_if d b o))
  keeps_order true b o h = h
  keeps_order false b o h = h

  keeps_reap : (q : ℕ) (s : NodeView) → (q ≡ e → ⊥) → KeepsRoute e s → KeepsRoute e (reap_ordered_at q s)
  keeps_reap q (Cell c) other h = h
  keeps_reap q (Base b) other h =
      keeps_order (eqb (base_of b.here q) b.here.me) (noting q b) (order.Reap q)
      (all_append (λ x. x ≡ e → ⊥) b.gone (q ∷ []) h (other, tt))

  keeps_tick : (o : ℕ × Order) (s : NodeView) → KeepsRoute e s → KeepsRoute e (ordered_at o s)
  keeps_tick o (Cell c) h = h
  keeps_tick o (Base b) h = keeps_order (eqb o.0 b.here.me) b o.1 h

  keeps_turned : (turn : NodeView → NodeView) → ((s : NodeView) → KeepsRoute e s → KeepsRoute e (turn s)) → (u : World) → KeepsRoutes e u →
      KeepsRoutes e (with_nodes u turn)
  keeps_turned turn keeps u kept k t at = by (slice_get u.nodes k) refl (sym (slice_get-map turn u.nodes k) ∙ at)
    where
      by : (o : Option NodeView) → slice_get u.nodes k ≡ o → option_map turn o ≡ Some t → KeepsRoute e t
      by None there is = absurd (let z = is in cc)
      by (Some s) there is =
          let same : turn s ≡ t = let z = is in cc in
          subst (KeepsRoute e) same (keeps s (kept k s there))

  -- reaps of others leave them, and so does a look
  pub keeps_reaps : (es : List ℕ) → AllByRecursion (λ x. x ≡ e → ⊥) es → (u : World) → KeepsRoutes e u →
      KeepsRoutes e (with_nodes u (each reap_ordered_at es))
  keeps_reaps es others =
      keeps_turned (each reap_ordered_at es)
      (λ s h. each_keeps reap_ordered_at (KeepsRoute e) (λ x. x ≡ e → ⊥) (λ q n other h. keeps_reap q n other h) es others s h)

  pub keeps_look : (o : ℕ × Order) (u : World) → KeepsRoutes e u → KeepsRoutes e (with_nodes u (ordered_at o))
  keeps_look o = keeps_turned (ordered_at o) (keeps_tick o)
