-- What a load of orders adds to the weight of a world.
use Rattle.seam_law_bounds.proofs.Prelude.{◌≡◌, ℕ, suc, ◌+◌, ◌*◌, ◌≤◌, Bool, true, false, cond, eqb, nat_lt, List, [], ◌∷◌, length, map}
use Rattle.seam_law_bounds.proofs.Prelude.{Some, refl, sym, ap, ◌∙◌, subst, arith, inl, inr, slice_get, cases_eq, eq-eqb, ne_eqb, nat_tests}
use Rattle.seam_law_bounds.proofs.Prelude.{slice_get-map, EachNode, total, Order, base_of, BaseView, NodeView, World, Cell, Base, order_if}
use Rattle.seam_law_bounds.proofs.Prelude.{ordered_at, with_orders, with_nodes, reap_ordered_at, with_reap, reaps_loaded, Frame, here_at}
use Rattle.seam_law_calls.specs.Frames.{Knows}
use Rattle.seam_law_bounds.proofs.Prelude.{Sizes, order_weight, node_weight, world_weight, total-push, with_order}
use Rattle.seam_law_bounds.proofs.Prelude.{node_there}
use Rattle.seam_call.specs.declared.order.Order.TheVariants as order
use Rattle.seam_node_steps.specs.Prelude.{noting}

-- where g is at most h at each node, but at most a more at the node `home`, so is the sum
module _ {N : Type 0} (g h : N → ℕ) (home a : ℕ) where
  sum_by : (i x y m n : ℕ) (here past later : Bool) → eqb i home ≡ here → nat_lt home i ≡ past → nat_lt home (i + 1) ≡ later →
      x ≤ y + cond {A = ℕ} here a 0 → m ≤ n + cond {A = ℕ} later 0 a → x + m ≤ y + n + cond {A = ℕ} past 0 a
  sum_by i x y m n true true later h p l at more = absurd (grind (arith, nat_tests, h, p))
  sum_by i x y m n true false true h p l at more = omega (arith, at, more)
  sum_by i x y m n true false false h p l at more = absurd (grind (arith, nat_tests, h, l))
  sum_by i x y m n false true true h p l at more = omega (arith, at, more)
  sum_by i x y m n false true false h p l at more = absurd (grind (arith, nat_tests, p, l))
  sum_by i x y m n false false true h p l at more = absurd (grind (arith, nat_tests, h, p, l))
  sum_by i x y m n false false false h p l at more = omega (arith, at, more)

  sum_from : (i : ℕ) (ns : List N) → ((j : ℕ) (s : N) → slice_get ns j ≡ Some s → g s ≤ h s + cond {A = ℕ} (eqb (j + i) home) a 0) →
      total g ns ≤ total h ns + cond {A = ℕ} (nat_lt home i) 0 a
  sum_from i [] each = omega arith
  sum_from i (s ∷ ns) each =
      let same : 0 + i ≡ i = omega arith in
      let here = subst (λ n. g s ≤ h s + cond {A = ℕ} (eqb n home) a 0) same (each 0 s refl) in
      let rest =
      sum_from (i + 1) ns (λ j y at.
      let same : suc j + i ≡ j + (i + 1) = omega arith in
      subst (λ n. g y ≤ h y + cond {A = ℕ} (eqb n home) a 0) same (each (suc j) y at)) in
      sum_by i (g s) (h s) (total g ns) (total h ns) (eqb i home) (nat_lt home i) (nat_lt home (i + 1)) refl refl refl here rest

  at_most : (b : Bool) → cond {A = ℕ} b 0 a ≤ a
  at_most true = omega arith
  at_most false = omega arith

  pub sum_exceeds : (ns : List N) →
      ((j : ℕ) (s : N) → slice_get ns j ≡ Some s → g s ≤ h s + cond {A = ℕ} (eqb j home) a 0) → total g ns ≤ total h ns + a
  sum_exceeds ns each =
      let all =
      sum_from 0 ns (λ j s at.
      let same : j ≡ j + 0 = omega arith in
      subst (λ n. g s ≤ h s + cond {A = ℕ} (eqb n home) a 0) same (each j s at)) in
      let few = at_most (nat_lt home 0) in
      omega (arith, all, few)

total_mapped : {N : Type 0} (g : N → ℕ) (turn : N → N) (ns : List N) → total g (map turn ns) ≡ total (λ s. g (turn s)) ns
total_mapped g turn [] = refl
total_mapped g turn (s ∷ ns) = let more = total_mapped g turn ns in omega (arith, more)

-- where only the node `home` weighs more after a change, and at most a, so do all together
pub sum_adds : {N : Type 0} (g : N → ℕ) (turn : N → N) (home a : ℕ) (ns : List N) →
    ((j : ℕ) (s : N) → slice_get ns j ≡ Some s → g (turn s) ≤ g s + cond {A = ℕ} (eqb j home) a 0) → total g (map turn ns) ≤ total g ns + a
sum_adds g turn home a ns each =
    let all = sum_exceeds (λ s. g (turn s)) g home a ns each in
    let same = total_mapped g turn ns in
    omega (arith, all, same)

pub turned : (x y : ℕ) → eqb x y ≡ eqb y x
turned x y = elim (cases_eq x y) [
  | inl is ↦ eq-eqb x y is ∙ sym (eq-eqb y x (sym is))
  | inr n ↦ ne_eqb x y n ∙ sym (ne_eqb y x (λ is. n (sym is)))
]

-- ---- nodes stay at their places

module _ (f : Frame) where
  abbrev pub AreAt : World → Type 0
  AreAt w = EachNode (Knows f.defs f.settings) w.nodes

  base_stays : (k : ℕ) (d : Bool) (b : BaseView) (o : Order) → Knows f.defs f.settings k (Base b) → Knows f.defs f.settings k
      (Base (order_if d b o))
  base_stays k true b o at = at
  base_stays k false b o at = at

  pub order_stays : (k : ℕ) (o : ℕ × Order) (s : NodeView) → Knows f.defs f.settings k s → Knows f.defs f.settings k (ordered_at o s)
  order_stays k o (Cell c) at = at
  order_stays k o (Base b) at = base_stays k (eqb o.0 b.here.me) b o.1 at

  reap_stays : (k e : ℕ) (s : NodeView) → Knows f.defs f.settings k s → Knows f.defs f.settings k (reap_ordered_at e s)
  reap_stays k e (Cell c) at = at
  reap_stays k e (Base b) at = base_stays k (eqb (base_of b.here e) b.here.me) (noting e b) (order.Reap e) at

  pub nodes_stay : (turn : NodeView → NodeView) → ((k : ℕ) (s : NodeView) → Knows f.defs f.settings k s → Knows f.defs f.settings k
      (turn s)) → (w : World) → AreAt w →
      AreAt (with_nodes w turn)
  nodes_stay turn stays w at k t is =
      let was = node_there (slice_get w.nodes k) turn t (sym (slice_get-map turn w.nodes k) ∙ is) in
      subst (Knows f.defs f.settings k) was.2 (stays k was.0 (at k was.0 was.1))

module _ (z : Sizes) (f : Frame) where
  -- ---- one order at one node

  base_adds : (d : Bool) (b : BaseView) (o : Order) →
      node_weight z (Base (order_if d b o)) ≤ node_weight z (Base b) + cond {A = ℕ} d (order_weight z o) 0
  base_adds true b o = let more = total-push (order_weight z) b.orders o in omega (arith, more)
  base_adds false b o = omega arith

  order_adds : (k : ℕ) (o : ℕ × Order) (s : NodeView) → Knows f.defs f.settings k s →
      node_weight z (ordered_at o s) ≤ node_weight z s + cond {A = ℕ} (eqb k o.0) (order_weight z o.1) 0
  order_adds k o (Cell c) at = omega arith
  order_adds k o (Base b) at =
      let one = base_adds (eqb o.0 b.here.me) b o.1 in
      let same = ap (λ d. cond {A = ℕ} d (order_weight z o.1) 0) (ap (λ h. eqb o.0 h.me) at.1 ∙ turned o.0 k) in
      omega (arith, one, same)

  reap_adds : (k e : ℕ) (s : NodeView) → Knows f.defs f.settings k s →
      node_weight z (reap_ordered_at e s) ≤ node_weight z s + cond {A = ℕ} (eqb k (base_of (here_at f 0) e)) 18 0
  reap_adds k e (Cell c) at = omega arith
  reap_adds k e (Base b) at =
      let one = base_adds (eqb (base_of b.here e) b.here.me) (noting e b) (order.Reap e) in
      let same =
      ap (λ d. cond {A = ℕ} d 18 0) (ap (λ h. eqb (base_of h e) h.me) at.1 ∙ turned (base_of (here_at f 0) e) k) in
      omega (arith, one, same)

  -- ---- lists of orders

  pub orders_add : (os : List (ℕ × Order)) (w : World) → AreAt f w →
      world_weight z (with_orders w os) ≤ world_weight z w + total (λ o. order_weight z o.1) os
  orders_add [] w at = omega arith
  orders_add (o ∷ os) w at =
      let one = sum_adds (node_weight z) (ordered_at o) o.0 (order_weight z o.1) w.nodes (λ j s is. order_adds j o s (at j s is)) in
      let more = orders_add os (with_order w o) (nodes_stay f (ordered_at o) (λ k s h. order_stays f k o s h) w at) in
      omega (arith, one, more)

  pub reaps_add : (es : List ℕ) (w : World) → AreAt f w → world_weight z (reaps_loaded w es) ≤ world_weight z w + 18 * length es
  reaps_add [] w at = omega arith
  reaps_add (e ∷ es) w at =
      let one =
      sum_adds (node_weight z) (reap_ordered_at e) (base_of (here_at f 0) e) 18 w.nodes (λ j s is. reap_adds j e s (at j s is)) in
      let more = reaps_add es (with_reap w e) (nodes_stay f (reap_ordered_at e) (λ k s h. reap_stays f k e s h) w at) in
      omega (arith, one, more)
