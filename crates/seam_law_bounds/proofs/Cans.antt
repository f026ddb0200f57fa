-- Where no one looks, what is asked of nodes is that calls and updates that are ready may be served, and that no first order is stray.
use Rattle.seam_law_bounds.proofs.Prelude.{◌≡◌, ℕ, ◌+◌, ◌≤◌, ◌⊎◌, Bool, true, false, cond, List, [], ◌∷◌, Option, None, Some, refl, ap, ◌∙◌}
use Rattle.seam_law_bounds.proofs.Prelude.{◌&&◌, subst, arith, inl, inr, slice_get, AllByRecursion, eq-eqb, link, letter, input_from, Input}
use Rattle.seam_law_bounds.proofs.Prelude.{From, Order, RealView, has_ready, ready_order, may_execute, may_rise, Msg, Tick, Here, CellView}
use Rattle.seam_law_bounds.proofs.Prelude.{BaseView, PartView, stray_order, proxy_is_ready, may_show, NodeView, World, Cell, Base, slot_at}
use Rattle.seam_law_bounds.proofs.Prelude.{letters_of, Frame, IsInFrame, mine, times, has_of, has_none, tick_in, HasNoLooks, Sizes}
use Rattle.seam_law_bounds.proofs.Prelude.{part_weight, BaseCan, NodeCan, LooksFit}
use Rattle.std.specs.FinMap as table
use Rattle.seam_node_steps.specs.BaseCases as base
use Rattle.seam_law_bounds.proofs.BaseWeights.{after_ready_weighs, showing_weighs}

-- ---- a base node

second : (a b : Bool) → (a && b) ≡ true → b ≡ true
second true b h = h
second false b h = cc

-- a part that holds nothing has nothing ready
module _ (h : Here) (p : PartView) (none : part_weight p ≡ 0) where
  pub none_is_ready : has_ready p.orders ≡ true → ⊥
  none_is_ready ready = let less = after_ready_weighs h p (ready_order p.orders) refl ready in omega (arith, less, none)

  pub none_is_shown : proxy_is_ready p.proxy ≡ true → ⊥
  none_is_shown ready = let less = showing_weighs p p.proxy refl ready in omega (arith, less, none)

pub base_can : (b : BaseView) → ((o : Order) (os : List Order) → b.orders ≡ o ∷ os → stray_order b o ≡ false) →
    ((e : ℕ) (p : PartView) → table.get b.parts e ≡ Some p → (part_weight p ≡ 0) ⊎ (base.may_execute p ≡ true)) → BaseCan b
base_can b orders parts = record {
  orders = orders;
  parts = λ e p at ready. executes p (parts e p at) ready;
  clients = λ e p at ready. shows p (parts e p at) ready;
}
  where
    executes : (p : PartView) → (part_weight p ≡ 0) ⊎ (base.may_execute p ≡ true) → has_ready p.orders ≡ true → base.may_execute p ≡ true
    executes p (inl none) ready = absurd (none_is_ready b.here p none ready)
    executes p (inr may) ready = may

    shows : (p : PartView) → (part_weight p ≡ 0) ⊎ (base.may_execute p ≡ true) → proxy_is_ready p.proxy ≡ true → may_show p.proxy ≡ true
    shows p (inl none) ready = absurd (none_is_shown b.here p none ready)
    shows p (inr may) ready = second (may_rise p.version) (may_show p.proxy) may

-- ---- a node

first_times : (e : ℕ) (es : List ℕ) → 1 ≤ times e (e ∷ es)
first_times e es =
    let is = ap (λ b. cond {A = ℕ} b (times e es + 1) (times e es)) (eq-eqb e e refl) in
    omega (arith, is)

pub fed_by : (a : ℕ) (ms : List Msg) (b : ℕ) (m : Msg) → letter a ms ≡ Some (From b m) → (rest : List Msg) × (ms ≡ m ∷ rest)
fed_by a [] b m h = cc
fed_by a (x ∷ ms) b m h = let same : x ≡ m = cc in (ms, ap (λ y. y ∷ ms) same)

module _ (z : Sizes) (f : Frame) (v : World) (enough : f.settings.bases ≤ z.bases) (frame : IsInFrame f v)
    (looks : (e : ℕ) → HasNoLooks e v)
    (ready : (k : ℕ) (c : CellView) → slice_get v.nodes k ≡ Some (Cell c) → (e : ℕ) (r : RealView) → table.get c.reals e ≡ Some r →
    has_ready r.orders ≡ true → may_execute r ≡ true)
    (bases : (k : ℕ) (b : BaseView) → slice_get v.nodes k ≡ Some (Base b) → BaseCan b) where
  no_tick : (k : ℕ) (from : Option ℕ) (a : ℕ) → input_from v.rows k from ≡ Some (From a Tick) → ⊥
  no_tick k None a fed = cc
  no_tick k (Some x) a fed =
      let first = fed_by x (link v.rows x k) a Tick fed in
      let none = subst (AllByRecursion (λ m. tick_in m ≡ None)) (ap (letters_of (mine 0)) first.1) ((looks 0).letters x k) in
      let head = none.0 in
      cc

  no_look : (k : ℕ) (c : CellView) → slice_get v.nodes k ≡ Some (Cell c) → (e : ℕ) (es : List ℕ) → c.looks ≡ e ∷ es → ⊥
  no_look k c node e es is =
      let at = ap (λ o. (slot_at (has_of e) has_none o).cell.looks) node in
      let none = (looks e).cells k in
      let some = first_times e es in
      let same = ap (times e) is in
      omega (arith, at, none, some, same)

  pub can_by : (k : ℕ) (from : Option ℕ) (s : NodeView) (i : Input Msg) → slice_get v.nodes k ≡ Some s → input_from v.rows k from ≡ Some i →
      NodeCan z s i
  can_by k from (Base b) i node fed = bases k b node
  can_by k from (Cell c) i node fed = record {
    bases = let same = ap (λ h. h.settings.bases) (frame.nodes k (Cell c) node).here in omega (arith, same, enough);
    ready = ready k c node;
    looks = λ e es r w is at has. absurd (no_look k c node e es is);
    ticks = λ a is. absurd (no_tick k from a (fed ∙ ap Some is));
  }

-- the same where the looks have few lines and ticks find few witnesses
module _ (z : Sizes) (f : Frame) (v : World) (enough : f.settings.bases ≤ z.bases) (frame : IsInFrame f v) (few : LooksFit z v)
    (ready : (k : ℕ) (c : CellView) → slice_get v.nodes k ≡ Some (Cell c) → (e : ℕ) (r : RealView) → table.get c.reals e ≡ Some r →
    has_ready r.orders ≡ true → may_execute r ≡ true)
    (bases : (k : ℕ) (b : BaseView) → slice_get v.nodes k ≡ Some (Base b) → BaseCan b) where
  pub can_look : (k : ℕ) (s : NodeView) (i : Input Msg) → slice_get v.nodes k ≡ Some s → NodeCan z s i
  can_look k (Base b) i node = bases k b node
  can_look k (Cell c) i node = record {
    bases = let same = ap (λ h. h.settings.bases) (frame.nodes k (Cell c) node).here in omega (arith, same, enough);
    ready = ready k c node;
    looks = λ e es r w is at has. few.lines k c node e es r w is at has;
    ticks = λ a is.
        let most = few.witnesses k c node in
        let me = ap (λ h. z.witnesses h.me) (frame.nodes k (Cell c) node).here in
        omega (arith, most, me);
  }
