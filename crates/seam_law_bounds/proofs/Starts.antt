-- Where a phase begins: no one looks, and base parts hold nothing.
use Rattle.seam_law_bounds.proofs.Prelude.{◌≡◌, ℕ, ◌≤◌, ◌⊎◌, Bool, true, false, cond, List, [], ◌∷◌, Option, None, Some, refl, sym, ap, ◌∙◌}
use Rattle.seam_law_bounds.proofs.Prelude.{subst, arith, inl, inr, slice_get, AllByRecursion, cases_eq, link, EachNode, Order, RealView}
use Rattle.seam_law_bounds.proofs.Prelude.{Msg, PartView, NodeView, World, Cell, Base, slot_at, letters_of, more_letter, Frame, IsInFrame}
use Rattle.seam_law_bounds.proofs.Prelude.{Has, mine, times, order_concerns, orders_of, has_of, has_none, entity_flow, real_of}
use Rattle.seam_law_bounds.proofs.Prelude.{base_call_in, update_in, base_call_of, calls_ordered, sent_by, is_tick_order, tick_in}
use Rattle.seam_law_bounds.proofs.Prelude.{HasToldAtMost, HasNoLooks, real_at, part_weight, weight_or, Somewhere, Nowhere, search_real}
use Rattle.std.specs.FinMap as table
use Rattle.seam_law_bounds.proofs.Bare.{HoldsNone, IsBare}

-- a cell whose look list is empty, and a base node whose orders are such and whose parts hold nothing
abbrev pub IsPlain : (Order → Type 0) → NodeView → Type 0
IsPlain Ok (Cell c) = c.looks ≡ []
IsPlain Ok (Base b) = AllByRecursion Ok b.orders × ((e : ℕ) (p : PartView) → table.get b.parts e ≡ Some p → part_weight p ≡ 0)

-- the entity's real is at one node at most
abbrev pub IsSoleReal : ℕ → World → Type 0
IsSoleReal e w =
    (k : ℕ) (r : RealView) → real_at e w k ≡ Some r → (j : ℕ) → (j ≡ k → ⊥) → real_at e w j ≡ None

part_none_by : (o : Option PartView) → ((p : PartView) → o ≡ Some p → part_weight p ≡ 0) → weight_or part_weight o ≡ 0
part_none_by None h = refl
part_none_by (Some p) h = h p refl

module _ (f : Frame) (e : ℕ) (w : World) (frame : IsInFrame f w) (empty : (a k : ℕ) → link w.rows a k ≡ []) (Ok : Order → Type 0)
    (nodes : EachNode (λ k s. IsPlain Ok s) w.nodes) (no_tick : (o : Order) → Ok o → is_tick_order o ≡ false) (sole : IsSoleReal e w) where
  mail_is : (a k : ℕ) → (entity_flow e w).mail a k ≡ []
  mail_is a k = ap (letters_of (mine e)) (empty a k)

  no_letters : (P : Msg → Type 0) (a k : ℕ) → AllByRecursion P ((entity_flow e w).mail a k)
  no_letters P a k = subst (AllByRecursion P) (sym (mail_is a k)) tt

  -- ---- what an entity's real told

  told_by : Somewhere e w ⊎ Nowhere e w → (n : ℕ) × HasToldAtMost e n w
  told_by (inr none) = (
    0,
    record {
      cells = λ k r at. absurd (let z = sym (none k) ∙ at in cc);
      hands = λ a k. no_letters (λ m. (r : RealView) → real_of m ≡ Some r → sent_by r ≤ 0) a k;
    },
  )
  told_by (inl p) = (
    sent_by p.1,
    record {
      cells = λ k r at. same_by k r at (cases_eq k p.0);
      hands = λ a k. no_letters (λ m. (r : RealView) → real_of m ≡ Some r → sent_by r ≤ sent_by p.1) a k;
    },
  )
    where
      same_by : (k : ℕ) (r : RealView) → real_at e w k ≡ Some r → (k ≡ p.0) ⊎ (k ≡ p.0 → ⊥) → sent_by r ≤ sent_by p.1
      same_by k r at (inl is) =
          let there = sym at ∙ (ap (λ j. real_at e w j) is ∙ p.2) in
          let one : r ≡ p.1 = cc in
          let a = ap sent_by one in
          omega (arith, a)
      same_by k r at (inr n) = absurd (let z = sym (sole p.0 p.1 p.2 k n) ∙ at in cc)

  -- ---- what nodes have

  ticks_by : (o : Order) (os : List Order) (d : Bool) → Ok o → AllByRecursion (λ o. is_tick_order o ≡ false) os →
      AllByRecursion (λ o. is_tick_order o ≡ false) (cond d (o ∷ os) os)
  ticks_by o os true h all = (no_tick o h, all)
  ticks_by o os false h all = all

  ticks_none : (os : List Order) → AllByRecursion Ok os → AllByRecursion (λ o. is_tick_order o ≡ false) (orders_of e os)
  ticks_none [] h = tt
  ticks_none (o ∷ os) h = ticks_by o (orders_of e os) (order_concerns e o) h.0 (ticks_none os h.1)

  record HasPlain (h : Has) : Type 0 where
    looks : h.cell.looks ≡ 0
    orders : AllByRecursion (λ o. is_tick_order o ≡ false) h.base.orders
    part : HoldsNone h.base

  has_by : (s : NodeView) → IsPlain Ok s → HasPlain (has_of e s)
  has_by (Cell c) h = record { looks = ap (times e) h; orders = tt; part = refl }
  has_by (Base b) h = record {
    looks = refl;
    orders = ticks_none b.orders h.0;
    part = part_none_by (table.get b.parts e) (h.1 e);
  }

  slot_by : (o : Option NodeView) (k : ℕ) → slice_get w.nodes k ≡ o → HasPlain (slot_at (has_of e) has_none o)
  slot_by None k at = record { looks = refl; orders = tt; part = refl }
  slot_by (Some s) k at = has_by s (nodes k s at)

  slots : (k : ℕ) → HasPlain ((entity_flow e w).slot k)
  slots k = slot_by (slice_get w.nodes k) k refl

  pub looks_start : HasNoLooks e w
  looks_start = record {
    cells = λ k. (slots k).looks;
    orders = λ k. (slots k).orders;
    letters = no_letters (λ m. tick_in m ≡ None);
  }

  pub told_start : (n : ℕ) × HasToldAtMost e n w
  told_start = told_by (search_real e w)

  -- ---- an entity whose base part no one calls

  module _ (no_call : (o : Order) → Ok o → order_concerns e o ≡ true → base_call_of o ≡ None) where
    calls_by : (o : Order) (os : List Order) (d : Bool) → order_concerns e o ≡ d → Ok o → letters_of base_call_of os ≡ [] →
        letters_of base_call_of (cond d (o ∷ os) os) ≡ []
    calls_by o os true is h none = ap (λ x. more_letter x (letters_of base_call_of os)) (no_call o h is) ∙ none
    calls_by o os false is h none = none

    calls_none : (os : List Order) → AllByRecursion Ok os → letters_of base_call_of (orders_of e os) ≡ []
    calls_none [] h = refl
    calls_none (o ∷ os) h = calls_by o (orders_of e os) (order_concerns e o) refl h.0 (calls_none os h.1)

    node_calls : (s : NodeView) → IsPlain Ok s → calls_ordered (has_of e s).base ≡ []
    node_calls (Cell c) h = refl
    node_calls (Base b) h = calls_none b.orders h.0

    slot_calls : (o : Option NodeView) (k : ℕ) → slice_get w.nodes k ≡ o → calls_ordered (slot_at (has_of e) has_none o).base ≡ []
    slot_calls None k at = refl
    slot_calls (Some s) k at = node_calls s (nodes k s at)

    pub bare_start : (n : ℕ) × IsBare f e n w
    bare_start = (
      told_start.0,
      record {
        frame = frame;
        looks = looks_start;
        told = told_start.1;
        calls = record {
          orders = λ k. slot_calls (slice_get w.nodes k) k refl;
          letters = no_letters (λ m. base_call_in m ≡ None);
        };
        updates = no_letters (λ m. update_in m ≡ None);
        parts = λ k. (slots k).part;
      },
    )

-- ---- parts alone

pub parts_none : (Ok : Order → Type 0) (w : World) → EachNode (λ k s. IsPlain Ok s) w.nodes → (e k : ℕ) →
    HoldsNone ((entity_flow e w).slot k).base
parts_none Ok w nodes e k = slot_none (slice_get w.nodes k) refl
  where
    node_none : (s : NodeView) → IsPlain Ok s → HoldsNone (has_of e s).base
    node_none (Cell c) h = refl
    node_none (Base b) h = part_none_by (table.get b.parts e) (h.1 e)

    slot_none : (o : Option NodeView) → slice_get w.nodes k ≡ o → HoldsNone (slot_at (has_of e) has_none o).base
    slot_none None at = refl
    slot_none (Some s) at = node_none s (nodes k s at)
