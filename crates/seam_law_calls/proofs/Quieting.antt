-- In a quiet world nothing waits: no message, no order, and no held call whose turn it is.
use Rattle.seam_law_calls.proofs.Prelude.{◌≡◌, ℕ, Bool, true, false, cond, not, ◌&&◌, is_some, List, [], ◌∷◌, find, Option, None, Some}
use Rattle.seam_law_calls.proofs.Prelude.{refl, sym, ap, ◌∙◌, option_map, list_all, nat_cmp, IsQuiet, OrderView, next_item}
use Rattle.seam_law_calls.proofs.Prelude.{Call as CallData, Orders, order_or, RealView, number_of, has_any, order_is_ready, has_ready}
use Rattle.seam_law_calls.proofs.Prelude.{CellView, real_is_ready, cell_has_work, BaseView, base_has_work, NodeView, World, node_has_work}
use Rattle.seam_law_calls.proofs.Prelude.{Cell, Base, letters_of, Desk, desk_of, parcel_of, IsStill, Frame, IsInFrame, Has, mine, has_of}
use Rattle.seam_law_calls.proofs.Prelude.{has_none, orders_of, entity_flow, real_in, from_sender, desk_for, cell_order_from, real_desk}
use Rattle.seam_law_calls.proofs.Prelude.{cell_mail, as_sender, CellCallsInTurn, real_at, quiet_links, quiet_tasks, sole_here, all_done}
use Rattle.std.specs.FinMap as table
use Rattle.seam_law_calls.proofs.ExampleMet.{slots}
use Rattle.seam_law_calls.proofs.Holds.{got_passes, not_true, neither}

pub none_left : {A : Type 0} (xs : List A) → has_any xs ≡ false → xs ≡ []
none_left [] h = refl
none_left (x ∷ xs) h = cc

pub none_some : {A : Type 0} (o : Option A) → is_some o ≡ false → o ≡ None
none_some None h = refl
none_some (Some x) h = cc

no_map : {A B : Type 0} (g : A → B) (o : Option A) → option_map g o ≡ None → o ≡ None
no_map g None h = refl
no_map g (Some x) h = cc

-- where a search finds nothing, nothing passes
module _ {X : Type 0} (test : ℕ × X → Bool) where
  abbrev fails : ℕ × X → Bool
  fails p = not (test p)

  all_fail_by : (p : ℕ × X) (ps : List (ℕ × X)) (b : Bool) → cond b (Some p) (find test ps) ≡ None →
      (find test ps ≡ None → list_all fails ps ≡ true) → (not b && list_all fails ps) ≡ true
  all_fail_by p ps true h more = cc
  all_fail_by p ps false h more = more h

  all_fail : (ps : List (ℕ × X)) → find test ps ≡ None → list_all fails ps ≡ true
  all_fail [] h = refl
  all_fail (p ∷ ps) h = all_fail_by p ps (test p) h (all_fail ps)

  pub got_fails : ((a b : ℕ) (x : X) → fails (a, x) ≡ fails (b, x)) → (m : table.FinMap nat_cmp X) (k : ℕ) (x : X) →
      find test (table.entries m) ≡ None → table.get m k ≡ Some x → test (k, x) ≡ false
  got_fails by_value m k x h at =
      not_true (test (k, x)) (got_passes fails by_value m k x (all_fail (table.entries m) h) at)

pub no_turn_by : (os : Orders) (s : ℕ) (o : Option (OrderView CallData)) → has_ready os ≡ false → table.get os s ≡ o →
    next_item (order_or o) ≡ None
no_turn_by os s None h at = refl
no_turn_by os s (Some o) h at =
    none_some (next_item o) (got_fails order_is_ready (λ a b x. refl) os s o (none_some (find order_is_ready (table.entries os)) h) at)

-- no call is ready in a cell without a task
no_call : (c : CellView) (e s : ℕ) (r : RealView) → cell_has_work c ≡ false → table.get c.reals e ≡ Some r →
    next_item (order_or (table.get r.orders s)) ≡ None
no_call c e s r h at =
    let two = neither (has_any c.survey) _ h in
    let ready = (neither _ (has_any c.looks) two.1).0 in
    let none = no_map number_of (find real_is_ready (table.entries c.reals)) (none_some _ ready) in
    no_turn_by r.orders s (table.get r.orders s) (got_fails real_is_ready (λ a b x. refl) c.reals e r none at) refl

no_order : (b : BaseView) (e : ℕ) → base_has_work b ≡ false → orders_of e b.orders ≡ []
no_order b e h = ap (orders_of e) (none_left b.orders (neither (has_any b.orders) _ h).0)

-- ---- what a node has of an entity then

record IsIdle (h : Has) : Type 0 where
  orders : h.base.orders ≡ []
  ready : (r : RealView) → real_in h ≡ Some r → (s : ℕ) → next_item (order_or (table.get r.orders s)) ≡ None

idle_node : (e : ℕ) (n : NodeView) → node_has_work n ≡ false → IsIdle (has_of e n)
idle_node e (Cell c) h = record { orders = refl; ready = λ r at s. no_call c e s r h at }
idle_node e (Base b) h = record { orders = no_order b e h; ready = λ r at s. absurd (let z = at in cc) }

idle_none : IsIdle has_none
idle_none = record { orders = refl; ready = λ r at s. absurd (let z = at in cc) }

module _ (f : Frame) (e : ℕ) (w : World) (q : IsInFrame f w) (quiet : IsQuiet node_has_work w) where
  idle_at : (k : ℕ) → IsIdle ((entity_flow e w).slot k)
  idle_at =
      slots (λ k h. IsIdle h) e w (λ k n at. idle_node e n (quiet_tasks node_has_work w quiet k n at)) (λ k. idle_none)

  desk_by : (s : ℕ) (o : Option RealView) (d : Desk CallData) →
      ((r : RealView) → o ≡ Some r → next_item (order_or (table.get r.orders s)) ≡ None) → real_desk s o ≡ Some d → next_item d.order ≡ None
  desk_by s None d ready at = cc
  desk_by s (Some r) d ready at =
      let same : desk_for s r.orders r.done ≡ d = cc in
      ap (λ x. next_item x.order) (sym same) ∙ ready r refl

  still : (s : ℕ) → IsStill (as_sender s (entity_flow e w))
  still s = record {
    mail = λ x y.
        ap (λ l. letters_of (cell_mail s) (letters_of (mine e) l)) (quiet_links node_has_work w q.sound.square quiet x y);
    stores = λ k. ap (letters_of (cell_order_from s)) (idle_at k).orders;
    ready = λ k d at. desk_by s (real_at e w k) d (λ r has. (idle_at k).ready r has s) at;
  }

  -- the real executed every call of the batch, each sender's in order
  pub all_executed : (first : ℕ → ℕ) (batch : ℕ → List CallData) → CellCallsInTurn e first batch w → (k : ℕ) (r : RealView) →
      real_at e w k ≡ Some r → (s : ℕ) → letters_of (from_sender s) r.done ≡ batch s
  all_executed first batch turns k r has s =
      let t = turns s in
      let there = ap (real_desk s) has in
      let same = (sole_here desk_of parcel_of (as_sender s (entity_flow e w)) t.place t.desk (desk_for s r.orders r.done) k t.in_turn.sole
      there).1 in
      ap (λ x. x.done) same ∙ all_done (first s) (batch s) (as_sender s (entity_flow e w)) (still s) t.place t.desk t.in_turn
