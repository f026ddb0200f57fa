-- A step sends to nodes of the net, and leaves next places that are cells.
use Rattle.std.proofs.Common.{◌≡◌, ℕ, zero, suc, ◌+◌, ◌<◌, ◌≤◌, Bool, true, false, List, [], ◌∷◌, ◌++◌, Option, None, Some, map, not, ap}
use Rattle.std.proofs.Common.{refl, arith, subst, nat_le, nat_lt, ◌&&◌}
use Rattle.std.proofs.lemmas.Bool.Decides.{nat_tests}
use Rattle.std.specs.Prelude.{filter_map, if◌then◌else◌, ◌==◌, ◌||◌}
use Rattle.std.specs.List.{range_with_len, cons_option}
use Rattle.std.specs.FinMap as table
use Rattle.std.specs.FinSet as set
use Rattle.std.specs.Ordering.{nat_cmp}
use Rattle.std.specs.declared.cmp.Ordering.{Ordering}
use Rattle.std.specs.declared.cmp.Ordering.TheVariants.{Less, Equal, Greater}
use Rattle.std.proofs.lemmas.List.Elements.{All-nil, All-cons}
use Rattle.std.proofs.lemmas.Nat.{mod_below}
use Rattle.seam_node_steps.specs.Prelude.{Division, cells_of, leaf_at, Cells, Stepped, AllBelow, Input, Task, From, OrderView, next_item}
use Rattle.seam_node_steps.specs.Prelude.{Boundaries, Bounds, bounds_in, boundaries_of, renewed, renewed_if, are_newer}
use Rattle.seam_node_steps.specs.Prelude.{comes_late}
use Rattle.seam_node_steps.specs.Prelude.{listed_if}
use Rattle.seam_node_steps.specs.Prelude.{Call as CallData, Order, GhostCopy, Shown, order_of, RealView, WitnessView, Msg, Hand}
use Rattle.seam_node_steps.specs.Prelude.{Current, GhostSet, GhostDrop, Tick, Reap, Here, cell_count, base_of, peers_of}
use Rattle.seam_node_steps.specs.Prelude.{ready_order, copy_of_real, executed, executed_ready, with_offer, shows, Slot, NextPlace, SlotStep}
use Rattle.seam_node_steps.specs.Prelude.{rests, unless_stray, becomes, told, told_unless, ghost_message, ghost_messages, home_after, stays}
use Rattle.seam_node_steps.specs.Prelude.{goes, gone_to, settled_by, settled, about, slot_steps, survey_task, ready_call_task, Known}
use Rattle.seam_node_steps.specs.Prelude.{numbered, look_by, look_task, CellView, cell_steps, cell_task, ready_next, look_next, cell_hears}
use Rattle.seam_node_steps.specs.Prelude.{ready_entity, known_to, slot_of, BaseView, PartView, RouteView, with_part, base_steps, NodeView}
use Rattle.seam_node_steps.specs.Prelude.{node_steps, node_peers, Cell, Base, IsCell, IsBase, IsNode}
use Rattle.seam_tree.proofs.Leaves.{leaf_is_cell}
use Rattle.seam_call.specs.declared.order.Order.TheVariants as order
use Rattle.seam_entity.specs.declared.message.Msg.TheVariants.{Call}
use Rattle.seam_node_steps.specs.CellCases
use Rattle.seam_node_steps.specs.Cells
use Rattle.seam_node_steps.specs.BaseCases as BaseCases

abbrev pub Below : {M : Type 0} → ℕ → List (ℕ × M) → Type 0
Below n [] = Unit {0}
Below n (p ∷ ps) = (p.0 < n) × Below n ps

to_all : {M : Type 0} (n : ℕ) (ps : List (ℕ × M)) → Below n ps → AllBelow n ps
to_all n [] h = All-nil (λ p. p.0 < n)
to_all n (p ∷ ps) h = All-cons (λ p. p.0 < n) p ps h.0 (to_all n ps h.1)

append_below : {M : Type 0} (n : ℕ) (ps qs : List (ℕ × M)) → Below n ps → Below n qs → Below n (ps ++ qs)
append_below n [] qs h k = k
append_below n (p ∷ ps) qs h k = (h.0, append_below n ps qs h.1 k)

abbrev SomeBelow : {M : Type 0} → ℕ → Option (ℕ × M) → Type 0
SomeBelow n None = Unit {0}
SomeBelow n (Some p) = p.0 < n

cons_below : {M : Type 0} (n : ℕ) (o : Option (ℕ × M)) (ps : List (ℕ × M)) → SomeBelow n o → Below n ps → Below n (cons_option o ps)
cons_below n None ps h k = k
cons_below n (Some p) ps h k = (h, k)

-- what is sent for some numbers of a range
chosen_below : {M : Type 0} (n a len : ℕ) (f : ℕ → Option (ℕ × M)) → ((k : ℕ) → k < a + len → SomeBelow n (f k)) →
    Below n (filter_map f (range_with_len a len))
chosen_below n a zero f h = tt
chosen_below n a (suc len) f h =
    cons_below n (f a) (filter_map f (range_with_len (a + 1) len)) (h a (omega arith))
    (chosen_below n (a + 1) len f (λ k lt. h k (omega (arith, lt))))

-- what is sent for each number of a range
spread_below : {M : Type 0} (n a len : ℕ) (f : ℕ → M) → a + len ≤ n → Below n (map (λ k. (k, f k)) (range_with_len a len))
spread_below n a zero f h = tt
spread_below n a (suc len) f h = (omega (arith, h), spread_below n (a + 1) len f (omega (arith, h)))

drop_below : (n k : ℕ) (b : Bool) (m : Msg) → k < n → SomeBelow n (CellCases.drop_if b k m)
drop_below n k true m h = h
drop_below n k false m h = tt

told_below : (n k : ℕ) (b : Bool) (m : Option Msg) → k < n → SomeBelow n (told_unless b k m)
told_below n k true m h = tt
told_below n k false None h = tt
told_below n k false (Some m) h = h

leaf_in : (t : Division) (p : _) → cells_of t ≤ cell_count → leaf_at t p < cell_count
leaf_in t p most = let low = leaf_is_cell t p in omega (arith, low, most)

module _ (h : Here) (me_in : h.me < cell_count) (some : 1 ≤ h.settings.bases) (t : Boundaries)
    (few : cells_of t.tree ≤ cell_count) where
  abbrev pub NextIn : Option NextPlace → Type 0
  NextIn o = (n : NextPlace) → o ≡ Some n → n.cell < cell_count

  abbrev pub StepIn : Option Slot → Type 0
  StepIn None = Unit {0}
  StepIn (Some s) = NextIn s.next

  -- a step of a slot sends to nodes of the net, and leaves a next place that is a cell
  pub record IsGood (s : SlotStep) : Type 0 where
    pub sends : Below (peers_of h) s.sent
    pub next : StepIn s.slot

  good_rests : IsGood rests
  good_rests = record { sends = tt; next = tt }

  pub good_unless : (b : Bool) (s : SlotStep) → IsGood s → IsGood (unless_stray b s)
  good_unless true s g = good_rests
  good_unless false s g = g

  good_becomes : (s : Slot) → NextIn s.next → IsGood (becomes s)
  good_becomes s n = record { sends = tt; next = n }

  ghosts_below : (r : RealView) (j : ℕ) (haunts : Cells) (changed : Bool) → Below (peers_of h) (ghost_messages h r j haunts changed)
  ghosts_below r j haunts changed =
      chosen_below (peers_of h) 0 cell_count (ghost_message h r j haunts changed)
      (λ k lt. told_below (peers_of h) k ((k == h.me) || (k == j))
      (told r.entity (r.beat + 1) (copy_of_real h r) (set.contains haunts k) (set.contains r.haunts k) changed) (omega (arith, lt)))

  good_stays : (s : Slot) (r : RealView) (changed : Bool) → NextIn s.next → IsGood (stays h t.tree s r changed)
  good_stays s r changed n = record { sends = ghosts_below r h.me _ changed; next = n }

  one_in : (x n : NextPlace) → x.cell < cell_count → Some x ≡ Some n → n.cell < cell_count
  one_in x n lt e = let same : x ≡ n = cc in let cell = ap (λ y. y.cell) same in omega (arith, cell, lt)

  good_gone : (s : Slot) (r : RealView) (j : ℕ) (haunts : Cells) (sent : List (ℕ × Msg)) → Below (peers_of h) sent → j < cell_count →
      IsGood (gone_to h t s r j haunts sent)
  good_gone s r j haunts sent below lt = record {
    sends = append_below (peers_of h) sent _ below (omega (arith, lt), tt);
    next = λ n e. one_in (record { cell = j; generation = r.generation + 1 }) n lt e;
  }

  good_goes : (s : Slot) (r : RealView) (changed : Bool) (j : ℕ) → j < cell_count → IsGood (goes h t s r changed j)
  good_goes s r changed j lt = good_gone s r j _ _ (ghosts_below r j _ changed) lt

  home_in : (b : Bool) (leaf : ℕ) → leaf < cell_count → (if b then h.me else leaf) < cell_count
  home_in true leaf lt = me_in
  home_in false leaf lt = lt

  good_by : (b : Bool) (s : Slot) (r : RealView) (changed : Bool) (j : ℕ) → NextIn s.next → j < cell_count →
      IsGood (settled_by b h t s r changed j)
  good_by true s r changed j n lt = good_stays s r changed n
  good_by false s r changed j n lt = good_goes s r changed j lt

  good_settled : (s : Slot) (r : RealView) (changed : Bool) → NextIn s.next → IsGood (settled h t s r changed)
  good_settled s r changed n = good_by _ s r changed (home_after h t.tree r.state.pos) n
      (home_in _ (leaf_at t.tree r.state.pos) (leaf_in t.tree r.state.pos few))

  good_offered : (s : Slot) (r : RealView) (k : CallData) (o : Ordering) → NextIn s.next → IsGood (CellCases.offered h t s r k o)
  good_offered s r k Less n = good_rests
  good_offered s r k Equal n = good_settled s (executed h r k) (shows h r k) n
  good_offered s r k Greater n = good_becomes (record s { real = Some (with_offer r k) }) n

  good_passed : (k : CallData) (o : Option NextPlace) → NextIn o → IsGood (CellCases.call_next_place k o)
  good_passed k None n = good_rests
  good_passed k (Some x) n = let lt = n x refl in record { sends = (omega (arith, lt), tt); next = tt }

  good_call : (s : Slot) (k : CallData) (o : Option RealView) → NextIn s.next → IsGood (CellCases.call h t s k o)
  good_call s k (Some r) n = good_offered s r k (nat_cmp k.number (order_of r.orders k.sender).next) n
  good_call s k None n = good_passed k s.next n

  none_in : NextIn None
  none_in n e = cc

  good_hand : (s : Slot) (r : RealView) → IsGood (CellCases.hand_over_comes h s r)
  good_hand s r = record {
    sends = spread_below (peers_of h) cell_count h.settings.bases (λ b. Current r.entity h.me r.generation) (omega arith);
    next = none_in;
  }

  good_set : (s : Slot) (beat : ℕ) (c : GhostCopy) (o : Option RealView) → NextIn s.next → IsGood (CellCases.ghost_set s beat c o)
  good_set s beat c None n = record { sends = tt; next = n }
  good_set s beat c (Some r) n = good_rests

  good_reap : (s : Slot) (o : Option RealView) → NextIn s.next → IsGood (CellCases.reap s o)
  good_reap s (Some r) n = record {
    sends = chosen_below (peers_of h) 0 cell_count (CellCases.drop_at r)
        (λ k lt. drop_below (peers_of h) k (set.contains r.haunts k) (GhostDrop r.entity (r.beat + 1)) (omega (arith, lt)));
    next = n;
  }
  good_reap s None n = good_rests

  good_case : (s : Slot) (m : Msg) → NextIn s.next → IsGood (CellCases.case_of h t s m)
  good_case s (Call k) n = good_call s k s.real n
  good_case s (Hand r o) n = good_hand s r
  good_case s (GhostSet e b c) n = good_set s b c s.real n
  good_case s (GhostDrop e b) n = record { sends = tt; next = n }
  good_case s (Reap e) n = good_reap s s.real n
  good_case s _ n = good_rests

  pub good_slot : (s : Slot) (m : Msg) → NextIn s.next → IsGood (slot_steps h t s m)
  good_slot s m n = good_unless _ _ (good_case s m n)

  -- ---- tasks

  numbered_below : (b e n : ℕ) (ss : List Shown) → b < peers_of h → Below (peers_of h) (numbered b e n ss)
  numbered_below b e n [] lt = tt
  numbered_below b e n (s ∷ ss) lt = (lt, numbered_below b e (n + 1) ss lt)

  good_look_by : (s : Slot) (r : RealView) (o : Option WitnessView) (known : List Known) → NextIn s.next → IsGood (look_by h s r o known)
  good_look_by s r (Some w) known n = let lt =
      mod_below r.entity h.settings.bases some
      in record { sends = numbered_below (base_of h r.entity) r.entity w.sent _ (omega (arith, lt)); next = n }
  good_look_by s r None known n = good_rests

  pub good_look : (s : Slot) (o : Option RealView) (known : List Known) → NextIn s.next → IsGood (look_task h s o known)
  good_look s (Some r) known n = good_look_by s r r.witness known n
  good_look s None known n = good_rests

  pub good_survey : (s : Slot) (o : Option RealView) → NextIn s.next → IsGood (survey_task h t s o)
  good_survey s (Some r) n = good_settled s r false n
  good_survey s None n = good_rests

  good_executes : (s : Slot) (r : RealView) (o : ℕ × OrderView CallData) (k : Option CallData) → NextIn s.next →
      IsGood (CellCases.executes_ready h t s r o k)
  good_executes s r o (Some k) n = good_settled s (executed_ready h r o k) (shows h r k) n
  good_executes s r o None n = good_rests

  good_ready_in : (s : Slot) (r : RealView) (o : Option (ℕ × OrderView CallData)) → NextIn s.next → IsGood (CellCases.ready_in h t s r o)
  good_ready_in s r (Some o) n = good_executes s r o (next_item o.1) n
  good_ready_in s r None n = good_rests

  pub good_ready : (s : Slot) (o : Option RealView) → NextIn s.next → IsGood (ready_call_task h t s o)
  good_ready s (Some r) n = good_ready_in s r (ready_order r.orders) n
  good_ready s None n = good_rests

-- ---- cells

module _ (c : CellView) (is : IsCell c) where
  pub cell_surveys : (e : ℕ) → IsGood c.here is.me_in is.bases (boundaries_of c) is.cells (Cells.surveys c e (table.get c.reals e))
  cell_surveys e = good_unless c.here is.me_in is.bases (boundaries_of c) is.cells _ _
      (good_survey c.here is.me_in is.bases (boundaries_of c) is.cells (slot_of c e) (table.get c.reals e) (is.nexts e))

  pub cell_calls_ready : (e : ℕ) → IsGood c.here is.me_in is.bases (boundaries_of c) is.cells (Cells.calls_ready c e (table.get c.reals e))
  cell_calls_ready e = good_unless c.here is.me_in is.bases (boundaries_of c) is.cells _ _
      (good_ready c.here is.me_in is.bases (boundaries_of c) is.cells (slot_of c e) (table.get c.reals e) (is.nexts e))

  pub cell_looks : (e : ℕ) → IsGood c.here is.me_in is.bases (boundaries_of c) is.cells
      (Cells.looks_around c e (table.get c.reals e) (known_to c e))
  cell_looks e = good_unless c.here is.me_in is.bases (boundaries_of c) is.cells _ _
      (good_look c.here is.me_in is.bases (boundaries_of c) is.cells (slot_of c e) (table.get c.reals e) (known_to c e) (is.nexts e))

  pub cell_slot : (e : ℕ) (m : Msg) → IsGood c.here is.me_in is.bases (boundaries_of c) is.cells
      (slot_steps c.here (boundaries_of c) (slot_of c e) m)
  cell_slot e m = good_slot c.here is.me_in is.bases (boundaries_of c) is.cells (slot_of c e) m (is.nexts e)

  look_below : (es : List ℕ) → Below (peers_of c.here) (look_next c es).sent
  look_below [] = tt
  look_below (e ∷ es) = (cell_looks e).sends

  ready_below : (o : Option ℕ) → Below (peers_of c.here) (ready_next c o).sent
  ready_below (Some e) = (cell_calls_ready e).sends
  ready_below None = look_below c.looks

  task_below : (es : List ℕ) → Below (peers_of c.here) (cell_task c es).sent
  task_below (e ∷ es) = (cell_surveys e).sends
  task_below [] = ready_below (ready_entity c)

  listed_below : (b : Bool) (e : ℕ) (t : Stepped CellView Msg) → Below (peers_of c.here) t.sent →
      Below (peers_of c.here) (listed_if b e t).sent
  listed_below true e t h = h
  listed_below false e t h = h

  hears_below : (m : Msg) (o : Option ℕ) → Below (peers_of c.here) (cell_hears c m o).sent
  hears_below m (Some e) = listed_below (comes_late c m) e _ (cell_slot e m).sends
  hears_below m None = tt

-- boundaries that come: the cell knows the same and is as valid
renewed_here_by : (d : Bool) (c : CellView) (b : Boundaries) → (renewed_if d c b).here ≡ c.here
renewed_here_by true c b = refl
renewed_here_by false c b = refl

pub renewed_here : (c : CellView) (o : Option Boundaries) → (renewed c o).here ≡ c.here
renewed_here c None = refl
renewed_here c (Some b) = renewed_here_by (are_newer c b) c b

few_of : (x y : Bool) (n : ℕ) → (x && (y && nat_le n cell_count)) ≡ true → n ≤ cell_count
few_of true true n h = grind (arith, nat_tests, h)
few_of true false n h = cc
few_of false y n h = cc

renewed_valid_by : (d : Bool) (c : CellView) (b : Boundaries) → are_newer c b ≡ d → IsCell c → IsCell (renewed_if d c b)
renewed_valid_by true c b newer is = record {
  me_in = is.me_in;
  bases = is.bases;
  cells = few_of (nat_lt c.number b.number) (b.tree.size == c.here.settings.size) (cells_of b.tree) newer;
  nexts = is.nexts;
  keys = is.keys;
}
renewed_valid_by false c b newer is = is

pub renewed_valid : (c : CellView) (o : Option Boundaries) → IsCell c → IsCell (renewed c o)
renewed_valid c None is = is
renewed_valid c (Some b) is = renewed_valid_by (are_newer c b) c b refl is

cell_targets : (c : CellView) → IsCell c → (i : Input Msg) → AllBelow (peers_of c.here) (cell_steps c i).sent
cell_targets c is Task = to_all (peers_of c.here) _ (task_below c is c.survey)
cell_targets c is (From a m) =
    let d = renewed c (bounds_in m) in
    to_all (peers_of c.here) _
    (subst (λ h. Below (peers_of h) (cell_hears d m (about m)).sent) (renewed_here c (bounds_in m))
    (hears_below d (renewed_valid c (bounds_in m) is) m (about m)))

-- ---- base nodes

module _ (b : BaseView) (is : IsBase b) where
  unless_below : (d : Bool) (t : Stepped BaseView Msg) → Below (peers_of b.here) t.sent →
      Below (peers_of b.here) (BaseCases.unless_stray d b t).sent
  unless_below true t h = tt
  unless_below false t h = h

  on_route_below : (o : Option RouteView) (m : Msg) → ((r : RouteView) → o ≡ Some r → r.cell < cell_count) →
      Below (peers_of b.here) (BaseCases.on_route o m)
  on_route_below None m n = tt
  on_route_below (Some r) m n = let lt = n r refl in (omega (arith, lt), tt)

  base_below : (d : Bool) (os : List Order) (k : CallData) →
      Below (peers_of b.here) (BaseCases.base_order d (record b { orders = os }) k).sent
  base_below true os k = tt
  base_below false os k = let lt = mod_below k.entity b.here.settings.bases is.bases in (omega (arith, lt), tt)

  order_below : (os : List Order) (o : Order) → Below (peers_of b.here) (BaseCases.order_of_node (record b { orders = os }) o).sent
  order_below os (order.Cell k) = on_route_below (table.get b.routes k.entity) (Call k) (is.routes k.entity)
  order_below os (order.Base k) = base_below (BaseCases.is_base_node_of b.here k.entity) os k
  order_below os order.Tick = let most = is.cells in spread_below (peers_of b.here) 0 b.cells (λ k. Tick) (omega (arith, most))
  order_below os (order.Bounds x) = let most = is.cells in spread_below (peers_of b.here) 0 b.cells (λ k. Bounds x) (omega (arith, most))
  order_below os (order.Reap e) = on_route_below (table.get b.routes e) (Reap e) (is.routes e)

  proxy_below : (o : Option (ℕ × PartView)) → Below (peers_of b.here) (BaseCases.proxy_task b o).sent
  proxy_below None = tt
  proxy_below (Some p) = unless_below (not (BaseCases.may_show p.1.proxy))
      (BaseCases.sends_none (with_part b p.0 (BaseCases.after_showing p.1 p.1.proxy))) tt

  without_below : (o : Option (ℕ × PartView)) → Below (peers_of b.here) (BaseCases.task_without_orders b o).sent
  without_below (Some p) = unless_below (not (BaseCases.may_execute p.1))
      (BaseCases.sends_none (with_part b p.0 (BaseCases.after_ready b.here p.1 (ready_order p.1.orders)))) tt
  without_below None = proxy_below (BaseCases.ready_proxy b)

  base_task_below : (os : List Order) → Below (peers_of b.here) (BaseCases.base_task b os).sent
  base_task_below (o ∷ os) = unless_below (BaseCases.stray_order b o) (BaseCases.order_of_node (record b { orders = os }) o)
      (order_below os o)
  base_task_below [] = without_below (BaseCases.ready_part b)

  base_targets : (i : Input Msg) → AllBelow (peers_of b.here) (base_steps b i).sent
  base_targets Task = to_all (peers_of b.here) _ (base_task_below b.orders)
  base_targets (From a m) = to_all (peers_of b.here) _
      (unless_below (BaseCases.is_stray b m) (BaseCases.sends_none (BaseCases.case_of b m)) tt)

-- a step of any node sends to nodes of the net
pub node_targets : (s : NodeView) (i : Input Msg) → IsNode s → AllBelow (node_peers s) (node_steps s i).sent
node_targets (Cell c) i is = cell_targets c is i
node_targets (Base b) i is = base_targets b is i
