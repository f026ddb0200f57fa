-- Over every list of events cells know, and witnesses view, no other entities than those at the start.
use Rattle.seam_law_bounds.proofs.Prelude.{◌≡◌, ℕ, Bool, true, false, cond, List, [], ◌∷◌, drop, Option, None, Some, refl, sym, subst}
use Rattle.seam_law_bounds.proofs.Prelude.{arith, not, slice_get, AllByRecursion, range_with_len, nat_cmp, eq_by_cmp, nat_tests, Stepped}
use Rattle.seam_law_bounds.proofs.Prelude.{link, letter, input_from, EachNode, Input, Task, From, Call as CallData, Order, Msg, Reap, Slot}
use Rattle.seam_law_bounds.proofs.Prelude.{SlotStep, slot_after, about, slot_steps, stray_survey, stray_ready_call, stray_look, CellView}
use Rattle.seam_law_bounds.proofs.Prelude.{slot_of, stepped, known_to, surveys, calls_ready, looks_around, ready_entity, look_next}
use Rattle.seam_law_bounds.proofs.Prelude.{ready_next, cell_task, cell_steps, BaseView, PartView, RouteView, on_route, base_order}
use Rattle.seam_law_bounds.proofs.Prelude.{is_base_node_of, tick_to, order_of_node, stray_order, ready_part, ready_proxy, proxy_task}
use Rattle.seam_law_bounds.proofs.Prelude.{task_without_orders, base_task, base_steps, may_show, NodeView, World, node_steps, Cell, Base}
use Rattle.seam_law_bounds.proofs.Prelude.{IsCell, IsNode, Frame, IsInFrame, LooksAmong, Always, each_node, each_link, all_append}
use Rattle.seam_law_bounds.proofs.Prelude.{unless_stray, slot_stepped, frame_happens, EachKeeps, runs_keep}
use Rattle.std.specs.FinMap as table
use Rattle.seam_machine.specs.Events.{EachLink}
use Rattle.seam_net_runs.specs.Kept.{StaysTrue}
use Rattle.seam_call.specs.declared.order.Order.TheVariants as order
use Rattle.seam_entity.specs.declared.message.Msg.TheVariants.{Call}
use Rattle.seam_node_steps.specs.BaseCases.{is_stray, may_execute}
use Rattle.seam_node_steps.specs.Prelude.{IsPlain, IsPlainInput, Tick, at_start, boundaries_of, bounds_to, ticked}
use Rattle.seam_node_steps.proofs.Plain.{plainly, steps_plainly}
use Rattle.seam_law_calls.proofs.Classify.{fed_plain, plain_at}
use Rattle.seam_law_bounds.proofs.AmongSlots.{SlotOk, LetterOk, SentOk, StepOk, unless_ok, message_ok, survey_ok, ready_ok, look_ok}
use Rattle.seam_law_bounds.proofs.AmongSlots.{all_mapped}
use Rattle.seam_law_bounds.proofs.LookCounts.{known_named, seen_are_named}

module _ (us ws : List ℕ) where
  abbrev CellOk : CellView → Type 0
  CellOk c = (e : ℕ) → SlotOk us ws e (slot_of c e)

  record CellStepOk (t : Stepped CellView Msg) : Type 0 where
    state : CellOk t.state
    sent : SentOk us ws t.sent

  -- ---- a cell

  either : (q e : ℕ) (b : Bool) → eq_by_cmp nat_cmp q e ≡ b → (s t : Slot) → SlotOk us ws e s → SlotOk us ws q t →
      SlotOk us ws q (cond b s t)
  either q e true is s t a b = let same : e ≡ q = grind (arith, nat_tests, is) in subst (λ j. SlotOk us ws j s) same a
  either q e false is s t a b = b

  stepped_ok : (c : CellView) (e : ℕ) (t : SlotStep) → CellOk c → StepOk us ws e (slot_of c e) t → CellStepOk (stepped c e t)
  stepped_ok c e t ok step = record {
    state = λ q.
        subst (SlotOk us ws q) (sym (slot_stepped c e q t))
        (either q e (eq_by_cmp nat_cmp q e) refl (slot_after t.slot (slot_of c e)) (slot_of c q) step.slot (ok q));
    sent = step.sent;
  }

  module _ (c : CellView) (is : IsCell c) (ok : CellOk c) where
    look_next_ok : (es : List ℕ) → CellStepOk (look_next c es)
    look_next_ok [] = record { state = ok; sent = tt }
    look_next_ok (e ∷ es) =
        let named =
        seen_are_named us c (known_named us c (λ q r at. ((ok q).real r at).named) (λ q x at. (ok q).copy x at)) e in
        stepped_ok (record c { looks = es }) e (looks_around c e (table.get c.reals e) (known_to c e)) ok
        (unless_ok us ws e (stray_look c.here (table.get c.reals e) (known_to c e)) (slot_of c e) _ (ok e)
        (look_ok us ws e c.here (slot_of c e) (ok e) (known_to c e) named (table.get c.reals e) refl))

    ready_next_ok : (o : Option ℕ) → CellStepOk (ready_next c o)
    ready_next_ok None = look_next_ok c.looks
    ready_next_ok (Some e) =
        stepped_ok c e (calls_ready c e (table.get c.reals e)) ok
        (unless_ok us ws e (stray_ready_call (table.get c.reals e)) (slot_of c e) _ (ok e)
        (ready_ok us ws e c.here (boundaries_of c) (slot_of c e) (ok e) (table.get c.reals e) refl (is.keys e)))

    task_ok : (es : List ℕ) → CellStepOk (cell_task c es)
    task_ok [] = ready_next_ok (ready_entity c)
    task_ok (e ∷ es) =
        stepped_ok (record c { survey = es }) e (surveys c e (table.get c.reals e)) ok
        (unless_ok us ws e (stray_survey (table.get c.reals e)) (slot_of c e) _ (ok e)
        (survey_ok us ws e c.here (boundaries_of c) (slot_of c e) (ok e) (table.get c.reals e) refl (is.keys e)))

    ticked_ok : (m : Msg) → CellOk (ticked c m)
    ticked_ok Tick = ok
    ticked_ok _ = ok

    hears_ok : (m : Msg) (o : Option ℕ) → about m ≡ o → LetterOk us ws m → CellStepOk (plainly c m o)
    hears_ok m None at letter = record { state = ticked_ok m; sent = tt }
    hears_ok m (Some e) at letter =
        stepped_ok c e (slot_steps c.here (at_start c.tree) (slot_of c e) m) ok
        (message_ok us ws e c.here (at_start c.tree) (slot_of c e) (ok e) m at letter (is.keys e))

    abbrev InputOk : Input Msg → Type 0
    InputOk Task = Unit {0}
    InputOk (From a m) = LetterOk us ws m

    cell_ok : c.number ≡ 0 → (i : Input Msg) → IsPlainInput i → InputOk i → CellStepOk (cell_steps c i)
    cell_ok first Task fed letter = task_ok c.survey
    cell_ok first (From a m) fed letter = subst CellStepOk (sym (steps_plainly c first a m fed)) (hears_ok m (about m) refl letter)

  -- ---- a base node

  unless_sent : (d : Bool) (b : BaseView) (t : Stepped BaseView Msg) → SentOk us ws t.sent → SentOk us ws (unless_stray d b t).sent
  unless_sent true b t h = tt
  unless_sent false b t h = h

  route_sent : (o : Option RouteView) (m : Msg) → LetterOk us ws m → SentOk us ws (on_route o m)
  route_sent None m h = tt
  route_sent (Some r) m h = (h, tt)

  base_order_sent : (d : Bool) (b : BaseView) (k : CallData) → SentOk us ws (base_order d b k).sent
  base_order_sent true b k = tt
  base_order_sent false b k = (tt, tt)

  order_sent : (b : BaseView) (o : Order) → SentOk us ws (order_of_node b o).sent
  order_sent b (order.Cell k) = route_sent (table.get b.routes k.entity) (Call k) tt
  order_sent b (order.Base k) = base_order_sent (is_base_node_of b.here k.entity) b k
  order_sent b order.Tick = all_mapped (λ p. LetterOk us ws p.1) tick_to (range_with_len 0 b.cells) (λ k. tt)
  order_sent b (order.Bounds x) = all_mapped (λ p. LetterOk us ws p.1) (bounds_to x) (range_with_len 0 b.cells) (λ k. tt)
  order_sent b (order.Reap e) = route_sent (table.get b.routes e) (Reap e) tt

  proxy_sent : (b : BaseView) (o : Option (ℕ × PartView)) → SentOk us ws (proxy_task b o).sent
  proxy_sent b None = tt
  proxy_sent b (Some p) = unless_sent (not (may_show p.1.proxy)) b _ tt

  part_sent : (b : BaseView) (o : Option (ℕ × PartView)) → SentOk us ws (task_without_orders b o).sent
  part_sent b None = proxy_sent b (ready_proxy b)
  part_sent b (Some p) = unless_sent (not (may_execute p.1)) b _ tt

  base_task_sent : (b : BaseView) (os : List Order) → SentOk us ws (base_task b os).sent
  base_task_sent b [] = part_sent b (ready_part b)
  base_task_sent b (o ∷ os) = unless_sent (stray_order b o) b _ (order_sent (record b { orders = os }) o)

  base_sent : (b : BaseView) (i : Input Msg) → SentOk us ws (base_steps b i).sent
  base_sent b Task = base_task_sent b b.orders
  base_sent b (From a m) = unless_sent (is_stray b m) b _ tt

  -- ---- a world

  abbrev NodeOk : NodeView → Type 0
  NodeOk (Cell c) = CellOk c
  NodeOk (Base b) = Unit {0}

  abbrev FedOk : Input Msg → Type 0
  FedOk Task = Unit {0}
  FedOk (From a m) = LetterOk us ws m

  fed_of : (i : Input Msg) (c : CellView) (is : IsCell c) (ok : CellOk c) → FedOk i → InputOk c is ok i
  fed_of Task c is ok h = tt
  fed_of (From a m) c is ok h = h

  node_state : (s : NodeView) (i : Input Msg) → IsNode s → IsPlain s → IsPlainInput i → NodeOk s → FedOk i → NodeOk (node_steps s i).state
  node_state (Cell c) i is first plain ok fed = (cell_ok c is ok first i plain (fed_of i c is ok fed)).state
  node_state (Base b) i is first plain ok fed = tt

  node_sent : (s : NodeView) (i : Input Msg) → IsNode s → IsPlain s → IsPlainInput i → NodeOk s → FedOk i →
      SentOk us ws (node_steps s i).sent
  node_sent (Cell c) i is first plain ok fed = (cell_ok c is ok first i plain (fed_of i c is ok fed)).sent
  node_sent (Base b) i is first plain ok fed = base_sent b i

  abbrev LinkOk : ℕ → ℕ → List Msg → Type 0
  LinkOk a b l = AllByRecursion (λ m. LetterOk us ws m) l

  stays_true : (k : ℕ) (ps : List (ℕ × Msg)) → SentOk us ws ps → StaysTrue LinkOk k ps
  stays_true k [] h = tt
  stays_true k (p ∷ ps) h = (λ l ok. all_append (λ m. LetterOk us ws m) l (p.1 ∷ []) ok (h.0, tt), stays_true k ps h.1)

  dropped : (l : List Msg) → AllByRecursion (λ m. LetterOk us ws m) l → AllByRecursion (λ m. LetterOk us ws m) (drop 1 l)
  dropped [] h = tt
  dropped (m ∷ ms) h = h.1

  first_ok : (a : ℕ) (l : List Msg) (i : Input Msg) → letter a l ≡ Some i → AllByRecursion (λ m. LetterOk us ws m) l → FedOk i
  first_ok a [] i is h = cc
  first_ok a (m ∷ ms) Task is h = tt
  first_ok a (m ∷ ms) (From b x) is h = let same : m ≡ x = cc in subst (LetterOk us ws) same h.0

  fed_ok : (w : World) (k : ℕ) (from : Option ℕ) (i : Input Msg) → EachLink LinkOk w.rows → input_from w.rows k from ≡ Some i → FedOk i
  fed_ok w k None Task links is = tt
  fed_ok w k None (From a m) links is = cc
  fed_ok w k (Some a) i links is = first_ok a (link w.rows a k) i is (links a k)

  module _ (f : Frame) where
    record IsOk (w : World) : Type 0 where
      frame : IsInFrame f w
      nodes : EachNode (λ k s. NodeOk s) w.nodes
      links : EachLink LinkOk w.rows

    ok_happens : EachKeeps IsOk
    ok_happens w x o h =
        let valid = h.frame.sound.states x.node o.node o.is_node in
        let node = h.nodes x.node o.node o.is_node in
        let first = plain_at f x.node o.node (h.frame.nodes x.node o.node o.is_node) in
        let plain = fed_plain f w x o h.frame in
        let fed = fed_ok w x.node x.from o.input h.links o.is_fed in
        record {
          frame = frame_happens f w x o h.frame;
          nodes = each_node (λ k s. NodeOk s) node_steps w x o h.nodes (node_state o.node o.input valid first plain node fed);
          links =
              each_link LinkOk node_steps w x o h.links (λ a is. dropped (link w.rows a x.node) (h.links a x.node))
              (stays_true x.node (node_steps o.node o.input).sent (node_sent o.node o.input valid first plain node fed));
        }

    start_node : (w : World) → LooksAmong us (λ k. ws) w → (k : ℕ) (s : NodeView) → slice_get w.nodes k ≡ Some s → NodeOk s
    start_node w h k (Base b) at = tt
    start_node w h k (Cell c) at = λ e.
        record {
          real = λ r there. record {
            named = h.reals k c at e r there;
            witness = λ x has.
                let v = h.views k c at e r x there has in
                record { view = v.0; names = v.1; among = h.witnesses k c at e r x there has };
          };
          copy = λ x there. h.copies k c at e x there;
        }

    -- where no message is on its way at the start, it stays so
    pub always_among : (w : World) → IsInFrame f w → ((a b : ℕ) → link w.rows a b ≡ []) → LooksAmong us (λ k. ws) w →
        Always (LooksAmong us (λ k. ws)) w
    always_among w frame empty h v es run =
        let start : IsOk w = record {
          frame = frame;
          nodes = λ k s at. start_node w h k s at;
          links = λ a b. subst (AllByRecursion (λ m. LetterOk us ws m)) (sym (empty a b)) tt;
        } in
        let then = runs_keep IsOk ok_happens w v es start run in
        record {
          reals = λ k c at e r there. ((then.nodes k (Cell c) at e).real r there).named;
          copies = λ k c at e x there. (then.nodes k (Cell c) at e).copy x there;
          views = λ k c at e r x there has.
              let q = ((then.nodes k (Cell c) at e).real r there).witness x has in
              (q.view, q.names);
          witnesses = λ k c at e r x there has. (((then.nodes k (Cell c) at e).real r there).witness x has).among;
        }
