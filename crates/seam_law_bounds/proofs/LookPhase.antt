-- The phase of looks ends.
use Rattle.seam_law_bounds.proofs.Prelude.{◌≡◌, ℕ, zero, suc, ◌+◌, ◌*◌, ◌≤◌, Bool, true, false, cond, List, [], ◌∷◌, length, Option, None}
use Rattle.seam_law_bounds.proofs.Prelude.{Some, refl, sym, ap, ◌∙◌, subst, arith, slice_get, AllByRecursion, range_with_len, slice_get-map}
use Rattle.seam_law_bounds.proofs.Prelude.{link, EachNode, total, Event, Call as CallData, Order, RealView, has_ready, may_execute}
use Rattle.seam_law_bounds.proofs.Prelude.{cell_count, Msg, CellView, BaseView, PartView, stray_order, NodeView, World, node_has_work, Cell}
use Rattle.seam_law_bounds.proofs.Prelude.{Base, ordered_at, look_loaded, slot_at, letters_of, more_letter, Frame, IsInFrame, mine}
use Rattle.seam_law_bounds.proofs.Prelude.{order_concerns, orders_of, has_of, has_none, entity_flow, base_call_in, base_call_of}
use Rattle.seam_law_bounds.proofs.Prelude.{calls_ordered, RunsTo, IsBetweenRounds, Sizes, look_weight, tick_weight, part_weight}
use Rattle.seam_law_bounds.proofs.Prelude.{world_weight, BaseCan, AllCan, is_pass, LooksFit, ClientsKeepRoom, Always, HoldsNothing}
use Rattle.seam_law_bounds.proofs.Prelude.{events_of_looks, quiet_tasks, weight_or, node_there, look_framed, tick, frame_leads, look_tasks}
use Rattle.seam_law_bounds.proofs.Prelude.{IsTickOrder, all_weaker}
use Rattle.std.specs.FinMap as table
use Rattle.seam_call.specs.declared.order.Order.TheVariants as order
use Rattle.seam_entity.specs.declared.message.Msg.TheVariants.{Call}
use Rattle.seam_law_bounds.proofs.Bare.{part_calls, IsUncalled, uncalled_leads}
use Rattle.seam_law_bounds.proofs.Batched.{OrderIs, calls_are}
use Rattle.seam_law_bounds.proofs.Cans.{none_is_ready, can_look}
use Rattle.seam_law_rounds.proofs.Framing.{known_at}
use Rattle.seam_law_bounds.proofs.Given.{orders_add}
use Rattle.seam_law_bounds.proofs.LoadedNodes.{IsBlank, idle_blank, plain_by, blank_is_plain}
use Rattle.seam_law_bounds.proofs.NetWeights.{run_ends}
use Rattle.seam_law_bounds.proofs.NoPasses.{no_pass_by, passes_none}
use Rattle.seam_law_bounds.proofs.Ordered.{OrdersAre, orders_lead}
use Rattle.seam_law_bounds.proofs.QuietWeights.{empty_links, quiet_weighs}
use Rattle.seam_law_bounds.proofs.Starts.{IsPlain, parts_none}
use Rattle.seam_law_calls.proofs.Holds.{not_false}

-- nothing
no_sizes : Sizes
no_sizes = record { bases = 0; lines = 0; witnesses = λ k. 0 }

-- what is fixed in the phase of looks, where cell k has `witnesses k` witnesses and looks have at most so many lines for others
abbrev pub sizes_of_looks : Frame → ℕ → (ℕ → ℕ) → Sizes
sizes_of_looks f lines witnesses = record { bases = f.settings.bases; lines = lines; witnesses = witnesses }

-- what a tick order weighs
ticks_sum : (z : Sizes) (from len : ℕ) →
    total (tick_weight z) (range_with_len from len) ≡ len + total z.witnesses (range_with_len from len) * look_weight z
ticks_sum z from zero = let none = nothing (look_weight z) in omega (arith, none)
  where
    nothing : (c : ℕ) → 0 * c ≡ 0
    nothing c = omega arith
ticks_sum z from (suc len) =
    step (z.witnesses from) (total z.witnesses (range_with_len (from + 1) len)) (look_weight z) len _ (ticks_sum z (from + 1) len)
  where
    step : (a b c n r : ℕ) → r ≡ n + b * c → (1 + a * c) + r ≡ suc n + (a + b) * c
    step a b c n r h = grind (arith, h)

tick_is_free : (b : BaseView) (o : Order) → IsTickOrder o → stray_order b o ≡ false
tick_is_free b order.Tick h = refl
tick_is_free b _ h = absurd h

tick_calls : (o : Order) → IsTickOrder o → OrderIs (λ c. ⊥) o
tick_calls (order.Cell c) h = absurd h
tick_calls _ h = tt

tick_is_none : (o : Order) → IsTickOrder o → base_call_of o ≡ None
tick_is_none (order.Base c) h = absurd h
tick_is_none _ h = refl

calls_by : (e : ℕ) (o : Order) (os : List Order) (d : Bool) → IsTickOrder o → letters_of base_call_of os ≡ [] →
    letters_of base_call_of (cond d (o ∷ os) os) ≡ []
calls_by e o os true h none = ap (λ x. more_letter x (letters_of base_call_of os)) (tick_is_none o h) ∙ none
calls_by e o os false h none = none

calls_none : (e : ℕ) (os : List Order) → AllByRecursion IsTickOrder os → letters_of base_call_of (orders_of e os) ≡ []
calls_none e [] h = refl
calls_none e (o ∷ os) h = calls_by e o (orders_of e os) (order_concerns e o) h.0 (calls_none e os h.1)

module _ (f : Frame) (u : World) (between : IsBetweenRounds f u) (none : HoldsNothing u) where
  abbrev start : World
  start = look_loaded u

  pub frame_start : IsInFrame f start
  frame_start = look_framed f u between.nodes tick refl

  pub plain_start : EachNode (λ k s. IsPlain IsTickOrder s) start.nodes
  plain_start k t at =
      let was = node_there (slice_get u.nodes k) (ordered_at tick) t (sym (slice_get-map (ordered_at tick) u.nodes k) ∙ at) in
      let blank : IsBlank was.0 =
      idle_blank was.0 (quiet_tasks node_has_work u between.quiet k was.0 was.1) (λ n is. none k n (was.1 ∙ ap Some is)) in
      subst (IsPlain IsTickOrder) was.2 (plain_by IsTickOrder tick was.0 tt (blank_is_plain IsTickOrder was.0 blank))

  orders_of_plain : (s : NodeView) → IsPlain IsTickOrder s → OrdersAre IsTickOrder s
  orders_of_plain (Cell c) h = tt
  orders_of_plain (Base b) h = h.0

  orders_start : EachNode (λ k s. OrdersAre IsTickOrder s) start.nodes
  orders_start k s at = orders_of_plain s (plain_start k s at)

  pub empty_start : (x y : ℕ) → link start.rows x y ≡ []
  empty_start x y = empty_links no_sizes f u between none x y

  -- ---- no base part is called

  node_uncalled : (e : ℕ) (s : NodeView) → OrdersAre IsTickOrder s → calls_ordered (has_of e s).base ≡ []
  node_uncalled e (Cell c) h = refl
  node_uncalled e (Base b) h = calls_none e b.orders h

  slot_uncalled : (e k : ℕ) (o : Option NodeView) → slice_get start.nodes k ≡ o → calls_ordered (slot_at (has_of e) has_none o).base ≡ []
  slot_uncalled e k None at = refl
  slot_uncalled e k (Some s) at = node_uncalled e s (orders_start k s at)

  none_held : (o : Option PartView) → weight_or part_weight o ≡ 0 → weight_or part_calls o ≡ 0
  none_held None h = refl
  none_held (Some p) h = omega (arith, h)

  uncalled_start : (e : ℕ) → IsUncalled f e start
  uncalled_start e = record {
    frame = frame_start;
    calls = record {
      orders = λ k. slot_uncalled e k (slice_get start.nodes k) refl;
      letters = λ a k.
          subst (AllByRecursion (λ m. base_call_in m ≡ None)) (sym (ap (letters_of (mine e)) (empty_start a k))) tt;
    };
    parts = λ k. none_held ((entity_flow e start).slot k).base.part (parts_none IsTickOrder start plain_start e k);
  }

  module _ (vs : List Event) (v : World) (run : RunsTo start vs v) where
    frame_then : IsInFrame f v
    frame_then = frame_leads f start v vs frame_start run

    part_by : (k : ℕ) (b : BaseView) → slice_get v.nodes k ≡ Some (Base b) → (e : ℕ) (p : PartView) → table.get b.parts e ≡ Some p →
        has_ready p.orders ≡ true → ⊥
    part_by k b node e p at ready =
        let zero = (uncalled_leads f e start v vs (uncalled_start e) run).parts k in
        let same = ap (λ o. weight_or part_calls (slot_at (has_of e) has_none o).base.part) node in
        let its = ap (weight_or part_calls) at in
        none_is_ready b.here (record p { proxy = None }) (omega (arith, zero, same, its)) ready

    base_then : ClientsKeepRoom v → (k : ℕ) (b : BaseView) → slice_get v.nodes k ≡ Some (Base b) → BaseCan b
    base_then client k b node = record {
      orders = λ o os is.
          tick_is_free b o (subst (AllByRecursion IsTickOrder) is (orders_lead IsTickOrder start v vs orders_start run k (Base b) node)).0;
      parts = λ e p at ready. absurd (part_by k b node e p at ready);
      clients = λ e p at ready. client k b node e p at ready;
    }

    cell_then : (k : ℕ) (c : CellView) → slice_get v.nodes k ≡ Some (Cell c) → (e : ℕ) (r : RealView) → table.get c.reals e ≡ Some r →
        has_ready r.orders ≡ true → may_execute r ≡ true
    cell_then k c node e r at ready = not_false (may_execute r) ((look_tasks f u between vs v run k c node).ready e r at ready)

    no_call_comes : (a k : ℕ) (c : CallData) (ms : List Msg) → link v.rows a k ≡ Call c ∷ ms → ⊥
    no_call_comes a k c ms at =
        calls_are (λ c. ⊥) f start v vs frame_start (λ k s is. ticks_call s (orders_start k s is)) empty_start run a k c ms at
      where
        ticks_call : (s : NodeView) → OrdersAre IsTickOrder s → OrdersAre (OrderIs (λ c. ⊥)) s
        ticks_call (Cell c) h = tt
        ticks_call (Base b) h = all_weaker IsTickOrder (OrderIs (λ c. ⊥)) b.orders tick_calls h

    no_pass : (x : Event) → is_pass v x ≡ false
    no_pass x = no_pass_by v x (λ a c ms at. no_call_comes a x.node c ms at)

  -- ---- how long the phase is

  module _ (n : ℕ) (wits : ℕ → ℕ) (few : Always (LooksFit (sizes_of_looks f n wits)) start) where
    abbrev z : Sizes
    z = sizes_of_looks f n wits

    abbrev most : ℕ
    most = events_of_looks n (total wits (range_with_len 0 cell_count))

    start_weighs : world_weight z start ≤ most
    start_weighs =
        let at_start = orders_add z f (tick ∷ []) u (λ k s at. known_at f k s (between.nodes.nodes k s at)) in
        let quiet = quiet_weighs z f u between none in
        let sum = ticks_sum z 0 cell_count in
        omega (arith, at_start, quiet, sum)

    -- where each client keeps room
    module _ (shows : Always ClientsKeepRoom start) where
      can : AllCan z start
      can v vs run x o =
          can_look z f v (omega arith) (frame_then vs v run) (few v vs run) (cell_then vs v run)
          (base_then vs v run (shows v vs run)) x.node o.node o.input o.is_node

      pub looks_end : (vs : List Event) (v : World) → RunsTo start vs v → length vs ≤ most
      looks_end vs v run =
          let long = run_ends z f start frame_start can v vs run in
          let passed = passes_none start (λ x ds on. no_pass ds x on) vs run.each in
          let weighs = start_weighs in
          omega (arith, long, passed, weighs)
