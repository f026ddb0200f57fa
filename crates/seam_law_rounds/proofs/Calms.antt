-- The phases of reaps and of looks keep the record of base parts.
use Rattle.seam_law_rounds.proofs.Prelude.{◌≡◌, ℕ, ◌+◌, ◌*◌, ◌^◌, ◌<◌, ◌≤◌, ◌⊎◌, Bool, true, false, cond, eqb, List, [], ◌∷◌, ◌++◌, length}
use Rattle.seam_law_rounds.proofs.Prelude.{None, Some, refl, sym, ap, ◌∙◌, subst, arith, inl, inr, slice_get, AllByRecursion, cases_eq}
use Rattle.seam_law_rounds.proofs.Prelude.{nat_tests, filter-append, IsQuiet, items_to, Event, RealView, Msg, Update, base_of, cell_count}
use Rattle.seam_law_rounds.proofs.Prelude.{BaseView, PartView, holders, NodeView, World, node_has_work, Cell, Base, with_nodes, order_if}
use Rattle.seam_law_rounds.proofs.Prelude.{ordered_at, reap_ordered_at, reaps_loaded, look_loaded, limit, may_rise, may_show, letters_of}
use Rattle.seam_law_rounds.proofs.Prelude.{Frame, here_at, IsAt, IsInFrame, mine, times, order_concerns, orders_of, has_of, entity_flow}
use Rattle.seam_law_rounds.proofs.Prelude.{real_of, sent_by, base_burden, home_of, FindsClient, is_tick_order, HasToldAtMost, most_entities}
use Rattle.seam_law_rounds.proofs.Prelude.{IsBlank, SeesFew, HasFewEntities, looks_left, most_shown, update_in, NoUpdateComes, RunsTo}
use Rattle.seam_law_rounds.proofs.Prelude.{real_at, real_in, numbers_of, IsBetweenRounds, each, AreReapable, HasSettledPart}
use Rattle.seam_law_rounds.proofs.Prelude.{HasPartsBetweenRounds, AreFor, lines_of, HasSmallNumbers, IsServed, bare, served, quiet_links}
use Rattle.seam_law_rounds.proofs.Prelude.{quiet_tasks, all_append, counted_none, none_counts, may_execute, part_may_show, version_room}
use Rattle.seam_law_rounds.proofs.Prelude.{base_burden_leads, NoTicks, tells_none, few_leads, frame_leads}
use Rattle.seam_call.specs.declared.order.Order.TheVariants as order
use Rattle.seam_call.specs.declared.shown.Update.{Update as UpdateData}
use Rattle.seam_law_rounds.proofs.Shape.{Somewhere, Nowhere, search_real}
use Rattle.seam_law_rounds.proofs.Calm.{IsSame, IsCalm}
use Rattle.seam_law_rounds.proofs.Starting.{Given, idle_orders}
use Rattle.seam_law_rounds.proofs.Giving.{reaps_framed, look_framed, reaps_given, look_given, reaps_cell, look_cell}
use Rattle.seam_law_rounds.proofs.Phases.{calm_leads, told_is_gone}
use Rattle.seam_law_rounds.proofs.Reaping as reaping
use Rattle.seam_law_rounds.proofs.Reaping.{is_told, none_come}
use Rattle.seam_law_rounds.proofs.Looking as looking
use Rattle.seam_law_rounds.proofs.Looking.{tick, look_makes_none}
use Rattle.seam_law_calls.proofs.Holds.{all_two, below_is}
use Rattle.seam_law_rounds.proofs.Updates.{update_finds}
use Rattle.seam_law_rounds.proofs.Ticking.{most_told, tells_most, tells_few, sees_then, ticks_of, node_ticks, no_ticks, few_turned}
use Rattle.seam_law_rounds.proofs.Ticking.{looks_turned}
use Rattle.seam_law_rounds.proofs.PartLoads.{part_at, parts_ordered}
use Rattle.seam_law_rounds.proofs.Still.{still_settled}
use Rattle.seam_law_rounds.proofs.Serving.{HasItStill, starts, HasNumbers, serves_then, ends}
use Rattle.seam_law_rounds.proofs.Idling.{still_then, few_lines, few_part}
use Rattle.seam_node_steps.specs.Prelude.{noting}

same_type : (r q : RealView) → IsSame r q → r.ty ≡ q.ty
same_type r q is = ap (λ (x : RealView). x.ty) is.1

same_numbers : (r q : RealView) → IsSame r q → numbers_of r ≡ numbers_of q
same_numbers r q is = ap numbers_of is.1

-- an entity without a real
pub zero_of : (f : Frame) (u : World) → IsBetweenRounds f u → (e : ℕ) → Nowhere e u → holders u e ≡ 0
zero_of f u between e n =
    none_counts u e (record {
      slots = n;
      mail = λ x y.
          ap (λ l. letters_of real_of (letters_of (mine e) l)) (quiet_links node_has_work u between.nodes.sound.square between.quiet x y);
    })

no_real : (v : World) (e k : ℕ) (q : RealView) → holders v e ≡ 0 → real_at e v k ≡ Some q → ⊥
no_real v e k q zero at = let z = sym ((counted_none v e zero).slots k) ∙ at in cc

-- ---- reaps give no part

reap_if : (e q : ℕ) (n : BaseView) (b : Bool) → part_at e (Base (order_if b n (order.Reap q))) ≡ part_at e (Base n)
reap_if e q n true = refl
reap_if e q n false = refl

reap_part : (e q : ℕ) (s : NodeView) → part_at e (reap_ordered_at q s) ≡ part_at e s
reap_part e q (Cell c) = refl
reap_part e q (Base n) = reap_if e q (noting q n) (eqb (base_of n.here q) n.here.me)

pub reaps_part : (e : ℕ) (es : List ℕ) (s : NodeView) → part_at e (each reap_ordered_at es s) ≡ part_at e s
reaps_part e [] s = refl
reaps_part e (q ∷ es) s = reaps_part e es (reap_ordered_at q s) ∙ reap_part e q s

reap_not_tick : (e q : ℕ) (n : BaseView) (b : Bool) → NoTicks (has_of e (Base n)).base.orders →
    NoTicks (has_of e (Base (order_if b n (order.Reap q)))).base.orders
reap_not_tick e q n true h =
    subst NoTicks (sym (filter-append (order_concerns e) n.orders (order.Reap q ∷ [])))
    (all_append (λ o. is_tick_order o ≡ false) (orders_of e n.orders) (orders_of e (order.Reap q ∷ [])) h
    (one_not_tick (order_concerns e (order.Reap q))))
  where
    one_not_tick : (c : Bool) → NoTicks (cond c (order.Reap q ∷ []) [])
    one_not_tick true = (refl, tt)
    one_not_tick false = tt
reap_not_tick e q n false h = h

reap_orders : (e q : ℕ) (s : NodeView) → NoTicks (has_of e s).base.orders → NoTicks (has_of e (reap_ordered_at q s)).base.orders
reap_orders e q (Cell c) h = h
reap_orders e q (Base n) h = reap_not_tick e q (noting q n) (eqb (base_of n.here q) n.here.me) h

-- reaps are no ticks
pub reaps_without_ticks : (e : ℕ) (es : List ℕ) (s : NodeView) → NoTicks (has_of e s).base.orders →
    NoTicks (has_of e (each reap_ordered_at es s)).base.orders
reaps_without_ticks e [] s h = h
reaps_without_ticks e (q ∷ es) s h = reaps_without_ticks e es (reap_ordered_at q s) (reap_orders e q s h)

-- the tick is the one order of its node
tick_if : (e : ℕ) (n : BaseView) (b : Bool) → orders_of e n.orders ≡ [] →
    node_ticks e (Base (order_if b n order.Tick)) ≤ length (cond b (order.Tick ∷ []) [])
tick_if e n true none =
    let is = ap ticks_of (filter-append (order_concerns e) n.orders (order.Tick ∷ []) ∙ ap (λ os. os ++ order.Tick ∷ []) none) in
    omega (arith, is)
tick_if e n false none = let is = ap ticks_of none in omega (arith, is)

tick_given : (e : ℕ) (f : Frame) (k : ℕ) (s : NodeView) → IsAt f k s → node_has_work s ≡ false →
    node_ticks e (ordered_at tick s) ≤ length (items_to k (tick ∷ []))
tick_given e f k (Cell c) at idle = omega arith
tick_given e f k (Base n) at idle =
    let few = tick_if e n (eqb cell_count n.here.me) (idle_orders e (Base n) idle) in
    subst (λ j. node_ticks e (ordered_at tick (Base n)) ≤ length (items_to j (tick ∷ []))) (ap (λ h. h.me) at.here) few

-- ---- where a load gives a settled entity no call and no reap

module _ (f : Frame) (u : World) (between : IsBetweenRounds f u) (parts : HasPartsBetweenRounds f u) (small : HasSmallNumbers f u)
    (turn : NodeView → NodeView) (frame : IsInFrame f (with_nodes u turn))
    (cells : (e : ℕ) (s : NodeView) → (has_of e (turn s)).cell ≡ (has_of e s).cell)
    (same : (e : ℕ) (s : NodeView) → part_at e (turn s) ≡ part_at e s) (v : World) (vs : List Event)
    (run : RunsTo (with_nodes u turn) vs v) where
  few : HasFewEntities (with_nodes u turn)
  few = few_turned f u between parts turn cells

  few_end : (e : ℕ) → most_entities ≤ e → (k : ℕ) → IsBlank ((entity_flow e v).slot k)
  few_end e le = (few_leads f (with_nodes u turn) v vs frame few run e le).cells

  -- each entity that is there, with at most n looks
  record IsGiven (e n : ℕ) : Type 0 where
    orders : (k : ℕ) (s : NodeView) → slice_get u.nodes k ≡ Some s → Given e 0 s (turn s)
    left : looks_left e (with_nodes u turn) ≤ n
    few_left : n ≤ 2 ^ 23

  module _ (e home : ℕ) (r : RealView) (here : real_at e u home ≡ Some r) (n : ℕ) (given : IsGiven e n)
      (calm : IsCalm f e home r u false (with_nodes u turn)) where
    abbrev had : HasSettledPart f e r.ty u
    had = parts.parts e home r here

    still : HasItStill f e r.ty r had.part (with_nodes u turn)
    still = still_then f u between e home r here had small turn frame given.orders (same e) calm

    few_first : lines_of r had.part < 2 ^ 61 + 2 ^ 60
    few_first = few_lines f u between e home r here had small turn frame given.orders (same e) calm

    part_first : base_burden e (with_nodes u turn) ≤ had.part.version
    part_first = few_part f u between e home r here had small turn frame given.orders (same e) calm

    settles : HasSettledPart f e r.ty v
    settles = still_settled f u between e r.ty had turn frame given.orders (same e) v vs run

    told : HasToldAtMost e (sent_by r + most_shown * n) v
    told = tells_most f e r.ty r had.part (with_nodes u turn) still few (parts.views e home r here) n given.left given.few_left v vs run

    sees_few : (k : ℕ) (q : RealView) → real_at e v k ≡ Some q → SeesFew q
    sees_few =
        (sees_then f e r.ty r had.part (with_nodes u turn) still few (parts.views e home r here) n given.left given.few_left v vs run).cells

    numbers : HasNumbers e (sent_by r + most_told) (with_nodes u turn) v
    numbers =
        let lines = few_first in
        let less = part_first in
        record {
          room = omega (arith, lines, less);
          most =
              tells_few f e r.ty r had.part (with_nodes u turn) still few (parts.views e home r here) n given.left given.few_left v vs run;
        }

    first_serves : IsServed f e r.ty (with_nodes u turn)
    first_serves =
        let lines = few_first in
        starts f e r.ty r had.part (with_nodes u turn) still (parts.clients e home r here had.part had.here) (omega (arith, lines))

    serves : IsServed f e r.ty v
    serves = serves_then f e r.ty (with_nodes u turn) v vs run frame still.spared (sent_by r + most_told) numbers first_serves

    finds_it : (a k : ℕ) (m : UpdateData) (ms : List Msg) → (entity_flow e v).mail a k ≡ Update m ∷ ms →
        FindsClient f e k ((entity_flow e v).slot k).base m
    finds_it a k m ms at =
        update_finds f e r.ty (with_nodes u turn) v vs run frame still.spared (sent_by r + most_told) numbers still.still a k m ms at
        first_serves

    -- its part may execute a call, and its client be shown a line
    shows_by : IsServed f e r.ty v → (p : PartView) → ((entity_flow e v).slot (home_of f e)).base.part ≡ Some p → may_show p.proxy ≡ true
    shows_by (bare none unseen) p at = ap may_show (none (home_of f e) p at)
    shows_by (served first low client seen) p at =
        let room = numbers.room in
        let less = base_burden_leads f e (with_nodes u turn) v vs frame run in
        part_may_show f e r.ty first (sent_by r + most_told) v client numbers.most (omega (arith, room, less)) p at

    may_act : (k : ℕ) (p : PartView) → ((entity_flow e v).slot k).base.part ≡ Some p → may_execute p ≡ true
    may_act k p at = elim (cases_eq k (home_of f e)) [
      | inl is ↦
          let there = ap (λ j. ((entity_flow e v).slot j).base.part) (sym is) ∙ at in
          let part = part_first in
          let first = few_first in
          let less = base_burden_leads f e (with_nodes u turn) v vs frame run in
          let version = version_room e v (home_of f e) p there in
          all_two (may_rise p.version) (may_show p.proxy) (below_is (p.version + 1) limit (omega (arith, part, first, less, version)))
          (shows_by serves p there)
      | inr away ↦ absurd (let z = sym (settles.others k away) ∙ at in cc)
    ]

    are_for : IsInFrame f v → IsQuiet node_has_work v → (k : ℕ) (q : RealView) →
        real_in ((entity_flow e v).slot k) ≡ Some q → (p : PartView) → ((entity_flow e v).slot (home_of f e)).base.part ≡ Some p →
        AreFor q.witness p.proxy p.version
    are_for framed quiet k q at p there = ends f e r.ty v framed quiet k q at p there serves

    lines_then : (k : ℕ) (q : RealView) → real_at e v k ≡ Some q → (p : PartView) →
        ((entity_flow e v).slot (home_of f e)).base.part ≡ Some p → lines_of q p ≤ lines_of r had.part + most_shown * n
    lines_then k q at p there =
        let part = part_first in
        let less = base_burden_leads f e (with_nodes u turn) v vs frame run in
        let version = version_room e v (home_of f e) p there in
        let sent = told.cells k q at in
        omega (arith, part, less, version, sent)

-- ---- the phase of reaps

-- no one is told anything
module _ (f : Frame) (u : World) (between : IsBetweenRounds f u) (parts : HasPartsBetweenRounds f u) (es : List ℕ)
    (may : AreReapable u es) (vs : List Event) (v : World) (run : RunsTo (reaps_loaded u es) vs v) (e : ℕ) where
  pub reaps_tell_none : NoUpdateComes e v
  reaps_tell_none =
      let turn : NodeView → NodeView = each reap_ordered_at es in
      let left =
      looks_turned f u between parts turn (λ x s. reaps_cell x es s) e []
      (λ k s at.
      let none = idle_orders e s (quiet_tasks node_has_work u between.quiet k s at) in
      let is = no_ticks (has_of e (turn s)).base.orders (reaps_without_ticks e es s (subst NoTicks (sym none) tt)) in
      omega (arith, is)) in
      tells_none f between.frame.tree.cells_to e (with_nodes u turn) v vs (reaps_framed f u between.nodes es) (omega (arith, left))
      (λ a k. subst (AllByRecursion (λ m. update_in m ≡ None))
      (sym (ap (letters_of (mine e)) (quiet_links node_has_work u between.nodes.sound.square between.quiet a k))) tt)
      (subst (λ w. RunsTo w vs v) (reaping.loaded_is f u between es may) run)

module _ (f : Frame) (u : World) (between : IsBetweenRounds f u) (parts : HasPartsBetweenRounds f u) (es : List ℕ)
    (small : HasSmallNumbers f u) (may : AreReapable u es) (vs : List Event) (v : World)
    (run : RunsTo (reaps_loaded u es) vs v) (quiet : IsQuiet node_has_work v) where
  abbrev turn : NodeView → NodeView
  turn = each reap_ordered_at es

  turned : RunsTo (with_nodes u turn) vs v
  turned = subst (λ w. RunsTo w vs v) (reaping.loaded_is f u between es may) run

  inside : IsInFrame f (with_nodes u turn)
  inside = reaps_framed f u between.nodes es

  framed : IsInFrame f v
  framed = frame_leads f (with_nodes u turn) v vs inside turned

  abbrev cells_stay : (e : ℕ) (s : NodeView) → (has_of e (turn s)).cell ≡ (has_of e s).cell
  cells_stay e s = reaps_cell e es s

  abbrev parts_stay : (e : ℕ) (s : NodeView) → part_at e (turn s) ≡ part_at e s
  parts_stay e s = reaps_part e es s

  module _ (e home : ℕ) (r : RealView) (here : real_at e u home ≡ Some r) where
    calm : IsCalm f e home r u (is_told e es) v
    calm =
        calm_leads f between.frame u between e home r here (is_told e es) (reaping.small f u between es may e home r here)
        (reaps_loaded u es) v vs (reaping.calm f u between es may e home r here) run

    zero_by : (c : Bool) (n : ℕ) → n ≡ 0 → cond {A = ℕ} c n 0 ≡ 0
    zero_by true n is = is
    zero_by false n is = refl

    never : is_told e es ≡ false → times e es ≡ 0
    never out = grind (arith, nat_tests, out)

    module _ (out : is_told e es ≡ false) where
      given : IsGiven f u between parts small turn inside cells_stay parts_stay v vs turned e 0
      given = record {
        orders = λ k s at.
            subst (λ n. Given e n s (turn s)) (zero_by (eqb k (base_of (here_at f 0) e)) (times e es) (never out))
            (reaps_given e f k es s (between.nodes.nodes k s at) (quiet_tasks node_has_work u between.quiet k s at));
        left =
            looks_turned f u between parts turn cells_stay e []
            (λ k s at.
            let none = idle_orders e s (quiet_tasks node_has_work u between.quiet k s at) in
            let is = no_ticks (has_of e (turn s)).base.orders (reaps_without_ticks e es s (subst NoTicks (sym none) tt)) in
            omega (arith, is));
        few_left = omega arith;
      }

      calm_out : IsCalm f e home r u false (with_nodes u turn)
      calm_out =
          subst (λ b. IsCalm f e home r u b (with_nodes u turn)) out
          (subst (IsCalm f e home r u (is_told e es)) (reaping.loaded_is f u between es may)
          (reaping.calm f u between es may e home r here))

      untold : HasSettledPart f e r.ty v
      untold = settles f u between parts small turn inside cells_stay parts_stay v vs turned e home r here 0 given calm_out

      are_untold : (k : ℕ) (q : RealView) → real_at e v k ≡ Some q → (p : PartView) →
          ((entity_flow e v).slot (home_of f e)).base.part ≡ Some p → AreFor q.witness p.proxy p.version
      are_untold = are_for f u between parts small turn inside cells_stay parts_stay v vs turned e home r here 0 given calm_out framed quiet

      sees_untold : (k : ℕ) (q : RealView) → real_at e v k ≡ Some q → SeesFew q
      sees_untold = sees_few f u between parts small turn inside cells_stay parts_stay v vs turned e home r here 0 given calm_out

      small_untold : (k : ℕ) (q : RealView) → real_at e v k ≡ Some q → (p : PartView) →
          ((entity_flow e v).slot (home_of f e)).base.part ≡ Some p → lines_of q p < 2 ^ 61 + 2 ^ 60
      small_untold k q at p there =
          let first = few_first f u between parts small turn inside cells_stay parts_stay v vs turned e home r here 0 given calm_out in
          let last =
          lines_then f u between parts small turn inside cells_stay parts_stay v vs turned e home r here 0 given calm_out k q at p there in
          omega (arith, first, last)

    -- what is true of it where it was not told is true where it is there
    there_by : (P : ℕ → RealView → Type 0) → (is_told e es ≡ false → (k : ℕ) (q : RealView) → real_at e v k ≡ Some q → P k q) → (b : Bool) →
        is_told e es ≡ b → (k : ℕ) (q : RealView) → real_at e v k ≡ Some q → P k q
    there_by P its true is k q at =
        absurd (no_real v e k q (told_is_gone f between.frame u between e home r here (is_told e es)
        (reaping.small f u between es may e home r here) v calm quiet is) at)
    there_by P its false is k q at = its is k q at

    same_real : (k : ℕ) (q : RealView) → real_at e v k ≡ Some q → IsSame r q
    same_real k q at = ((calm.nodes k).real q at).1

  -- what is true of each that was not told is true of each that is there
  each_by : (P : ℕ → ℕ → RealView → Type 0) → ((e home : ℕ) (r : RealView) (here : real_at e u home ≡ Some r) →
      is_told e es ≡ false → (k : ℕ) (q : RealView) → real_at e v k ≡ Some q → P e k q) → (e k : ℕ) (q : RealView) →
      real_at e v k ≡ Some q → Somewhere e u ⊎ Nowhere e u → P e k q
  each_by P its e k q at (inl p) = there_by e p.0 p.1 p.2 (P e) (its e p.0 p.1 p.2) (is_told e es) refl k q at
  each_by P its e k q at (inr n) =
      absurd (no_real v e k q (none_come f u between es may vs v run e (zero_of f u between e n)) at)

  pub reaps_end_with_parts : HasPartsBetweenRounds f v
  reaps_end_with_parts = record {
    parts = λ e k q at.
        each_by (λ e k q. HasSettledPart f e q.ty v) (λ e home r here out k q at.
        subst (λ t. HasSettledPart f e t v) (same_type r q (same_real e home r here k q at)) (untold e home r here out)) e k q at
        (search_real e u);
    clients = λ e k q at.
        each_by
        (λ e k q. (p : PartView) → ((entity_flow e v).slot (home_of f e)).base.part ≡ Some p → AreFor q.witness p.proxy p.version)
        are_untold e k q at (search_real e u);
    entities = few_end f u between parts small turn inside cells_stay parts_stay v vs turned;
    views = λ e k q at. each_by (λ e k q. SeesFew q) sees_untold e k q at (search_real e u);
  }

  pub reaps_end_small : HasSmallNumbers f v
  reaps_end_small = record {
    reals = λ e k q at.
        each_by (λ e k q. numbers_of q < 2 ^ 61 + 2 ^ 60) (λ e home r here out k q at.
        subst (λ n. n < 2 ^ 61 + 2 ^ 60) (same_numbers r q (same_real e home r here k q at)) (small.reals e home r here)) e k q at
        (search_real e u);
    clients = λ e k q at.
        each_by
        (λ e k q. (p : PartView) → ((entity_flow e v).slot (home_of f e)).base.part ≡ Some p → lines_of q p < 2 ^ 61 + 2 ^ 60)
        small_untold e k q at (search_real e u);
  }

-- ---- the phase of looks

module _ (f : Frame) (u : World) (between : IsBetweenRounds f u) (parts : HasPartsBetweenRounds f u) (small : HasSmallNumbers f u)
    (vs : List Event) (v : World) (run : RunsTo (look_loaded u) vs v) where
  in_looks : IsInFrame f (look_loaded u)
  in_looks = look_framed f u between.nodes tick refl

  looks_framed : IsInFrame f v
  looks_framed = frame_leads f (look_loaded u) v vs in_looks run

  abbrev look_cells : (e : ℕ) (s : NodeView) → (has_of e (ordered_at tick s)).cell ≡ (has_of e s).cell
  look_cells e s = look_cell e tick s

  abbrev look_parts : (e : ℕ) (s : NodeView) → part_at e (ordered_at tick s) ≡ part_at e s
  look_parts e s = parts_ordered e (tick ∷ []) s

  module _ (e home : ℕ) (r : RealView) (here : real_at e u home ≡ Some r) where
    looked : IsCalm f e home r u false v
    looked =
        calm_leads f between.frame u between e home r here false (looking.small f u between r) (look_loaded u) v vs
        (looking.calm f u between e home r here) run

    looks_given : IsGiven f u between parts small (ordered_at tick) in_looks look_cells look_parts v vs run e 16
    looks_given = record {
      orders = λ k s at. look_given e f k cell_count s (quiet_tasks node_has_work u between.quiet k s at);
      left =
          looks_turned f u between parts (ordered_at tick) look_cells e (tick ∷ [])
          (λ k s at. tick_given e f k s (between.nodes.nodes k s at) (quiet_tasks node_has_work u between.quiet k s at));
      few_left = omega arith;
    }

    pub look_settles : HasSettledPart f e r.ty v
    look_settles =
        settles f u between parts small (ordered_at tick) in_looks look_cells look_parts v vs run e home r here 16 looks_given
        (looking.calm f u between e home r here)

    look_settled : (k : ℕ) (q : RealView) → real_at e v k ≡ Some q → HasSettledPart f e q.ty v
    look_settled k q at =
        subst (λ t. HasSettledPart f e t v) (same_type r q ((looked.nodes k).real q at).1) look_settles

    pub look_finds : (a k : ℕ) (m : UpdateData) (ms : List Msg) → (entity_flow e v).mail a k ≡ Update m ∷ ms →
        FindsClient f e k ((entity_flow e v).slot k).base m
    look_finds =
        finds_it f u between parts small (ordered_at tick) in_looks look_cells look_parts v vs run e home r here 16 looks_given
        (looking.calm f u between e home r here)

    pub look_acts : (k : ℕ) (p : PartView) → ((entity_flow e v).slot k).base.part ≡ Some p → may_execute p ≡ true
    look_acts =
        may_act f u between parts small (ordered_at tick) in_looks look_cells look_parts v vs run e home r here 16 looks_given
        (looking.calm f u between e home r here)

    -- its client has numbers for all that its witness tells
    pub look_numbers : HasNumbers e (sent_by r + most_told) (look_loaded u) v
    look_numbers =
        numbers f u between parts small (ordered_at tick) in_looks look_cells look_parts v vs run e home r here 16 looks_given
        (looking.calm f u between e home r here)

    pub look_serves : IsServed f e r.ty v
    look_serves =
        serves f u between parts small (ordered_at tick) in_looks look_cells look_parts v vs run e home r here 16 looks_given
        (looking.calm f u between e home r here)

    look_are : IsQuiet node_has_work v → (k : ℕ) (q : RealView) → real_at e v k ≡ Some q → (p : PartView) →
        ((entity_flow e v).slot (home_of f e)).base.part ≡ Some p → AreFor q.witness p.proxy p.version
    look_are quiet =
        are_for f u between parts small (ordered_at tick) in_looks look_cells look_parts v vs run e home r here 16 looks_given
        (looking.calm f u between e home r here) looks_framed quiet

    look_sees : (k : ℕ) (q : RealView) → real_at e v k ≡ Some q → SeesFew q
    look_sees =
        sees_few f u between parts small (ordered_at tick) in_looks look_cells look_parts v vs run e home r here 16 looks_given
        (looking.calm f u between e home r here)

  look_by : (P : ℕ → ℕ → RealView → Type 0) → ((e home : ℕ) (r : RealView) → real_at e u home ≡ Some r →
      (k : ℕ) (q : RealView) → real_at e v k ≡ Some q → P e k q) → (e k : ℕ) (q : RealView) →
      real_at e v k ≡ Some q → Somewhere e u ⊎ Nowhere e u → P e k q
  look_by P its e k q at (inl p) = its e p.0 p.1 p.2 k q at
  look_by P its e k q at (inr n) =
      absurd (no_real v e k q (look_makes_none f u between vs v run e (zero_of f u between e n)) at)

  pub look_ends_with_parts : IsQuiet node_has_work v → HasPartsBetweenRounds f v
  look_ends_with_parts quiet = record {
    parts = λ e k q at. look_by (λ e k q. HasSettledPart f e q.ty v) look_settled e k q at (search_real e u);
    clients = λ e k q at.
        look_by
        (λ e k q. (p : PartView) → ((entity_flow e v).slot (home_of f e)).base.part ≡ Some p → AreFor q.witness p.proxy p.version)
        (λ e home r here. look_are e home r here quiet) e k q at (search_real e u);
    entities = few_end f u between parts small (ordered_at tick) in_looks look_cells look_parts v vs run;
    views = λ e k q at. look_by (λ e k q. SeesFew q) look_sees e k q at (search_real e u);
  }
