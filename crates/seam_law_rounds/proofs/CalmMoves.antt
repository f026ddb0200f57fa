-- What a move does with a calm entity.
use Rattle.seam_law_rounds.proofs.Prelude.{◌≡◌, ℕ, zero, suc, ◌+◌, ◌<◌, ◌≤◌, Bool, true, false, List, [], ◌∷◌, map, filter_map, Option}
use Rattle.seam_law_rounds.proofs.Prelude.{None, Some, refl, sym, ap, ◌∙◌, subst, arith, AllByRecursion, range_with_len, found, Division}
use Rattle.seam_law_rounds.proofs.Prelude.{total, OrderView, next_item, Call as CallData, Order, Shown, Orders, order_or, RealView}
use Rattle.seam_law_rounds.proofs.Prelude.{WitnessView, Msg, Hand, Reap, may_rise, cell_count, cell_numbers, base_of, order_is_ready}
use Rattle.seam_law_rounds.proofs.Prelude.{ready_order, SlotStep, slot_after, is_stray, drop_at, tick_to, RouteView, numbered, shown_of}
use Rattle.seam_law_rounds.proofs.Prelude.{looks_with, World, cells_of, Frame, here_at, Has, AtCell, AtBase, entity_flow, unlisted_if, Does}
use Rattle.seam_law_rounds.proofs.Prelude.{Acts, surveys, calls, readies, Moves, at_a_cell, at_a_base, real_in}
use Rattle.std.specs.FinMap as table
use Rattle.std.specs.FinSet as set
use Rattle.seam_call.specs.declared.order.Order.TheVariants as order
use Rattle.seam_entity.specs.declared.message.Msg.TheVariants.{Call}
use Rattle.seam_law_calls.proofs.CellDeeds as deed
use Rattle.seam_law_calls.proofs.CellDeeds.{CellDeeds, cell_deeds, not_reaped}
use Rattle.seam_law_calls.proofs.BaseDeeds as base_deed
use Rattle.seam_law_calls.proofs.BaseDeeds.{BaseDeeds, RouteAfter, same_route, newer_of, base_deeds, base_route}
use Rattle.seam_law_rounds.proofs.Calm.{IsSame, IsCalmOrder, IsCalmAt, IsCalmTo, order_reaps, letter_reaps, has_reaps, one_if}
use Rattle.seam_law_calls.proofs.Holds.{not_both}

-- numbers of cells
all_below : (a n : ℕ) → a + n ≤ cell_count → AllByRecursion (λ j. j < cell_count) (range_with_len a n)
all_below a zero h = tt
all_below a (suc n) h = (omega (arith, h), all_below (a + 1) n (omega (arith, h)))

-- where no call is held, none is ready
pub none_ready : (os : Orders) → ((s : ℕ) → (order_or (table.get os s)).held ≡ []) → (o : ℕ × OrderView CallData) (c : CallData) →
    ready_order os ≡ Some o → next_item o.1 ≡ Some c → ⊥
none_ready os none o c at item =
    let two = found order_is_ready os o at in
    let empty = sym (ap (λ x. (order_or x).held) two.0) ∙ none o.0 in
    let no = ap (λ x. next_item {T = CallData} (record { next = o.1.next; held = x })) empty in
    let z = sym item ∙ no in
    cc

abbrev pub sent_reaps : List (ℕ × Msg) → ℕ
sent_reaps ps = total (λ p. letter_reaps p.1) ps

-- what comes to node k, which has s of the entity, is calm, and a Reap finds the real
pub record Comes (told : Bool) (home : ℕ) (r : RealView) (k : ℕ) (s : Has) (i : Option Msg) : Type 0 where
  pub letter : (m : Msg) → i ≡ Some m → IsCalmTo told home r k m
  pub found : (x : ℕ) → i ≡ Some (Reap x) → (q : RealView) × (real_in s ≡ Some q) × (may_rise q.beat ≡ true) × (told ≡ true)

module _ (f : Frame) (e home : ℕ) (r : RealView) (was : World) (none : (s : ℕ) → (order_or (table.get r.orders s)).held ≡ [])
    (leads : (k : ℕ) (x : RouteView) → ((entity_flow e was).slot k).base.route ≡ Some x → x.cell ≡ home) (told : Bool) (k : ℕ) (s : Has)
    (i : Option Msg) (t : Has) (sent : List (ℕ × Msg)) where
  abbrev To : ℕ × Msg → Type 0
  To p = IsCalmTo told home r p.0 p.1

  -- the entity is calm at the node afterwards, what is sent is calm, and what waits of reaps waits still, but for one that came
  pub record Stays : Type 0 where
    pub at : IsCalmAt e home r was k t
    pub calm : AllByRecursion To sent
    pub reaps : has_reaps t + sent_reaps sent ≡ has_reaps s
    pub real : one_if (real_in t) ≡ one_if (real_in s)

  -- and where a Reap came, the real is gone
  pub record Ends : Type 0 where
    pub at : IsCalmAt e home r was k t
    pub calm : AllByRecursion To sent
    pub reaps : has_reaps t + sent_reaps sent ≡ has_reaps s
    pub real : real_in t ≡ None

  pub data Calmed : Type 0 where
    stays : (i ≡ Some (Reap e) → ⊥) → Stays → Calmed
    ends : i ≡ Some (Reap e) → Ends → Calmed

  module _ (here : IsCalmAt e home r was k s) (come : Comes told home r k s i) where
    -- ---- at a cell

    none_reaps : i ≡ None → i ≡ Some (Reap e) → ⊥
    none_reaps n is = let z = sym n ∙ is in cc

    -- the cell has the same real, and what it has of surveys
    same_at : real_in t ≡ real_in s → t.cell.survey ≡ 0 → t.base ≡ s.base → IsCalmAt e home r was k t
    same_at same survey base = record {
      survey = survey;
      real = λ q h. here.real q (sym same ∙ h);
      orders = subst (λ (b : AtBase). AllByRecursion (IsCalmOrder e) b.orders) (sym base) here.orders;
      route = ap (λ (b : AtBase). b.route) base ∙ here.route;
    }

    same_reaps : t.base ≡ s.base → sent_reaps sent ≡ 0 → has_reaps t + sent_reaps sent ≡ has_reaps s
    same_reaps base light = let a = ap (λ (b : AtBase). total order_reaps b.orders) base in omega (arith, a, light)

    unchanged : (i ≡ Some (Reap e) → ⊥) → real_in t ≡ real_in s → t.cell.survey ≡ 0 → t.base ≡ s.base → sent ≡ [] → Calmed
    unchanged n same survey base z =
        stays n (record {
          at = same_at same survey base;
          calm = subst (AllByRecursion To) (sym z) tt;
          reaps = same_reaps base (ap sent_reaps z);
          real = ap one_if same;
        })

    acts_never : (u : AtCell) (p q : RealView) (changed : Bool) → real_in s ≡ Some p → Acts (here_at f k) e s.cell i p u q changed → ⊥
    acts_never u p q changed has (surveys n a b c) = let zero = here.survey in omega (arith, b, zero)
    acts_never u p q changed has (calls c a b d g) = come.letter (Call c) a
    acts_never u p q changed has (readies o c a b d g) =
        let same = (here.real p has).1 in
        none_ready p.orders (subst (λ (x : RealView). (s : ℕ) → (order_or (table.get x.orders s)).held ≡ []) same.1 none) o c d g

    stray_reap : (tree : Division) (x : ℕ) → i ≡ Some (Reap x) → is_stray (here_at f k) tree s.cell.slot (Reap x) ≡ true → ⊥
    stray_reap tree x is stray =
        let q = come.found x is in
        not_both (may_rise q.0.beat) q.2
        (sym (ap (λ o. is_stray (here_at f k) tree (record { real = o; next = s.cell.slot.next; ghost = s.cell.slot.ghost })
        (Reap x)) q.1)
        ∙ stray)

    drop_by : told ≡ true → (q : RealView) (j : ℕ) (b : Bool) (js : List ℕ) → q.beat ≡ r.beat →
        j < cell_count → AllByRecursion To (filter_map (drop_at q) js) × (sent_reaps (filter_map (drop_at q) js) ≡ 0) →
        set.contains q.haunts j ≡ b → AllByRecursion To (filter_map (drop_at q) (j ∷ js)) × (sent_reaps (filter_map (drop_at q)
        (j ∷ js)) ≡ 0)
    drop_by it q j true js beat low more is = let none = more.1 in rw is (((it, omega (arith, beat), low), more.0), omega (arith, none))
    drop_by it q j false js beat low more is = rw is more

    drops_calm : told ≡ true → (q : RealView) (js : List ℕ) → q.beat ≡ r.beat → AllByRecursion (λ j. j < cell_count) js →
        AllByRecursion To (filter_map (drop_at q) js) × (sent_reaps (filter_map (drop_at q) js) ≡ 0)
    drops_calm is q [] beat low = (tt, refl)
    drops_calm is q (j ∷ js) beat low = drop_by is q j (set.contains q.haunts j) js beat low.0 (drops_calm is q js beat low.1) refl

    updates_calm : (b x n : ℕ) (ss : List Shown) → cell_count ≤ b → AllByRecursion To (numbered b x n ss) × (sent_reaps
        (numbered b x n ss) ≡ 0)
    updates_calm b x n [] high = (tt, refl)
    updates_calm b x n (y ∷ ys) high = let more = updates_calm b x (n + 1) ys high in let none = more.1 in (
      (high, more.0),
      omega
          (arith, none),
    )

    real_after : (x : SlotStep) (u : AtCell) → Does u x t.cell sent → (slot_after x.slot u.slot).real ≡ real_in s → real_in t ≡ real_in s
    real_after x u d is = ap (λ a. a.slot.real) d.state ∙ is

    survey_after : (x : SlotStep) (u : AtCell) → Does u x t.cell sent → unlisted_if x.unlisted u.survey ≡ 0 → t.cell.survey ≡ 0
    survey_after x u d is = ap (λ a. a.survey) d.state ∙ is

    looked : (q p : RealView) → IsSame r q → (x : Option WitnessView) → Some (record q { witness = x }) ≡ Some p → IsSame r p
    looked q p same x at =
        let is : record q { witness = x } ≡ p = cc in
        (x, ap (λ (z : RealView). let y : RealView = record z { witness = x } in y) same.1 ∙ is)

    cell_calmed : t.base ≡ s.base → {tree : Division} → CellDeeds (here_at f k) tree e s.cell i t.cell sent → Calmed
    cell_calmed base {tree} (deed.idles a z) =
        let none = here.survey in
        let less = a.survey in
        unchanged (λ is. stray_reap tree e is (not_reaped a.why e is)) a.real (omega (arith, none, less)) base z
    cell_calmed base (deed.stays u p q changed has own acts at d) = absurd (acts_never u p q changed has acts)
    cell_calmed base (deed.goes u p q changed j has own acts at n d) = absurd (acts_never u p q changed has acts)
    cell_calmed base (deed.holds c p n is has own may lt d) = absurd (come.letter (Call c) n)
    cell_calmed base (deed.passes c p n is has at d) = absurd (come.letter (Call c) n)
    cell_calmed base (deed.lands p bs n own has may d) = absurd (come.letter (Hand p bs) n)
    cell_calmed base (deed.reaped q n has own may d) =
        let same = (here.real q has).1 in
        let beat : q.beat ≡ r.beat = sym (ap (λ (y : RealView). y.beat) same.1) in
        let gone = drops_calm (come.found e n).3 q cell_numbers beat (all_below 0 cell_count (omega arith)) in
        ends n (record {
          at = record {
            survey = survey_after _ s.cell d refl;
            real = λ p h. absurd (let z = sym (ap (λ a. a.slot.real) d.state) ∙ h in cc);
            orders = subst (λ (b : AtBase). AllByRecursion (IsCalmOrder e) b.orders) (sym base) here.orders;
            route = ap (λ (b : AtBase). b.route) base ∙ here.route;
          };
          calm = subst (AllByRecursion To) (sym d.sends) gone.0;
          reaps = same_reaps base (ap sent_reaps d.sends ∙ gone.1);
          real = ap (λ a. a.slot.real) d.state;
        })
    cell_calmed base (deed.looks n q w known h at has own is small d) =
        let step = looks_with (here_at f k) s.cell.slot q w known (shown_of (here_at f k) q w known) in
        let new = updates_calm (base_of (here_at f k) q.entity) q.entity w.sent (shown_of (here_at f k) q w known) (omega arith) in
        let same = here.real q has in
        stays (none_reaps h) (record {
          at = record {
            survey = survey_after step _ d here.survey;
            real = λ p there.
                let one = sym (ap (λ a. a.slot.real) d.state) ∙ there in
                (same.0, looked q p same.1 _ one);
            orders = subst (λ (b : AtBase). AllByRecursion (IsCalmOrder e) b.orders) (sym base) here.orders;
            route = ap (λ (b : AtBase). b.route) base ∙ here.route;
          };
          calm = subst (AllByRecursion To) (sym d.sends) new.0;
          reaps = same_reaps base (ap sent_reaps d.sends ∙ new.1);
          real = ap (λ a. one_if a.slot.real) d.state ∙ sym (ap one_if has);
        })

    -- ---- at a base node

    module _ (calm : i ≡ Some (Reap e) → ⊥) (cell : t.cell ≡ s.cell) (route : t.base.route ≡ s.base.route) where
      base_at : AllByRecursion (IsCalmOrder e) t.base.orders → IsCalmAt e home r was k t
      base_at orders = record {
        survey = ap (λ (c : AtCell). c.survey) cell ∙ here.survey;
        real = λ q h. here.real q (sym (ap (λ (c : AtCell). c.slot.real) cell) ∙ h);
        orders = orders;
        route = route ∙ here.route;
      }

      keeps : t.base.orders ≡ s.base.orders → sent ≡ [] → Calmed
      keeps orders z =
          stays calm (record {
            at = base_at (subst (AllByRecursion (IsCalmOrder e)) (sym orders) here.orders);
            calm = subst (AllByRecursion To) (sym z) tt;
            reaps = let one = ap (total order_reaps) orders in let light = ap sent_reaps z in omega (arith, one, light);
            real = ap (λ (c : AtCell). one_if c.slot.real) cell;
          })

      -- the first order is taken
      takes : (o : Order) → s.base.orders ≡ o ∷ t.base.orders → AllByRecursion To sent → sent_reaps sent ≡ order_reaps o → Calmed
      takes o at each weigh =
          stays calm (record {
            at = base_at (subst (AllByRecursion (IsCalmOrder e)) at here.orders).1;
            calm = each;
            reaps = let had = ap (total order_reaps) at in omega (arith, had, weigh);
            real = ap (λ (c : AtCell). one_if c.slot.real) cell;
          })

    first_is : (o : Order) → s.base.orders ≡ o ∷ t.base.orders → IsCalmOrder e o
    first_is o at = (subst (AllByRecursion (IsCalmOrder e)) at here.orders).0

    ticks_calm : (js : List ℕ) → AllByRecursion (λ j. j < cell_count) js →
        AllByRecursion To (map tick_to js) × (sent_reaps (map tick_to js) ≡ 0)
    ticks_calm [] low = (tt, refl)
    ticks_calm (j ∷ js) low = let more = ticks_calm js low.1 in let none = more.1 in ((low.0, more.0), omega (arith, none))

    route_kept : RouteAfter e s.base i t.base → t.base.route ≡ s.base.route
    route_kept (same_route is stray) = is
    route_kept (newer_of new x n has is) = absurd (come.letter _ n)

    module _ (low : home < cell_count) (high : cell_count ≤ k) (cells : ℕ) (few : cells ≤ cell_count) (cell : t.cell ≡ s.cell)
        (route : t.base.route ≡ s.base.route) where
      no_reap : i ≡ Some (Reap e) → ⊥
      no_reap is = let at = come.letter (Reap e) is in omega (arith, at, low, high)

      base_calmed : BaseDeeds (here_at f k) cells e s.base i t.base sent → Calmed
      base_calmed (base_deed.stays orders z) = keeps no_reap cell route orders z
      base_calmed (base_deed.calls c x n at has z) = absurd (first_is (order.Cell c) at)
      base_calmed (base_deed.base_calls c n at z) = absurd (first_is (order.Base c) at)
      base_calmed (base_deed.serves c n at z) = absurd (first_is (order.Base c) at)
      base_calmed (base_deed.ticks n at z) =
          let all = ticks_calm (range_with_len 0 cells) (all_below 0 cells (omega (arith, few))) in
          takes no_reap cell route order.Tick at (subst (AllByRecursion To) (sym z) all.0) (ap sent_reaps z ∙ all.1)
      base_calmed (base_deed.reaps x n at has z) =
          takes no_reap cell route (order.Reap e) at (subst (AllByRecursion To) (sym z) (leads k x (sym here.route ∙ has), tt))
          (ap sent_reaps z)

    pub calmed : home < cell_count → cells_of f.tree ≤ cell_count → Moves f e k s i t sent → Calmed
    calmed low few (at_a_cell tree of in_cell m same) = cell_calmed same (cell_deeds m)
    calmed low few (at_a_base high m same) = base_calmed low high _ few same (route_kept (base_route m)) (base_deeds m)
