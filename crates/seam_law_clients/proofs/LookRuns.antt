-- The phase of looks over every list of events: each cell waits for its tick, or some of its witnesses have looked.
use Rattle.seam_law_clients.proofs.Prelude.{◌≡◌, ℕ, ◌<◌, ◌≤◌, ◌⊎◌, Bool, true, false, cond, eqb, ◌&&◌, is_some, List, [], ◌∷◌, ◌++◌, map}
use Rattle.seam_law_clients.proofs.Prelude.{find, Option, None, Some, refl, sym, ap, ◌∙◌, subst, arith, inl, inr, option_map, slice_get}
use Rattle.seam_law_clients.proofs.Prelude.{drop, AllByRecursion, range_with_len, cases_eq, cases_lt, ne_eqb, eq-eqb, cells_of, link}
use Rattle.seam_law_clients.proofs.Prelude.{letter, input_from, happens, enabled, Occurs, items_to, Event, Input, Task, From, Order}
use Rattle.seam_law_clients.proofs.Prelude.{RealView, has_ready, Msg, Tick, cell_count, base_of, number_of, has_any, BaseView, base_steps}
use Rattle.seam_law_clients.proofs.Prelude.{tick_to, CellView, cell_steps, cell_has_work, ready_entity, real_is_ready, witnesses, NodeView}
use Rattle.seam_law_clients.proofs.Prelude.{World, node_steps, node_has_work, Cell, Base, slot_at, Frame, IsInFrame, has_of, has_none}
use Rattle.seam_law_clients.proofs.Prelude.{real_in, IsBetweenRounds, having_looked, occurs, quiet_tasks, sound_sends, node_laws}
use Rattle.seam_law_clients.proofs.Prelude.{frame_happens, neither, none_left, none_some, got_fails}
use Rattle.std.specs.FinMap as table
use Rattle.seam_node_steps.specs.Prelude.{tick}
use Rattle.seam_machine.specs.Events.{is_from, link_left, link_added}
use Rattle.seam_machine.proofs.Occurring.{occurs_works, node_here, node_there}
use Rattle.seam_net_runs.proofs.Keeping.{link_is_exact}
use Rattle.seam_call.specs.declared.order.Order.TheVariants as order
use Rattle.seam_law_clients.proofs.LookCells.{MayLook, IsMidway, work_is, step_is, now, next_midway, tick_midway}
use Rattle.seam_law_clients.proofs.LookBases.{hears_still, task_still, tick_sends, ticks_beyond, ticks_within, updates_away, base_is_high}

abbrev pub tick_order : ℕ × Order
tick_order = (cell_count, order.Tick)

none_mapped : {X : Type 0} (o : Option (ℕ × X)) → is_some (option_map number_of o) ≡ false → is_some o ≡ false
none_mapped None h = refl
none_mapped (Some p) h = cc

-- a cell without a task settles nothing, and none of its reals has a ready call
module _ (c : CellView) (idle : cell_has_work c ≡ false) where
  pub no_survey : c.survey ≡ []
  no_survey = none_left c.survey (neither (has_any c.survey) _ idle).0

  pub unready : (x : ℕ) (r : RealView) → table.get c.reals x ≡ Some r → has_ready r.orders ≡ false
  unready x r at =
      let ready = (neither (is_some (ready_entity c)) _ (neither (has_any c.survey) _ idle).1).0 in
      got_fails real_is_ready (λ a b y. refl) c.reals x r (none_some _ (none_mapped (find real_is_ready (table.entries c.reals)) ready)) at

-- ---- what is fed

fed_none : (rows : List (List (List Msg))) (k : ℕ) (from : Option ℕ) (a : ℕ) (m : Msg) → ((x : ℕ) → link rows x k ≡ []) →
    input_from rows k from ≡ Some (From a m) → ⊥
fed_none rows k None a m none fed = cc
fed_none rows k (Some x) a m none fed = let z = sym (ap (letter x) (none x)) ∙ fed in cc

fed_tick : (rows : List (List (List Msg))) (k : ℕ) (from : Option ℕ) (a : ℕ) (m : Msg) → link rows cell_count k ≡ Tick ∷ [] →
    ((x : ℕ) → (x ≡ cell_count → ⊥) → link rows x k ≡ []) → input_from rows k from ≡ Some (From a m) → (m ≡ Tick) × (from ≡ Some cell_count)
fed_tick rows k None a m one others fed = cc
fed_tick rows k (Some x) a m one others fed = elim (cases_eq x cell_count) [
  | inl is ↦
      let same : From x Tick ≡ From a m = let z = sym (ap (letter x) (ap (λ y. link rows y k) is ∙ one)) ∙ fed in some_is z in
      (message_is same, ap (λ y. Some y) is)
  | inr n ↦ absurd (let z = sym (ap (letter x) (others x n)) ∙ fed in cc)
]
  where
    some_is : {i j : Input Msg} → Some i ≡ Some j → i ≡ j
    some_is h = cc

    message_is : {x y : ℕ} {p q : Msg} → From x p ≡ From y q → q ≡ p
    message_is h = cc

-- ---- a world in the phase

module _ (f : Frame) (u : World) (between : IsBetweenRounds f u)
    (may : (k : ℕ) (c : CellView) → slice_get u.nodes k ≡ Some (Cell c) → AllByRecursion (MayLook c) (witnesses c)) where
  -- cell k, which was c: its tick is ordered, or on its way, or came
  pub data CellAt (k : ℕ) (c : CellView) (os : List Order) (w : World) : Type 0 where
    ordered : os ≡ order.Tick ∷ [] → slice_get w.nodes k ≡ Some (Cell c) → ((a : ℕ) → link w.rows a k ≡ []) → CellAt k c os w
    told : os ≡ [] → slice_get w.nodes k ≡ Some (Cell c) → link w.rows cell_count k ≡ Tick ∷ [] →
        ((a : ℕ) → (a ≡ cell_count → ⊥) → link w.rows a k ≡ []) → CellAt k c os w
    midway : (d : CellView) (rest : List ℕ) → os ≡ [] → slice_get w.nodes k ≡ Some (Cell d) → IsMidway c d rest →
        ((a : ℕ) → link w.rows a k ≡ []) → CellAt k c os w

  pub record IsLooking (w : World) : Type 0 where
    pub frame : IsInFrame f w
    -- the orders of the first base node
    pub orders : List Order
    pub which : (orders ≡ order.Tick ∷ []) ⊎ (orders ≡ [])
    pub bases : (j : ℕ) (b : BaseView) → slice_get w.nodes j ≡ Some (Base b) → b.orders ≡ cond (eqb cell_count j) orders []
    pub there : (j : ℕ) (d : CellView) → slice_get w.nodes j ≡ Some (Cell d) → (c : CellView) × (slice_get u.nodes j ≡ Some (Cell c))
    pub cells : (k : ℕ) (c : CellView) → k < cell_count → slice_get u.nodes k ≡ Some (Cell c) → CellAt k c orders w

  module _ (c : CellView) (k : ℕ) (at : slice_get u.nodes k ≡ Some (Cell c)) where
    idle : cell_has_work c ≡ false
    idle = quiet_tasks node_has_work u between.quiet k (Cell c) at

    low : k < cell_count
    low = (between.nodes.nodes k (Cell c) at).low

  -- ---- an event

  module _ (w : World) (v : Event) (o : Occurs w v) (h : IsLooking w) where
    abbrev next : World
    next = happens node_steps w v

    abbrev sent : List (ℕ × Msg)
    sent = (node_steps o.node o.input).sent

    link_next : (x y : ℕ) → link next.rows x y ≡ link_left w.rows v.node v.from x y ++ link_added v.node sent x y
    link_next = link_is_exact node_steps w v o h.frame.sound.square (sound_sends node_laws w v o h.frame.sound)

    none_added : (k x : ℕ) → items_to k sent ≡ [] → link_added v.node sent x k ≡ []
    none_added k x none = by (eqb x v.node)
      where
        by : (b : Bool) → cond b (items_to k sent) [] ≡ []
        by true = none
        by false = refl

    left_other : (k x : ℕ) → (v.node ≡ k → ⊥) → link_left w.rows v.node v.from x k ≡ link w.rows x k
    left_other k x n =
        ap (λ b. cond (is_from v.from x && b) (drop 1 (link w.rows x k)) (link w.rows x k)) (ne_eqb k v.node (λ is. n (sym is)))
        ∙ by (is_from v.from x)
      where
        by : (b : Bool) → cond (b && false) (drop 1 (link w.rows x k)) (link w.rows x k) ≡ link w.rows x k
        by true = refl
        by false = refl

    -- an empty link that gets nothing stays empty
    link_empty : (k x : ℕ) → link w.rows x k ≡ [] → items_to k sent ≡ [] → link next.rows x k ≡ []
    link_empty k x empty none =
        link_next x k ∙ ap (λ l. link_left w.rows v.node v.from x k ++ l) (none_added k x none)
        ∙ ap (λ l. cond (is_from v.from x && eqb k v.node) (drop 1 l) l ++ []) empty ∙ by (is_from v.from x && eqb k v.node)
      where
        by : (b : Bool) → cond {A = List Msg} b [] [] ++ [] ≡ []
        by true = refl
        by false = refl

    nil_right : (l : List Msg) → l ++ [] ≡ l
    nil_right [] = refl
    nil_right (m ∷ l) = ap (λ z. m ∷ z) (nil_right l)

    link_stays : (k x : ℕ) → (v.node ≡ k → ⊥) → items_to k sent ≡ [] → link next.rows x k ≡ link w.rows x k
    link_stays k x n none =
        link_next x k ∙ ap (λ l. link_left w.rows v.node v.from x k ++ l) (none_added k x none) ∙ nil_right _ ∙ left_other k x n

    -- another cell, to which nothing is sent
    cell_stays : (k : ℕ) (c : CellView) → (v.node ≡ k → ⊥) → items_to k sent ≡ [] → CellAt k c h.orders w → CellAt k c h.orders next
    cell_stays k c n none (ordered os node empty) =
        ordered os (node_there node_steps w v o k (λ is. n (sym is)) ∙ node) (λ a. link_empty k a (empty a) none)
    cell_stays k c n none (told os node one others) =
        told os (node_there node_steps w v o k (λ is. n (sym is)) ∙ node) (link_stays k cell_count n none ∙ one)
        (λ a x. link_empty k a (others a x) none)
    cell_stays k c n none (midway d rest os node m empty) =
        midway d rest os (node_there node_steps w v o k (λ is. n (sym is)) ∙ node) m (λ a. link_empty k a (empty a) none)

    -- ---- at a base node

    module _ (b : BaseView) (is : o.node ≡ Base b) where
      base_there : slice_get w.nodes v.node ≡ Some (Base b)
      base_there = o.is_node ∙ ap (λ s. Some s) is

      high : cell_count ≤ v.node
      high = (h.frame.nodes v.node (Base b) base_there).high

      away : (k : ℕ) → k < cell_count → v.node ≡ k → ⊥
      away k lt same = let hi = high in omega (arith, lt, same, hi)

      now_is : slice_get next.nodes v.node ≡ Some (Base (base_steps b o.input).state)
      now_is = node_here node_steps w v o ∙ ap (λ s. Some (node_steps s o.input).state) is

      sent_is : sent ≡ (base_steps b o.input).sent
      sent_is = ap (λ s. (node_steps s o.input).sent) is

      there_next : (j : ℕ) (d : CellView) → slice_get next.nodes j ≡ Some (Cell d) → (c : CellView) × (slice_get u.nodes j ≡ Some (Cell c))
      there_next j d at = elim (cases_eq j v.node) [
        | inl same ↦ absurd (let z = sym (ap (slice_get next.nodes) same ∙ now_is) ∙ at in cc)
        | inr n ↦ h.there j d (sym (node_there node_steps w v o j n) ∙ at)
      ]

      bases_next : (os : List Order) → (base_steps b o.input).state.orders ≡ cond (eqb cell_count v.node) os [] →
          ((j : ℕ) → (j ≡ v.node → ⊥) → cond (eqb cell_count j) h.orders [] ≡ cond (eqb cell_count j) os []) →
          (j : ℕ) (b2 : BaseView) → slice_get next.nodes j ≡ Some (Base b2) → b2.orders ≡ cond (eqb cell_count j) os []
      bases_next os here others j b2 at = elim (cases_eq j v.node) [
        | inl same ↦
            let z : Some (Base (base_steps b o.input).state) ≡ Some (Base b2) = sym (ap (slice_get next.nodes) same ∙ now_is) ∙ at in
            ap (λ (y : BaseView). y.orders) (base_is z) ∙ here ∙ ap (λ y. cond (eqb cell_count y) os []) (sym same)
        | inr n ↦ h.bases j b2 (sym (node_there node_steps w v o j n) ∙ at) ∙ others j n
      ]
        where
          base_is : {x y : BaseView} → Some (Base x) ≡ Some (Base y) → y ≡ x
          base_is e = cc

      -- it sends nothing, and keeps its orders
      base_rests : ((base_steps b o.input).state.orders ≡ b.orders) × ((base_steps b o.input).sent ≡ []) → IsLooking next
      base_rests still = record {
        frame = frame_happens f w v o h.frame;
        orders = h.orders;
        which = h.which;
        bases = bases_next h.orders (still.0 ∙ h.bases v.node b base_there) (λ j n. refl);
        there = there_next;
        cells = λ k c lt at.
            cell_stays k c (away k lt) (ap (items_to k) (sent_is ∙ still.1)) (h.cells k c lt at);
      }

      -- the tick is sent to the cells of the tree
      cell_told : (k : ℕ) (c : CellView) → k < cell_count → slice_get u.nodes k ≡ Some (Cell c) → h.orders ≡ order.Tick ∷ [] →
          v.node ≡ cell_count → sent ≡ map tick_to (range_with_len 0 b.cells) → CellAt k c h.orders w → CellAt k c [] next
      cell_told k c lt at os first ticks (told none node one others) = absurd (let z = sym none ∙ os in cc)
      cell_told k c lt at os first ticks (midway d rest none node m empty) = absurd (let z = sym none ∙ os in cc)
      cell_told k c lt at os first ticks (ordered one node empty) = elim (cases_lt k (cells_of f.tree)) [
        | inl within ↦
            told refl there
            (link_next cell_count k
            ∙ ap (λ l. l ++ link_added v.node sent cell_count k) (left_other k cell_count (away k lt) ∙ empty cell_count)
            ∙ ap (λ t. cond t (items_to k sent) []) (eq-eqb cell_count v.node (sym first))
            ∙ ap (items_to k) ticks
            ∙ ticks_within k 0 b.cells (omega arith) (let many = cells in omega (arith, many, within)))
            (λ a n. link_next a k ∙ ap (λ l. l ++ link_added v.node sent a k) (left_other k a (away k lt) ∙ empty a)
            ∙ ap (λ t. cond t (items_to k sent) []) (ne_eqb a v.node (λ same. n (same ∙ first))))
        | inr beyond ↦
            midway c [] refl there (no_reals beyond)
            (λ a. link_empty k a (empty a) (ap (items_to k) ticks
            ∙ ticks_beyond k 0 b.cells (let many = cells in omega (arith, many, beyond))))
      ]
        where
          there : slice_get next.nodes k ≡ Some (Cell c)
          there = node_there node_steps w v o k (λ same. away k lt (sym same)) ∙ node

          cells : b.cells ≡ cells_of f.tree
          cells = (h.frame.nodes v.node (Base b) base_there).cells

          real_low : (x : ℕ) (r : RealView) → table.get c.reals x ≡ Some r → k < cells_of f.tree
          real_low x r got =
              (between.settled x k r (ap (λ n. real_in (slot_at (has_of x) has_none n)) at ∙ got)).fits.home

          none_by : (x : ℕ) (r : Option RealView) → table.get c.reals x ≡ r → cells_of f.tree ≤ k → r ≡ option_map (having_looked c x) r
          none_by x None got beyond = refl
          none_by x (Some r) got beyond = let lt = real_low x r got in absurd (omega (arith, lt, beyond))

          no_reals : cells_of f.tree ≤ k → IsMidway c c []
          no_reals beyond = record {
            here = refl;
            survey = no_survey c (idle c k at);
            looks = none_left c.looks (neither (is_some (ready_entity c)) _ (neither (has_any c.survey) _ (idle c k at)).1).1;
            ghosts = λ x. refl;
            reals = λ x. none_by x (table.get c.reals x) refl beyond;
            once = tt;
            may = tt;
          }

      base_ticks : h.orders ≡ order.Tick ∷ [] → v.node ≡ cell_count → o.input ≡ Task → IsLooking next
      base_ticks os first task =
          let one : b.orders ≡ order.Tick ∷ [] =
          h.bases v.node b base_there ∙ ap (λ t. cond t h.orders []) (eq-eqb cell_count v.node (sym first)) ∙ os in
          let t = tick_sends b one in
          let ticks = sent_is ∙ ap (λ i. (base_steps b i).sent) task ∙ t.1 in
          record {
            frame = frame_happens f w v o h.frame;
            orders = [];
            which = inr refl;
            bases =
                bases_next [] (ap (λ i. (base_steps b i).state.orders) task ∙ t.0 ∙ sym (none (eqb cell_count v.node)))
                (λ j n. ap (λ t. cond t h.orders []) (ne_eqb cell_count j (λ same. n (sym same ∙ sym first)))
                ∙ sym (none (eqb cell_count j)));
            there = there_next;
            cells = λ k c lt at. cell_told k c lt at os first ticks (h.cells k c lt at);
          }
        where
          none : (t : Bool) → cond {A = List Order} t [] [] ≡ []
          none true = refl
          none false = refl

      base_by : (i : Input Msg) → o.input ≡ i → (h.orders ≡ order.Tick ∷ []) ⊎ (h.orders ≡ []) → IsLooking next
      base_by (From a m) fed which =
          base_rests (subst (λ i. ((base_steps b i).state.orders ≡ b.orders) × ((base_steps b i).sent ≡ [])) (sym fed) (hears_still b a m))
      base_by Task fed (inr none) =
          rests_without (h.bases v.node b base_there
          ∙ ap (λ l. cond (eqb cell_count v.node) l []) none ∙ nothing (eqb cell_count v.node))
        where
          nothing : (t : Bool) → cond {A = List Order} t [] [] ≡ []
          nothing true = refl
          nothing false = refl

          rests_without : b.orders ≡ [] → IsLooking next
          rests_without empty =
              let t = task_still b empty in
              base_rests (subst (λ i. ((base_steps b i).state.orders ≡ b.orders) × ((base_steps b i).sent ≡ [])) (sym fed) t)
      base_by Task fed (inl one) = elim (cases_eq cell_count v.node) [
        | inl same ↦ base_ticks one (sym same) fed
        | inr n ↦
            let t = task_still b (h.bases v.node b base_there ∙ ap (λ t. cond t h.orders []) (ne_eqb cell_count v.node n)) in
            base_rests (subst (λ i. ((base_steps b i).state.orders ≡ b.orders) × ((base_steps b i).sent ≡ [])) (sym fed) t)
      ]

    -- ---- at a cell

    module _ (d : CellView) (is : o.node ≡ Cell d) where
      cell_there : slice_get w.nodes v.node ≡ Some (Cell d)
      cell_there = o.is_node ∙ ap (λ s. Some s) is

      cell_low : v.node < cell_count
      cell_low = (h.frame.nodes v.node (Cell d) cell_there).low

      cell_now : slice_get next.nodes v.node ≡ Some (Cell (cell_steps d o.input).state)
      cell_now = node_here node_steps w v o ∙ ap (λ s. Some (node_steps s o.input).state) is

      cell_sent : sent ≡ (cell_steps d o.input).sent
      cell_sent = ap (λ s. (node_steps s o.input).sent) is

      same_cell : (c : CellView) → slice_get w.nodes v.node ≡ Some (Cell c) → d ≡ c
      same_cell c at = let z : Some (Cell d) ≡ Some (Cell c) = sym cell_there ∙ at in cell_is z
        where
          cell_is : {x y : CellView} → Some (Cell x) ≡ Some (Cell y) → x ≡ y
          cell_is e = cc

      works : enabled node_has_work w v ≡ true → o.input ≡ Task → cell_has_work d ≡ true
      works on task = ap node_has_work (sym is) ∙ occurs_works node_has_work w v on o task

      fed_so : (i : Input Msg) → o.input ≡ i → input_from w.rows v.node v.from ≡ Some i
      fed_so i fed = o.is_fed ∙ ap (λ j. Some j) fed

      -- the cell goes on, and sends nothing to cells
      goes_on : (c : CellView) → slice_get u.nodes v.node ≡ Some (Cell c) → ((k : ℕ) → k < cell_count → items_to k sent ≡ []) →
          CellAt v.node c h.orders next → IsLooking next
      goes_on c at silent new = record {
        frame = frame_happens f w v o h.frame;
        orders = h.orders;
        which = h.which;
        bases = λ j b at2. elim (cases_eq j v.node) [
          | inl same ↦ absurd (let z = sym (ap (slice_get next.nodes) same ∙ cell_now) ∙ at2 in cc)
          | inr n ↦ h.bases j b (sym (node_there node_steps w v o j n) ∙ at2)
        ];
        there = λ j e at2. elim (cases_eq j v.node) [
          | inl same ↦ (c, ap (slice_get u.nodes) same ∙ at)
          | inr n ↦ h.there j e (sym (node_there node_steps w v o j n) ∙ at2)
        ];
        cells = λ k e lt at2. elim (cases_eq v.node k) [
          | inl same ↦
              let z : Some (Cell c) ≡ Some (Cell e) = sym at ∙ ap (slice_get u.nodes) same ∙ at2 in
              subst (λ y. CellAt y e h.orders next) same (subst (λ y. CellAt v.node y h.orders next) (cell_same z) new)
          | inr n ↦ cell_stays k e n (silent k lt) (h.cells k e lt at2)
        ];
      }
        where
          cell_same : {x y : CellView} → Some (Cell x) ≡ Some (Cell y) → x ≡ y
          cell_same e = cc

      at_by : (c : CellView) → slice_get u.nodes v.node ≡ Some (Cell c) → enabled node_has_work w v ≡ true → (i : Input Msg) →
          o.input ≡ i → CellAt v.node c h.orders w → IsLooking next
      at_by c at on Task fed (ordered os node empty) =
          absurd (let z = sym (ap cell_has_work (same_cell c node) ∙ idle c v.node at) ∙ works on fed in cc)
      at_by c at on Task fed (told os node one others) =
          absurd (let z = sym (ap cell_has_work (same_cell c node) ∙ idle c v.node at) ∙ works on fed in cc)
      at_by c at on (From a m) fed (ordered os node empty) = absurd (fed_none w.rows v.node v.from a m empty (fed_so (From a m) fed))
      at_by c at on (From a m) fed (midway e rest os node mid empty) =
          absurd (fed_none w.rows v.node v.from a m empty (fed_so (From a m) fed))
      at_by c at on (From a m) fed (told os node one others) =
          let t = fed_tick w.rows v.node v.from a m one others (fed_so (From a m) fed) in
          let same = same_cell c node in
          let step : cell_steps d o.input ≡ cell_steps c (From a Tick) =
          ap (cell_steps d) (fed ∙ ap (From a) t.0) ∙ ap (λ y. cell_steps y (From a Tick)) same in
          let none = cell_sent ∙ ap (λ s. s.sent) step in
          goes_on c at (λ k lt. ap (items_to k) none)
          (midway (tick c) (witnesses c) os (cell_now ∙ ap (λ s. Some (Cell s.state)) step)
          (tick_midway c (no_survey c (idle c v.node at)) (may v.node c at))
          (λ x. link_next x v.node
          ∙ ap (λ l. link_left w.rows v.node v.from x v.node ++ l) (none_added v.node x (ap (items_to v.node) none))
          ∙ ap (λ b. cond (is_from v.from x && b) (drop 1 (link w.rows x v.node)) (link w.rows x v.node) ++ []) (eq-eqb v.node v.node refl)
          ∙ ap (λ q. cond (is_from q x && true) (drop 1 (link w.rows x v.node)) (link w.rows x v.node) ++ []) t.1
          ∙ taken x (cases_eq x cell_count) one others))
        where
          taken : (x : ℕ) → (x ≡ cell_count) ⊎ (x ≡ cell_count → ⊥) → link w.rows cell_count v.node ≡ Tick ∷ [] →
              ((a : ℕ) → (a ≡ cell_count → ⊥) → link w.rows a v.node ≡ []) →
              cond (eqb x cell_count && true) (drop 1 (link w.rows x v.node)) (link w.rows x v.node) ++ [] ≡ []
          taken x (inl same) one others =
              ap (λ b. cond (b && true) (drop 1 (link w.rows x v.node)) (link w.rows x v.node) ++ []) (eq-eqb x cell_count same)
              ∙ ap (λ l. drop 1 l ++ []) (ap (λ y. link w.rows y v.node) same ∙ one)
          taken x (inr n) one others =
              ap (λ b. cond (b && true) (drop 1 (link w.rows x v.node)) (link w.rows x v.node) ++ []) (ne_eqb x cell_count n)
              ∙ ap (λ l. l ++ []) (others x n)
      at_by c at on Task fed (midway e [] os node mid empty) =
          let free = unready c (idle c v.node at) in
          absurd (let z = sym (ap cell_has_work (same_cell e node) ∙ work_is c free e [] mid) ∙ works on fed in cc)
      at_by c at on Task fed (midway e (y ∷ ys) os node mid empty) =
          let free = unready c (idle c v.node at) in
          let same = same_cell e node in
          let step = ap (cell_steps d) fed ∙ ap (λ z. cell_steps z Task) same ∙ step_is c free e y ys mid in
          let low = cell_low in
          let silent : (k : ℕ) → k < cell_count → items_to k sent ≡ [] =
          λ k lt. ap (items_to k) (cell_sent ∙ ap (λ s. s.sent) step)
          ∙ updates_away k (base_of e.here mid.may.0.real.entity) mid.may.0.real.entity mid.may.0.witness.sent _
          (base_is_high e.here mid.may.0.real.entity k lt) in
          goes_on c at silent
          (midway (now c free e y ys mid) ys os (cell_now ∙ ap (λ s. Some (Cell s.state)) step) (next_midway c free e y ys mid)
          (λ x. link_empty v.node x (empty x) (silent v.node low)))

    event_by : enabled node_has_work w v ≡ true → (s : NodeView) → o.node ≡ s → IsLooking next
    event_by on (Base b) is = base_by b is o.input refl h.which
    event_by on (Cell d) is =
        let c = h.there v.node d (o.is_node ∙ ap (λ s. Some s) is) in
        at_by d is c.0 c.1 on o.input refl (h.cells v.node c.0 (low c.0 v.node c.1) c.1)

  pub looking_more : (w : World) (v : Event) → IsLooking w → enabled node_has_work w v ≡ true → IsLooking (happens node_steps w v)
  looking_more w v h on = let o = occurs node_has_work w v on in event_by w v o h on o.node refl
