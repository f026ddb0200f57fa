-- A calm entity stays calm after each event, and its real goes when its Reap comes.
use Rattle.seam_law_rounds.proofs.Prelude.{◌≡◌, ℕ, ◌+◌, ◌<◌, ◌≤◌, Bool, true, false, cond, eqb, List, [], ◌∷◌, Option, None, Some, refl}
use Rattle.seam_law_rounds.proofs.Prelude.{sym, ap, ◌∙◌, subst, arith, inl, inr, AllByRecursion, cases_eq, eqb-true, link, letter}
use Rattle.seam_law_rounds.proofs.Prelude.{input_from, happens, Occurs, Input, Task, From, Event, order_or, RealView, Msg, Tick, Reap}
use Rattle.seam_law_rounds.proofs.Prelude.{may_rise, cell_count, RouteView, World, node_steps, Flow, Goes, comes, letter_in, letters_of}
use Rattle.seam_law_rounds.proofs.Prelude.{more_letter, slot_at, Frame, Has, concerns, kept_if, mine, concerning, has_of, has_none}
use Rattle.seam_law_rounds.proofs.Prelude.{entity_flow, MovesTo, real_in, real_at, weight_or, input_weight, sound_sends, weight_moves}
use Rattle.seam_law_rounds.proofs.Prelude.{weight_bounds, slots_kept, came, node_laws, node_moves, frame_happens, event_moves_with, sent_is}
use Rattle.seam_law_rounds.proofs.Prelude.{input_is, sent_kept}
use Rattle.std.specs.FinMap as table
use Rattle.seam_law_rounds.proofs.Calm.{IsCalmAt, IsCalmTo, letter_reaps, node_reaps, mine_reaps, reaps_of, one_if, IsCalm}
use Rattle.seam_law_rounds.proofs.CalmMoves.{sent_reaps, Calmed, stays, ends, Comes, calmed}
use Rattle.seam_law_calls.proofs.Classify.{fed_plain}

-- ---- weights

light_by : (b : Bool) (m : Msg) → letter_reaps m ≡ 0 → weight_or letter_reaps (kept_if b m) ≡ 0
light_by true m h = h
light_by false m h = refl

reap_by : (e x : ℕ) (b : Bool) → eqb x e ≡ b → (kept_if b (Reap x) ≡ Some (Reap e) → ⊥) → weight_or letter_reaps (kept_if b (Reap x)) ≡ 0
reap_by e x true is n = absurd (n (ap (λ y. Some (Reap y)) (eqb-true x e is)))
reap_by e x false is n = refl

light : (e : ℕ) (m : Msg) → (mine e m ≡ Some (Reap e) → ⊥) → weight_or letter_reaps (mine e m) ≡ 0
light e Tick n = refl
light e (Reap x) n = reap_by e x (eqb x e) refl n
light e m n = light_by (concerns e m) m refl

no_reap_weighs : (e k : ℕ) (i : Input Msg) → (letter_in (mine e) i ≡ Some (Reap e) → ⊥) → input_weight (mine_reaps e) k i ≡ 0
no_reap_weighs e k Task n = refl
no_reap_weighs e k (From a m) n = light e m n

-- ---- the letter that is fed was on its way

module _ (P : Msg → Type 0) (e : ℕ) where
  head_by : (m : Msg) (o : Option Msg) (ls : List Msg) → o ≡ Some m → AllByRecursion P (more_letter o ls) → P m
  head_by m None ls is all = cc
  head_by m (Some x) ls is all = let same : x ≡ m = cc in subst P same all.0

  first_by : (a : ℕ) (l : List Msg) (i : Input Msg) → letter a l ≡ Some i → AllByRecursion P (letters_of (mine e) l) → (m : Msg) →
      letter_in (mine e) i ≡ Some m → P m
  first_by a [] i fed all m is = cc
  first_by a (x ∷ l) i fed all m is =
      let same : From a x ≡ i = cc in
      head_by m (mine e x) (letters_of (mine e) l) (ap (letter_in (mine e)) same ∙ is) all

  fed_by : (w : World) (k : ℕ) (from : Option ℕ) (i : Input Msg) → input_from w.rows k from ≡ Some i →
      ((a : ℕ) → AllByRecursion P ((entity_flow e w).mail a k)) → (m : Msg) → letter_in (mine e) i ≡ Some m → P m
  fed_by w k None i fed all m is =
      let same : Task ≡ i = cc in
      absurd (let z : None ≡ Some m = ap (letter_in (mine e)) same ∙ is in cc)
  fed_by w k (Some a) i fed all m is = first_by a (link w.rows a k) i fed (all a) m is

module _ (f : Frame) (e home : ℕ) (r : RealView) (low : home < cell_count) (none : (s : ℕ) → (order_or (table.get r.orders s)).held ≡ [])
    (was : World) (leads : (k : ℕ) (x : RouteView) → ((entity_flow e was).slot k).base.route ≡ Some x → x.cell ≡ home) (told : Bool)
    (small : told ≡ true → may_rise r.beat ≡ true) where
  module _ (w : World) (v : Event) (o : Occurs w v) (c : IsCalm f e home r was told w) where
    abbrev flow : Flow Has Msg
    flow = entity_flow e w

    abbrev next : World
    next = happens node_steps w v

    abbrev fed : Option Msg
    fed = letter_in (mine e) o.input

    -- the real that waits for its Reap
    waits_by : (b : Bool) (q : Option RealView) (n : ℕ) → 1 ≤ n → n ≡ cond b (one_if q) 0 →
        (x : RealView) × (q ≡ Some x) × (b ≡ true) × (n ≡ 1)
    waits_by true None n at is = absurd (omega (arith, at, is))
    waits_by true (Some x) n at is = (x, refl, refl, is)
    waits_by false q n at is = absurd (omega (arith, at, is))

    reap_waits : (x : ℕ) → fed ≡ Some (Reap x) → 1 ≤ reaps_of e w
    reap_waits x is =
        let a = weight_bounds (node_reaps e) (mine_reaps e) w v o in
        let b = input_is letter_reaps e v.node o.input in
        let d = ap (weight_or letter_reaps) is in
        omega (arith, a, b, d)

    pub found_home : (x : ℕ) → fed ≡ Some (Reap x) → (q : RealView) × (real_in (flow.slot home) ≡ Some q) × (may_rise q.beat ≡ true)
        × (told ≡ true)
    found_home x is =
        let q = waits_by told (real_in (flow.slot home)) (reaps_of e w) (reap_waits x is) c.reaps in
        let same = ((c.nodes home).real q.0 q.1).1 in
        (q.0, q.1, ap (λ (y : RealView). may_rise y.beat) (sym same.1) ∙ small q.2, q.2)

    -- one that was not told has no Reap that comes
    pub told_by : (x : ℕ) → fed ≡ Some (Reap x) → told ≡ true
    told_by x is = (waits_by told (real_in (flow.slot home)) (reaps_of e w) (reap_waits x is) c.reaps).2

    -- what comes to node k, if it has s of the entity and the letter is that which is fed
    comes_to : (k : ℕ) → ((m : Msg) → fed ≡ Some m → IsCalmTo told home r k m) → (s : Has) → s ≡ flow.slot k → (i : Option Msg) → i ≡ fed →
        Comes told home r k s i
    comes_to k letter s there i is = record {
      letter = λ m at. letter m (sym is ∙ at);
      found = λ x at.
          let q = found_home x (sym is ∙ at) in
          let same : k ≡ home = letter (Reap x) (sym is ∙ at) in
          (q.0, ap real_in (there ∙ ap flow.slot same) ∙ q.1, q.2, q.3);
    }

    -- ---- the step as the flow sees it

    goes : Goes (λ k s i t out. MovesTo f e k s i t out × (i ≡ fed)) flow (entity_flow e next)
    goes = event_moves_with f w v o c.frame e (λ s i. i ≡ fed) refl

    came_to : (m : Msg) → fed ≡ Some m → IsCalmTo told home r goes.k m
    came_to m is = (came (λ a k m. IsCalmTo told home r k m) goes m (goes.moves.1 ∙ is) c.mail).1

    what : Calmed f e home r was none leads told goes.k (flow.slot goes.k) (comes goes.input)
        ((entity_flow e next).slot goes.k) goes.moves.0.sent
    what =
        calmed f e home r was none leads told goes.k (flow.slot goes.k) (comes goes.input)
        ((entity_flow e next).slot goes.k) goes.moves.0.sent
        (c.nodes goes.k) (comes_to goes.k came_to (flow.slot goes.k) refl (comes goes.input) goes.moves.1) low c.cells goes.moves.0.moves

    at_of : Calmed f e home r was none leads told goes.k (flow.slot goes.k) (comes goes.input) ((entity_flow e next).slot goes.k)
        goes.moves.0.sent → IsCalmAt e home r was goes.k ((entity_flow e next).slot goes.k)
    at_of (stays n x) = x.at
    at_of (ends n x) = x.at

    calm_of : Calmed f e home r was none leads told goes.k (flow.slot goes.k) (comes goes.input) ((entity_flow e next).slot goes.k)
        goes.moves.0.sent → AllByRecursion (λ p. IsCalmTo told home r p.0 p.1) goes.moves.0.sent
    calm_of (stays n x) = x.calm
    calm_of (ends n x) = x.calm

    -- ---- the step as the node makes it

    node_is : has_of e o.node ≡ flow.slot v.node
    node_is = sym (ap (slot_at (has_of e) has_none) o.is_node)

    fed_to : (m : Msg) → fed ≡ Some m → IsCalmTo told home r v.node m
    fed_to m is = fed_by (IsCalmTo told home r v.node) e w v.node v.from o.input o.is_fed (λ a. c.mail a v.node) m is

    node_what : Calmed f e home r was none leads told v.node (has_of e o.node) fed (has_of e (node_steps o.node o.input).state)
        (concerning e (node_steps o.node o.input).sent)
    node_what =
        calmed f e home r was none leads told v.node (has_of e o.node) fed (has_of e (node_steps o.node o.input).state)
        (concerning e (node_steps o.node o.input).sent) (subst (IsCalmAt e home r was v.node) (sym node_is) (c.nodes v.node))
        (comes_to v.node fed_to (has_of e o.node) node_is fed refl) low c.cells
        (node_moves f e v.node o.node o.input (c.frame.sound.states v.node o.node o.is_node) (c.frame.nodes v.node o.node o.is_node)
        (fed_plain f w v o c.frame))

    weighs_by : Calmed f e home r was none leads told v.node (has_of e o.node) fed (has_of e (node_steps o.node o.input).state)
        (concerning e (node_steps o.node o.input).sent) →
        node_reaps e (node_steps o.node o.input).state + sent_reaps (concerning e (node_steps o.node o.input).sent) ≡ node_reaps e o.node
    weighs_by (stays n x) = x.reaps
    weighs_by (ends n x) = x.reaps

    weighs : reaps_of e next + input_weight (mine_reaps e) v.node o.input ≡ reaps_of e w
    weighs =
        let a = weight_moves (node_reaps e) (mine_reaps e) node_steps w v o c.frame.sound.square
        (sound_sends node_laws w v o c.frame.sound) in
        let b = sent_is letter_reaps e (node_steps o.node o.input).sent in
        let d = weighs_by node_what in
        omega (arith, a, b, d)

    -- ---- what is left

    -- whether the entity's Reap came, and what the home has then
    pub data Left : Type 0 where
      alive : (fed ≡ Some (Reap e) → ⊥) → one_if (real_at e next home) ≡ one_if (real_in (flow.slot home)) → Left
      dead : fed ≡ Some (Reap e) → real_at e next home ≡ None → Left

    left_by : Calmed f e home r was none leads told goes.k (flow.slot goes.k) (comes goes.input)
        ((entity_flow e next).slot goes.k) goes.moves.0.sent → Left
    left_by (stays n x) = alive (λ is. n (goes.moves.1 ∙ is)) (elim (cases_eq home goes.k) [
      | inl is ↦
          ap (λ j. one_if (real_at e next j)) is ∙ (x.real ∙ sym (ap (λ j. one_if (real_in (flow.slot j))) is))
      | inr m ↦ ap (λ h. one_if (real_in h)) (goes.others home m)
    ])
    left_by (ends n x) =
        let is = sym goes.moves.1 ∙ n in
        let same : goes.k ≡ home = came_to (Reap e) is in
        dead is (ap (λ j. real_at e next j) (sym same) ∙ x.real)

    pub left : Left
    left = left_by what

    reaps_by : Left → reaps_of e next ≡ cond told (one_if (real_at e next home)) 0
    reaps_by (alive n is) =
        let a = weighs in
        let b = no_reap_weighs e v.node o.input n in
        let same = ap (λ x. cond {A = ℕ} told x 0) is in
        let had = c.reaps in
        omega (arith, a, b, same, had)
    reaps_by (dead is gone) =
        let a = weighs in
        let b = input_is letter_reaps e v.node o.input ∙ ap (weight_or letter_reaps) is in
        let q = waits_by told (real_in (flow.slot home)) (reaps_of e w) (reap_waits e is) c.reaps in
        let zero = ap (λ x. cond {A = ℕ} x (one_if (real_at e next home)) 0) q.2 ∙ ap one_if gone in
        let one = q.3 in
        omega (arith, a, b, zero, one)

    pub calm_happens : IsCalm f e home r was told next
    calm_happens = record {
      frame = frame_happens f w v o c.frame;
      cells = c.cells;
      nodes = slots_kept (λ k h. IsCalmAt e home r was k h) goes c.nodes (at_of what);
      mail = sent_kept (λ a k m. IsCalmTo told home r k m) goes goes.moves.0.sent goes.moves.0.items c.mail (calm_of what);
      reaps = reaps_by left;
    }
