-- A load that gives a settled entity no call and no reap, as those of the last phases: what the laws of clients ask of it.
use Rattle.seam_law_rounds.proofs.Prelude.{◌≡◌, ℕ, ◌+◌, ◌^◌, ◌<◌, ◌≤◌, false, cond, nat_lt, List, [], ◌∷◌, length, Option, None, Some, refl}
use Rattle.seam_law_rounds.proofs.Prelude.{sym, ap, ◌∙◌, subst, arith, inl, inr, option_map, slice_get, AllByRecursion, cases_eq, eq-eqb}
use Rattle.seam_law_rounds.proofs.Prelude.{ne_eqb, slice_get-map, link, total, Order, RealView, NodeView, World, node_has_work, with_nodes}
use Rattle.seam_law_rounds.proofs.Prelude.{slot_at, letters_of, Frame, IsInFrame, Has, mine, has_of, has_none, entity_flow, real_burden}
use Rattle.seam_law_rounds.proofs.Prelude.{order_burden, node_burden, mine_burden, burden, real_in, HasOne, part_burden, node_base_burden}
use Rattle.seam_law_rounds.proofs.Prelude.{mine_base_burden, base_burden, home_of, real_at, IsSettled, IsBetweenRounds, HasSettledPart}
use Rattle.seam_law_rounds.proofs.Prelude.{lines_of, HasSmallNumbers, quiet_links, weight_or}
use Rattle.seam_call.specs.declared.order.Order.TheVariants as order
use Rattle.seam_law_rounds.proofs.Loading.{node_there}
use Rattle.seam_law_rounds.proofs.Ready.{has_one}
use Rattle.seam_law_rounds.proofs.Room.{no_held, none_below, sum_most, most, rows_none}
use Rattle.seam_law_rounds.proofs.Calm.{IsCalmOrder, order_reaps, IsCalm}
use Rattle.seam_law_rounds.proofs.Ending.{still_settled}
use Rattle.seam_law_rounds.proofs.Starting.{Given}
use Rattle.seam_law_rounds.proofs.PartLoads.{part_at}
use Rattle.seam_law_rounds.proofs.Still.{is_still, none_calls}
use Rattle.seam_law_rounds.proofs.Serving.{HasItStill}

-- calm orders weigh what their reaps do
calm_weigh : (e : ℕ) (os : List Order) → AllByRecursion (IsCalmOrder e) os → total order_burden os ≡ total order_reaps os
calm_weigh e [] h = refl
calm_weigh e (order.Tick ∷ os) h = let more = calm_weigh e os h.1 in omega (arith, more)
calm_weigh e (order.Reap x ∷ os) h = let more = calm_weigh e os h.1 in omega (arith, more)
calm_weigh e (_ ∷ os) h = absurd h.0

module _ (f : Frame) (u : World) (between : IsBetweenRounds f u) (e home : ℕ) (r : RealView) (here : real_at e u home ≡ Some r)
    (had : HasSettledPart f e r.ty u) (small : HasSmallNumbers f u) (turn : NodeView → NodeView) (frame : IsInFrame f (with_nodes u turn))
    (given : (k : ℕ) (s : NodeView) → slice_get u.nodes k ≡ Some s → Given e 0 s (turn s))
    (same : (s : NodeView) → part_at e (turn s) ≡ part_at e s) (calm : IsCalm f e home r u false (with_nodes u turn)) where
  abbrev then : World
  then = with_nodes u turn

  abbrev slot : ℕ → Has
  slot k = (entity_flow e then).slot k

  settled : IsSettled f e home r u
  settled = between.settled e home r here

  no_mail : (a k : ℕ) → (entity_flow e then).mail a k ≡ []
  no_mail a k = ap (letters_of (mine e)) (quiet_links node_has_work u between.nodes.sound.square between.quiet a k)

  -- ---- what each node has

  slot_is : (k : ℕ) → slot k ≡ slot_at (has_of e) has_none (option_map turn (slice_get u.nodes k))
  slot_is k = ap (slot_at (has_of e) has_none) (slice_get-map turn u.nodes k)

  real_by : (k : ℕ) (o : Option NodeView) → slice_get u.nodes k ≡ o → real_in (slot k) ≡ real_at e u k
  real_by k None at =
      ap real_in (slot_is k ∙ ap (λ o. slot_at (has_of e) has_none (option_map turn o)) at)
      ∙ sym (ap (λ o. real_in (slot_at (has_of e) has_none o)) at)
  real_by k (Some s) at =
      ap real_in (slot_is k ∙ ap (λ o. slot_at (has_of e) has_none (option_map turn o)) at)
      ∙ (ap (λ c. c.slot.real) (given k s at).cell ∙ sym (ap (λ o. real_in (slot_at (has_of e) has_none o)) at))

  real_stays : (k : ℕ) → real_in (slot k) ≡ real_at e u k
  real_stays k = real_by k (slice_get u.nodes k) refl

  part_by : (k : ℕ) (o : Option NodeView) → slice_get u.nodes k ≡ o → (slot k).base.part ≡ ((entity_flow e u).slot k).base.part
  part_by k None at =
      ap (λ h. h.base.part) (slot_is k ∙ ap (λ o. slot_at (has_of e) has_none (option_map turn o)) at)
      ∙ sym (ap (λ o. (slot_at (has_of e) has_none o).base.part) at)
  part_by k (Some s) at =
      ap (λ h. h.base.part) (slot_is k ∙ ap (λ o. slot_at (has_of e) has_none (option_map turn o)) at)
      ∙ (same s ∙ sym (ap (λ o. (slot_at (has_of e) has_none o).base.part) at))

  pub part_stays : (k : ℕ) → (slot k).base.part ≡ ((entity_flow e u).slot k).base.part
  part_stays k = part_by k (slice_get u.nodes k) refl

  -- ---- its numbers

  real_weighs : (k : ℕ) (t : NodeView) → (has_of e t ≡ slot k) → AllByRecursion (IsCalmOrder e) (has_of e t).base.orders →
      total order_reaps (has_of e t).base.orders ≡ 0 → (has_of e t).cell.survey ≡ 0 → node_burden e t ≤ most home (real_burden r) [] k
  real_weighs k t is orders none survey = elim (cases_eq k home) [
    | inl at ↦
        let a = ap (weight_or real_burden) (ap real_in is ∙ (real_stays k ∙ (ap (λ j. real_at e u j) at ∙ here))) in
        let b = calm_weigh e (has_of e t).base.orders orders in
        rw (eq-eqb k home at) (omega (arith, a, b, none, survey))
    | inr n ↦
        let a = ap (weight_or real_burden) (ap real_in is ∙ (real_stays k ∙ settled.others k n)) in
        let b = calm_weigh e (has_of e t).base.orders orders in
        rw (ne_eqb k home n) (omega (arith, a, b, none, survey))
  ]

  part_weighs : (k : ℕ) (t : NodeView) → (has_of e t ≡ slot k) → AllByRecursion (IsCalmOrder e) (has_of e t).base.orders →
      node_base_burden e t ≤ most (home_of f e) had.part.version [] k
  part_weighs k t is orders = elim (cases_eq k (home_of f e)) [
    | inl at ↦
        let a =
        ap (weight_or part_burden) (ap (λ h. h.base.part) is ∙ (part_stays k
        ∙ (ap (λ j. ((entity_flow e u).slot j).base.part) at ∙ had.here))) in
        let b = ap length (none_calls e (has_of e t).base.orders orders) in
        let c = no_held had.part.orders had.none_held in
        rw (eq-eqb k (home_of f e) at) (omega (arith, a, b, c))
    | inr n ↦
        let a = ap (weight_or part_burden) (ap (λ h. h.base.part) is ∙ (part_stays k ∙ had.others k n)) in
        let b = ap length (none_calls e (has_of e t).base.orders orders) in
        rw (ne_eqb k (home_of f e) n) (omega (arith, a, b))
  ]

  there : (k : ℕ) (t : NodeView) → slice_get then.nodes k ≡ Some t → has_of e t ≡ slot k
  there k t at = sym (ap (slot_at (has_of e) has_none) at)

  from : (k : ℕ) (t : NodeView) → slice_get then.nodes k ≡ Some t → (s : NodeView) × Given e 0 s t
  from k t at =
      let n = node_there (slice_get u.nodes k) turn t (sym (slice_get-map turn u.nodes k) ∙ at) in
      (n.0, subst (Given e 0 n.0) n.2 (given k n.0 n.1))

  links_none : (a b : ℕ) → link u.rows a b ≡ []
  links_none = quiet_links node_has_work u between.nodes.sound.square between.quiet

  few_real : burden e then ≤ real_burden r
  few_real =
      let sum = sum_most home (real_burden r) [] (node_burden e) 0 then.nodes (λ j t at.
      let is : j ≡ j + 0 = omega arith in
      let g = from j t at in
      subst (λ i. node_burden e t ≤ most home (real_burden r) [] i) is
      (real_weighs j t (there j t at) g.1.orders g.1.reaps (ap (λ h. h.cell.survey) (there j t at) ∙ (calm.nodes j).survey))) in
      let links = rows_none (mine_burden e) u.rows links_none in
      let past : cond {A = ℕ} (nat_lt home 0) 0 (real_burden r) ≡ real_burden r =
      ap (λ c. cond {A = ℕ} c 0 (real_burden r)) (none_below home) in
      omega (arith, sum, links, past)

  pub few_part : base_burden e then ≤ had.part.version
  few_part =
      let at = home_of f e in
      let sum = sum_most at had.part.version [] (node_base_burden e) 0 then.nodes (λ j t at.
      let is : j ≡ j + 0 = omega arith in
      subst (λ i. node_base_burden e t ≤ most (home_of f e) had.part.version [] i) is
      (part_weighs j t (there j t at) (from j t at).1.orders)) in
      let links = rows_none (mine_base_burden e) u.rows links_none in
      let past : cond {A = ℕ} (nat_lt at 0) 0 had.part.version ≡ had.part.version =
      ap (λ c. cond {A = ℕ} c 0 had.part.version) (none_below at) in
      omega (arith, sum, links, past)

  pub few_lines : lines_of r had.part < 2 ^ 61 + 2 ^ 60
  few_lines = small.clients e home r here had.part had.here

  -- ---- all of it

  one_then : HasOne f e r.ty then
  one_then =
      let few = small.reals e home r here in
      let held = no_held r.orders settled.none_held in
      let less = few_real in
      has_one f then e home r (still_settled f e home r u settled false then calm home r (real_stays home ∙ here)) no_mail frame
      (omega (arith, few, held, less))

  pub still_then : HasItStill f e r.ty r had.part then
  still_then = record {
    frame = between.frame;
    known = settled.type;
    one = one_then;
    spared = (is_still f u between e r.ty had turn frame given same).spared;
    still = no_mail;
    real = λ k q at. elim (cases_eq k home) [
      | inl is ↦
          let z = sym here ∙ (ap (λ j. real_at e u j) (sym is) ∙ (sym (real_stays k) ∙ at)) in
          cc
      | inr n ↦ absurd (let z = sym (real_stays k ∙ settled.others k n) ∙ at in cc)
    ];
    here = part_stays (home_of f e) ∙ had.here;
    others = λ k n. part_stays k ∙ had.others k n;
  }
