-- A quiet world that is told to reap some entities, or that witnesses look, is calm for each entity that is there.
use Rattle.seam_law_rounds.proofs.Prelude.{◌≡◌, ℕ, zero, suc, ◌+◌, ◌<◌, ◌≤◌, Bool, true, false, cond, eqb, List, [], ◌∷◌, length, Option}
use Rattle.seam_law_rounds.proofs.Prelude.{None, Some, refl, sym, ap, ◌∙◌, subst, arith, inl, inr, option_map, slice_get, length-map}
use Rattle.seam_law_rounds.proofs.Prelude.{AllByRecursion, cases_eq, eqb-true, eq-eqb, ne_eqb, mod-lt, slice_get-map, total, RealView}
use Rattle.seam_law_rounds.proofs.Prelude.{base_of, NodeView, World, node_has_work, Cell, Base, with_nodes, letters_of, slot_at, Frame}
use Rattle.seam_law_rounds.proofs.Prelude.{here_at, IsInFrame, mine, orders_of, times, has_of, has_none, entity_flow, real_in, real_at}
use Rattle.seam_law_rounds.proofs.Prelude.{IsSettled, IsBetweenRounds, each, quiet_links, quiet_tasks}
use Rattle.std.specs.List.{IsDistinct}
use Rattle.seam_law_rounds.proofs.Loading.{node_there}
use Rattle.seam_law_rounds.proofs.Loaded.{no_items}
use Rattle.seam_law_rounds.proofs.Room.{rows_none}
use Rattle.seam_law_rounds.proofs.Calm.{IsCalmOrder, IsCalmAt, IsCalmTo, has_reaps, node_reaps, mine_reaps, one_if, IsCalm}

-- ---- lists

-- where one element weighs n and each other nothing, all weigh n
pub none_weighs : {N : Type 0} (g : N → ℕ) (xs : List N) → ((k : ℕ) (x : N) → slice_get xs k ≡ Some x → g x ≡ 0) → total g xs ≡ 0
none_weighs g [] each = refl
none_weighs g (x ∷ xs) each =
    let here = each 0 x refl in
    let rest = none_weighs g xs (λ k y at. each (suc k) y at) in
    omega (arith, here, rest)

one_weighs : {N : Type 0} (g : N → ℕ) (xs : List N) (j n : ℕ) → j < length xs →
    ((k : ℕ) (x : N) → slice_get xs k ≡ Some x → g x ≡ cond (eqb k j) n 0) → total g xs ≡ n
one_weighs g [] j n lt each = absurd (omega (arith, lt))
one_weighs g (x ∷ xs) zero n lt each =
    let here = each 0 x refl in
    let rest = none_weighs g xs (λ k y at. each (suc k) y at ∙ ap (λ b. cond {A = ℕ} b n 0) (ne_eqb (suc k) 0 (λ is. omega (arith, is)))) in
    omega (arith, here, rest)
one_weighs g (x ∷ xs) (suc j) n lt each =
    let here = each 0 x refl ∙ ap (λ b. cond {A = ℕ} b n 0) (ne_eqb 0 (suc j) (λ is. omega (arith, is))) in
    let rest = one_weighs g xs j n (omega (arith, lt)) (λ k y at. each (suc k) y at ∙ ap (λ b. cond {A = ℕ} b n 0) (step k j)) in
    omega (arith, here, rest)
  where
    step : (k j : ℕ) → eqb (suc k) (suc j) ≡ eqb k j
    step k j = elim (cases_eq k j) [
      | inl is ↦ eq-eqb (suc k) (suc j) (ap suc is) ∙ sym (eq-eqb k j is)
      | inr n ↦ ne_eqb (suc k) (suc j) (λ is. n (omega (arith, is))) ∙ sym (ne_eqb k j n)
    ]

none_by : (e x n : ℕ) (b : Bool) → eqb x e ≡ b → eqb e x ≡ false → n ≡ 0 → cond {A = ℕ} b (n + 1) n ≡ 0
none_by e x n true is apart none = absurd (let z = sym (eq-eqb e x (sym (eqb-true x e is))) ∙ apart in cc)
none_by e x n false is apart none = none

others_none : (e : ℕ) (xs : List ℕ) → AllByRecursion (λ x. eqb e x ≡ false) xs → times e xs ≡ 0
others_none e [] h = refl
others_none e (x ∷ xs) h = none_by e x (times e xs) (eqb x e) refl h.0 (others_none e xs h.1)

one_by : (e x : ℕ) (xs : List ℕ) (b : Bool) → eqb x e ≡ b → AllByRecursion (λ y. eqb x y ≡ false) xs → times e xs ≤ 1 →
    cond {A = ℕ} b (times e xs + 1) (times e xs) ≤ 1
one_by e x xs true is apart more =
    let none = others_none e xs (subst (λ y. AllByRecursion (λ z. eqb y z ≡ false) xs) (eqb-true x e is) apart) in
    omega (arith, none)
one_by e x xs false is apart more = more

-- how often it is in a list without repeats
pub times_at_most_one : (e : ℕ) (xs : List ℕ) → IsDistinct eqb xs → times e xs ≤ 1
unfolding IsDistinct
times_at_most_one e [] h = omega arith
times_at_most_one e (x ∷ xs) h = one_by e x xs (eqb x e) refl h.0 (times_at_most_one e xs h.1)

-- ---- a load that only gives orders

-- the node has the same of the entity but for orders, which are calm and of which so many are reaps
pub record Given (e : ℕ) (n : ℕ) (s t : NodeView) : Type 0 where
  pub cell : (has_of e t).cell ≡ (has_of e s).cell
  pub route : (has_of e t).base.route ≡ (has_of e s).base.route
  pub orders : AllByRecursion (IsCalmOrder e) (has_of e t).base.orders
  pub reaps : has_reaps (has_of e t) ≡ n

idle_survey : (e : ℕ) (s : NodeView) → node_has_work s ≡ false → (has_of e s).cell.survey ≡ 0
idle_survey e (Cell c) h = ap (times e) (no_items c.survey _ h)
idle_survey e (Base n) h = refl

pub idle_orders : (e : ℕ) (s : NodeView) → node_has_work s ≡ false → (has_of e s).base.orders ≡ []
idle_orders e (Cell c) h = refl
idle_orders e (Base n) h = ap (orders_of e) (no_items n.orders _ h)

module _ (f : Frame) (u : World) (between : IsBetweenRounds f u) (e home : ℕ) (r : RealView) (here : real_at e u home ≡ Some r)
    (turn : NodeView → NodeView) (told : Bool) (frame : IsInFrame f (with_nodes u turn))
    (stay : (k : ℕ) → real_at e (with_nodes u turn) k ≡ real_at e u k) where
  abbrev base : ℕ
  base = base_of (here_at f 0) e

  settled : IsSettled f e home r u
  settled = between.settled e home r here

  abbrev then : World
  then = with_nodes u turn

  module _ (bases : 1 ≤ f.settings.bases)
      (given : (k : ℕ) (s : NodeView) → slice_get u.nodes k ≡ Some s → Given e (cond (eqb k base) (cond told 1 0) 0) s (turn s)) where
    there : (k : ℕ) (t : NodeView) → slice_get then.nodes k ≡ Some t → (s : NodeView) × (slice_get u.nodes k ≡ Some s) × (turn s ≡ t)
    there k t at = node_there (slice_get u.nodes k) turn t (sym (slice_get-map turn u.nodes k) ∙ at)

    was : (k : ℕ) (s : NodeView) → slice_get u.nodes k ≡ Some s → has_of e s ≡ (entity_flow e u).slot k
    was k s at = sym (ap (slot_at (has_of e) has_none) at)

    real_by : (k : ℕ) (q : RealView) → real_at e u k ≡ Some q → (k ≡ home) × (r ≡ q)
    real_by k q at = elim (cases_eq k home) [
      | inl is ↦ (is, (let z = sym here ∙ ap (λ j. real_at e u j) (sym is) ∙ at in cc))
      | inr n ↦ absurd (let z = sym (settled.others k n) ∙ at in cc)
    ]

    at_node : (k : ℕ) (t : NodeView) → slice_get then.nodes k ≡ Some t → IsCalmAt e home r u k (has_of e t)
    at_node k t at =
        let n = there k t at in
        let s = n.0 in
        let g = subst (Given e (cond (eqb k base) (cond told 1 0) 0) s) n.2 (given k s n.1) in
        let idle = quiet_tasks node_has_work u between.quiet k s n.1 in
        record {
          survey = ap (λ c. c.survey) g.cell ∙ idle_survey e s idle;
          real = λ q h.
              let is = real_by k q (sym (ap real_in (was k s n.1)) ∙ (sym (ap (λ c. c.slot.real) g.cell) ∙ h)) in
              (is.0, (r.witness, is.1));
          orders = g.orders;
          route = g.route ∙ ap (λ h. h.base.route) (was k s n.1);
        }

    none_at : (k : ℕ) (o : Option NodeView) → slice_get then.nodes k ≡ o → IsCalmAt e home r u k (slot_at (has_of e) has_none o)
    none_at k (Some t) at = at_node k t at
    none_at k None at = record {
      survey = refl;
      real = λ q h. absurd (let z = h in cc);
      orders = tt;
      route = sym (gone k (slice_get u.nodes k) refl (sym (slice_get-map turn u.nodes k) ∙ at));
    }
      where
        gone : (k : ℕ) (o : Option NodeView) → slice_get u.nodes k ≡ o → option_map turn (slice_get u.nodes k) ≡ None →
            ((entity_flow e u).slot k).base.route ≡ None
        gone k None at none = ap (λ o. (slot_at (has_of e) has_none o).base.route) at
        gone k (Some s) at none = absurd (let z = sym (ap (option_map turn) at) ∙ none in cc)

    no_mail : (a k : ℕ) → (entity_flow e then).mail a k ≡ []
    no_mail a k = ap (letters_of (mine e)) (quiet_links node_has_work u between.nodes.sound.square between.quiet a k)

    low : base < length then.nodes
    low =
        let many = length-map u.nodes turn ∙ between.many in
        let lt = mod-lt e {m = f.settings.bases} (omega (arith, bases)) in
        omega (arith, many, lt)

    total_is : total (node_reaps e) then.nodes ≡ cond told 1 0
    total_is = one_weighs (node_reaps e) then.nodes base (cond told 1 0) low (λ k t at.
        let n = there k t at in
        subst (λ x. node_reaps e x ≡ cond (eqb k base) (cond told 1 0) 0) n.2 (given k n.0 n.1).reaps)

    pub starts_calm : IsCalm f e home r u told then
    starts_calm = record {
      frame = frame;
      cells = between.frame.tree.cells_to;
      nodes = λ k. none_at k (slice_get then.nodes k) refl;
      mail = λ a k. subst (AllByRecursion (IsCalmTo told home r k)) (sym (no_mail a k)) tt;
      reaps =
          let links = rows_none (mine_reaps e) u.rows (quiet_links node_has_work u between.nodes.sound.square between.quiet) in
          let nodes = total_is in
          let real = ap (λ o. cond {A = ℕ} told (one_if o) 0) (stay home ∙ here) in
          omega (arith, links, nodes, real);
    }
