-- A cell in the phase of looks: some of its witnesses have looked, and the others wait in its look list.
use Rattle.seam_law_clients.proofs.Prelude.{◌≡◌, ℕ, ◌+◌, Bool, true, false, cond, not, ◌||◌, is_some, T, List, [], ◌∷◌, map, find, length}
use Rattle.seam_law_clients.proofs.Prelude.{Option, None, Some, refl, sym, ap, ◌∙◌, arith, option_map, AllByRecursion, list_any, nat_cmp}
use Rattle.seam_law_clients.proofs.Prelude.{eq_by_cmp, nat_cmp_total, is_sorted, is_some-find, same_entries, nat_tests, found, Stepped}
use Rattle.seam_law_clients.proofs.Prelude.{copy_in, Here, base_of, is_small, has_ready, RealView, WitnessView, Msg, number_of, has_any}
use Rattle.seam_law_clients.proofs.Prelude.{unless_stray, other_of_real, other_of_copy, looks_of, shown_of, after_looking, looks_with}
use Rattle.seam_law_clients.proofs.Prelude.{stray_look_by, numbered, CellView, slot_of, stepped, known_to, has_witness, witnesses}
use Rattle.seam_law_clients.proofs.Prelude.{cell_task, ready_next, look_next, ready_entity, real_is_ready, looks_around, cell_has_work}
use Rattle.seam_law_clients.proofs.Prelude.{witness_looked, looked_by, having_looked, get-set_at, first, second, tied_same, none_below}
use Rattle.seam_law_clients.proofs.Prelude.{passing, find_filter, sorted_filter, or_else, known_by, known_at, unless_self, known_rises}
use Rattle.seam_law_clients.proofs.Prelude.{known_to_is}
use Rattle.std.proofs.Common.{filter}
use Rattle.std.specs.FinMap as table
use Rattle.seam_node_steps.specs.Prelude.{look_by}
use Rattle.seam_node_steps.specs.Prelude.{tick}

-- whether the entity is in the list
abbrev pub is_in : ℕ → List ℕ → Bool
is_in x ys = list_any (eq_by_cmp nat_cmp x) ys

-- none is in the list twice
abbrev pub NoneTwice : List ℕ → Type 0
NoneTwice [] = Unit {0}
NoneTwice (y ∷ ys) = (is_in y ys ≡ false) × NoneTwice ys

-- the entity has a witness here, whose updates have numbers
pub record MayLook (c : CellView) (y : ℕ) : Type 0 where
  pub real : RealView
  pub witness : WitnessView
  pub here : table.get c.reals y ≡ Some real
  pub has : real.witness ≡ Some witness
  pub small : is_small (witness.sent + length (shown_of c.here real witness (known_to c y))) ≡ true

-- d is the cell c where the witnesses but those of the list have looked
pub record IsMidway (c d : CellView) (rest : List ℕ) : Type 0 where
  pub here : d.here ≡ c.here
  pub survey : d.survey ≡ []
  pub looks : d.looks ≡ rest
  pub ghosts : (x : ℕ) → table.get d.ghosts x ≡ table.get c.ghosts x
  pub reals : (x : ℕ) → table.get d.reals x
      ≡ cond (is_in x rest) (table.get c.reals x) (option_map (having_looked c x) (table.get c.reals x))
  pub once : NoneTwice rest
  pub may : AllByRecursion (MayLook c) rest

-- ---- what a look leaves of what is known

same_shown : (h : Here) (c : CellView) (x : ℕ) (r : RealView) (w : Option WitnessView) →
    other_of_real h (looked_by c x r w) ≡ other_of_real h r
same_shown h c x r None = refl
same_shown h c x r (Some v) = refl

known_same : (h : Here) (c : CellView) (x : ℕ) (b : Bool) (o : Option RealView) →
    option_map (other_of_real h) (cond b o (option_map (having_looked c x) o)) ≡ option_map (other_of_real h) o
known_same h c x true o = refl
known_same h c x false None = refl
known_same h c x false (Some r) = ap (λ y. Some y) (same_shown h c x r r.witness)

same_orders : (c : CellView) (x : ℕ) (r : RealView) (w : Option WitnessView) → has_ready (looked_by c x r w).orders ≡ has_ready r.orders
same_orders c x r None = refl
same_orders c x r (Some v) = refl

ready_same : (c : CellView) (x : ℕ) (b : Bool) (o : Option RealView) (q : RealView) →
    ((r : RealView) → o ≡ Some r → has_ready r.orders ≡ false) → cond b o (option_map (having_looked c x) o) ≡ Some q →
    has_ready q.orders ≡ false
ready_same c x true o q none at = none q at
ready_same c x false None q none at = absurd (let z = at in cc)
ready_same c x false (Some r) q none at =
    let same : having_looked c x r ≡ q = let z = at in cc in
    ap (λ (y : RealView). has_ready y.orders) (sym same) ∙ (same_orders c x r r.witness ∙ none r refl)

-- ---- a look

-- what the cell d is after the look of y, the first of its list, and what is sent
abbrev look_step : CellView → ℕ → List ℕ → RealView → WitnessView → Stepped CellView Msg
look_step d y ys r v =
    stepped (record d { looks = ys }) y
    (looks_with d.here (slot_of d y) r v (known_to d y) (shown_of d.here r v (known_to d y)))

module _ (c : CellView) (unready : (x : ℕ) (r : RealView) → table.get c.reals x ≡ Some r → has_ready r.orders ≡ false) where
  module _ (d : CellView) (rest : List ℕ) (m : IsMidway c d rest) where
    known_at_same : (x : ℕ) → known_at d x ≡ known_at c x
    known_at_same x =
        ap (λ h. known_by h (table.get d.reals x) (copy_in (table.get d.ghosts x))) m.here
        ∙ ap (λ g. known_by c.here (table.get d.reals x) (copy_in g)) (m.ghosts x)
        ∙ ap (λ o. known_by c.here o (copy_in (table.get c.ghosts x))) (m.reals x)
        ∙ ap (λ o. or_else o (option_map (other_of_copy c.here) (copy_in (table.get c.ghosts x))))
        (known_same c.here c x (is_in x rest) (table.get c.reals x))

    pub known_to_same : (e : ℕ) → known_to d e ≡ known_to c e
    known_to_same e =
        same_entries nat_cmp nat_cmp_total table.nat_cmp-IsAntisymmetric (known_to d e) (known_to c e) (known_rises d e) (known_rises c e)
        (λ x. known_to_is d e x ∙ ap (unless_self e x) (known_at_same x) ∙ sym (known_to_is c e x))

    none_ready : ready_entity d ≡ None
    none_ready = by (find real_is_ready (table.entries d.reals)) refl
      where
        by : (o : Option (ℕ × RealView)) → find real_is_ready (table.entries d.reals) ≡ o → option_map number_of o ≡ None
        by None at = refl
        by (Some p) at =
            let two = found real_is_ready d.reals p at in
            let no = ready_same c p.0 (is_in p.0 rest) (table.get c.reals p.0) p.1 (unready p.0) (sym (m.reals p.0) ∙ two.0) in
            absurd (let z = sym no ∙ two.1 in cc)

    -- it has a task as long as some wait
    pub work_is : cell_has_work d ≡ has_any rest
    work_is =
        ap (λ l. has_any l || (is_some (ready_entity d) || has_any d.looks)) m.survey
        ∙ ap (λ o. is_some o || has_any d.looks) none_ready
        ∙ ap has_any m.looks

  module _ (d : CellView) (y : ℕ) (ys : List ℕ) (m : IsMidway c d (y ∷ ys)) where
    abbrev can : MayLook c y
    can = m.may.0

    in_first : is_in y (y ∷ ys) ≡ true
    in_first = ap (λ b. b || is_in y ys) (tied y)
      where
        tied : (a : ℕ) → eq_by_cmp nat_cmp a a ≡ true
        tied a = grind (arith, nat_tests)

    at_first : table.get d.reals y ≡ Some can.real
    at_first =
        m.reals y
        ∙ ap (λ b. cond b (table.get c.reals y) (option_map (having_looked c y) (table.get c.reals y))) in_first
        ∙ can.here

    small_now : is_small (can.witness.sent + length (shown_of d.here can.real can.witness (known_to d y))) ≡ true
    small_now =
        ap (λ h. is_small (can.witness.sent + length (shown_of h can.real can.witness (known_to d y)))) m.here
        ∙ ap (λ k. is_small (can.witness.sent + length (shown_of c.here can.real can.witness k))) (known_to_same d (y ∷ ys) m y)
        ∙ can.small

    pub step_is : cell_task d d.survey ≡ look_step d y ys can.real can.witness
    step_is =
        let e : CellView = record d { looks = ys } in
        ap (cell_task d) m.survey
        ∙ ap (ready_next d) (none_ready d (y ∷ ys) m)
        ∙ ap (look_next d) m.looks
        ∙ ap (λ o. stepped e y (looks_around d y o (known_to d y))) at_first
        ∙ ap (λ o. stepped e y (unless_stray (stray_look_by d.here can.real o (known_to d y))
        (look_by d.here (slot_of d y) can.real o (known_to d y)))) can.has
        ∙ ap (λ b. stepped e y (unless_stray (not b)
        (looks_with d.here (slot_of d y) can.real can.witness (known_to d y) (shown_of d.here can.real can.witness (known_to d y)))))
        small_now

    abbrev pub now : CellView
    now = (look_step d y ys can.real can.witness).state

    having : record can.real { witness = Some (witness_looked d y can.real can.witness) } ≡ having_looked c y can.real
    having =
        ap (λ k. let z : RealView = record can.real {
          witness = Some (after_looking k (looks_of can.real can.witness k)
              (shown_of d.here can.real can.witness k) can.real can.witness);
        } in z) (known_to_same d (y ∷ ys) m y)
        ∙ ap (λ h. let z : RealView = record can.real {
          witness = Some (after_looking (known_to c y) (looks_of can.real can.witness (known_to c y))
              (shown_of h can.real can.witness (known_to c y)) can.real can.witness);
        } in z) m.here
        ∙ sym (ap (looked_by c y can.real) can.has)

    reals_by : (x : ℕ) (b : Bool) → eq_by_cmp nat_cmp x y ≡ b →
        cond b (Some (record can.real { witness = Some (witness_looked d y can.real can.witness) })) (table.get d.reals x)
        ≡ cond (is_in x ys) (table.get c.reals x) (option_map (having_looked c x) (table.get c.reals x))
    reals_by x true tied =
        let same = tied_same x y tied in
        ap (λ q. Some q) having
        ∙ sym (ap (option_map (having_looked c y)) can.here)
        ∙ sym (ap (λ b. cond b (table.get c.reals y) (option_map (having_looked c y) (table.get c.reals y))) m.once.0)
        ∙ ap (λ z. cond (is_in z ys) (table.get c.reals z) (option_map (having_looked c z) (table.get c.reals z))) (sym same)
    reals_by x false tied =
        m.reals x ∙ ap (λ b. cond (b || is_in x ys) (table.get c.reals x) (option_map (having_looked c x) (table.get c.reals x))) tied

    ghosts_by : (x : ℕ) (b : Bool) → eq_by_cmp nat_cmp x y ≡ b → cond b (table.get d.ghosts y) (table.get d.ghosts x) ≡ table.get c.ghosts x
    ghosts_by x true tied = ap (table.get d.ghosts) (sym (tied_same x y tied)) ∙ m.ghosts x
    ghosts_by x false tied = m.ghosts x

    pub next_midway : IsMidway c now ys
    next_midway = record {
      here = m.here;
      survey = m.survey;
      looks = refl;
      ghosts = λ x. get-set_at d.ghosts y x (table.get d.ghosts y) ∙ ghosts_by x (eq_by_cmp nat_cmp x y) refl;
      reals = λ x.
          get-set_at d.reals y x (Some (record can.real { witness = Some (witness_looked d y can.real can.witness) }))
          ∙ reals_by x (eq_by_cmp nat_cmp x y) refl;
      once = m.once.1;
      may = m.may.1;
    }

    pub sent_is : (look_step d y ys can.real can.witness).sent
        ≡ numbered (base_of d.here can.real.entity) can.real.entity can.witness.sent (shown_of d.here can.real can.witness (known_to d y))
    sent_is = refl

-- ---- a tick

module _ (c : CellView) where
  waits : (x : ℕ) → is_in x (witnesses c) ≡ is_some (passing has_witness x (table.get c.reals x))
  waits x =
      sym (is_some-find nat_cmp x (filter has_witness (table.entries c.reals)))
      ∙ ap is_some (find_filter has_witness x (table.entries c.reals) (table.entries_sorted c.reals)
      ∙ ap (passing has_witness x) (sym (table.get-entries c.reals x)))

  ticked_by : (x : ℕ) (o : Option RealView) → o ≡ cond (is_some (passing has_witness x o)) o (option_map (having_looked c x) o)
  ticked_by x None = refl
  ticked_by x (Some r) = by r.witness refl
    where
      by : (w : Option WitnessView) → r.witness ≡ w →
          Some r ≡ cond (is_some (cond (is_some w) (Some r) None)) (Some r) (Some (looked_by c x r w))
      by None at = refl
      by (Some v) at = refl

  none_twice : {X : Type 0} (es : List (ℕ × X)) → T (is_sorted nat_cmp es) → NoneTwice (map number_of es)
  none_twice [] h = tt
  none_twice (e ∷ es) h =
      (sym (is_some-find nat_cmp e.0 es) ∙ ap is_some (none_below e.0 es (first _ _ h)), none_twice es (second _ _ h))

  pub tick_midway : c.survey ≡ [] → AllByRecursion (MayLook c) (witnesses c) → IsMidway c (tick c) (witnesses c)
  tick_midway idle may = record {
    here = refl;
    survey = idle;
    looks = refl;
    ghosts = λ x. refl;
    reals = λ x.
        ticked_by x (table.get c.reals x)
        ∙ sym (ap (λ b. cond b (table.get c.reals x) (option_map (having_looked c x) (table.get c.reals x))) (waits x));
    once = none_twice (filter has_witness (table.entries c.reals)) (sorted_filter has_witness (table.entries c.reals)
        (table.entries_sorted c.reals));
    may = may;
  }
