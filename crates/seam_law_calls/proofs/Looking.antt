-- What a step does with an entity's witness: it looks at what the cell knows of others, or its entry in the look list is not taken.
use Rattle.seam_law_calls.proofs.Prelude.{◌≡◌, ℕ, ◌+◌, ◌⊎◌, Bool, true, false, cond, List, [], ◌∷◌, Option, None, Some, refl, sym, ap, ◌∙◌}
use Rattle.seam_law_calls.proofs.Prelude.{subst, inl, inr, nat_cmp, eq_by_cmp, unsigned_tied, Ordering, Less, Equal, Greater, cases_eq}
use Rattle.seam_law_calls.proofs.Prelude.{eq-eqb, ne_eqb, Input, Task, From, OrderView, next_item, Call as CallData, Shown}
use Rattle.seam_law_calls.proofs.Prelude.{ready_order, order_of, executed, executed_ready, RealView, WitnessView, Msg, GhostSet, Tick, Reap}
use Rattle.seam_law_calls.proofs.Prelude.{Here, base_of, Slot, NextPlace, SlotStep, slot_after, settled, settled_by, home_after, about}
use Rattle.seam_law_calls.proofs.Prelude.{slot_steps, is_stray, call_next_place, ghost_set, reap, survey_task, stray_survey}
use Rattle.seam_law_calls.proofs.Prelude.{ready_call_task, stray_ready_call, ready_in, Known, numbered, shown_of, looks_of, after_looking}
use Rattle.seam_law_calls.proofs.Prelude.{look_task, look_by, stray_look, stray_look_by, CellView, slot_of, after_slot, unlisted_by}
use Rattle.seam_law_calls.proofs.Prelude.{stepped, cell_steps, cell_task, ready_next, look_next, ready_entity, calls_ready}
use Rattle.seam_law_calls.proofs.Prelude.{looks_around, known_to, AreUnderTheirEntities, letter_in, mine, concerning, times, AtCell}
use Rattle.seam_law_calls.proofs.Prelude.{at_cell, entity_of, case_of, call, slot_stepped}
use Rattle.std.specs.FinMap as table
use Rattle.seam_node_steps.specs.Prelude.{shows}
use Rattle.seam_node_steps.specs.Prelude.{unless_stray}
use Rattle.seam_node_steps.specs.Prelude.{executes_ready}
use Rattle.seam_node_steps.specs.Prelude.{surveys}
use Rattle.seam_entity.specs.declared.message.Msg.TheVariants.{Call}
use Rattle.seam_node_steps.specs.CellCases.{offered}
use Rattle.seam_law_calls.proofs.Lists.{AllAbout, concerning_own, concerning_other, times_own}
use Rattle.seam_law_calls.proofs.Sent.{slot_about, surveys_about, readies_about, looks_about}
use Rattle.seam_node_steps.specs.Prelude.{Boundaries, Bounds, BringsNone, IsPlainInput, Stepped, at_start, boundaries_of}
use Rattle.seam_node_steps.proofs.Plain.{plainly, steps_plainly}

-- ---- what leaves the lists goes with its real

module _ (s : Slot) where
  -- a step that takes the entity off the lists leaves no real
  abbrev TakesReal : SlotStep → Type 0
  TakesReal x = x.unlisted ≡ true → (slot_after x.slot s).real ≡ None

  settled_takes : (b : Bool) (h : Here) (t : Boundaries) (r : RealView) (changed : Bool) (j : ℕ) → TakesReal
      (settled_by b h t s r changed j)
  settled_takes true h t r changed j is = cc
  settled_takes false h t r changed j is = refl

  settle_takes : (h : Here) (t : Boundaries) (r : RealView) (changed : Bool) → TakesReal (settled h t s r changed)
  settle_takes h t r changed = settled_takes _ h t r changed (home_after h t.tree r.state.pos)

  offered_takes : (h : Here) (t : Boundaries) (r : RealView) (k : CallData) (o : Ordering) → TakesReal (offered h t s r k o)
  offered_takes h t r k Less is = cc
  offered_takes h t r k Equal is = settle_takes h t (executed h r k) (shows h r k) is
  offered_takes h t r k Greater is = cc

  passed_takes : (k : CallData) (n : Option NextPlace) → TakesReal (call_next_place k n)
  passed_takes k None is = cc
  passed_takes k (Some n) is = cc

  call_takes : (h : Here) (t : Boundaries) (k : CallData) (o : Option RealView) → TakesReal (call h t s k o)
  call_takes h t k (Some r) is = offered_takes h t r k (nat_cmp k.number (order_of r.orders k.sender).next) is
  call_takes h t k None is = passed_takes k s.next is

  reap_takes : (o : Option RealView) → TakesReal (reap s o)
  reap_takes (Some r) is = refl
  reap_takes None is = cc

  set_takes : (beat : ℕ) (c : _) (o : Option RealView) → TakesReal (ghost_set s beat c o)
  set_takes beat c None is = cc
  set_takes beat c (Some r) is = cc

  case_takes : (h : Here) (t : Boundaries) (m : Msg) → TakesReal (case_of h t s m)
  case_takes h t (Call k) is = call_takes h t k s.real is
  case_takes h t (GhostSet e beat c) is = set_takes beat c s.real is
  case_takes h t (Reap e) is = reap_takes s.real is
  case_takes h t _ is = cc

  unless_takes : (b : Bool) (x : SlotStep) → TakesReal x → TakesReal (unless_stray b x)
  unless_takes true x h is = cc
  unless_takes false x h is = h is

  survey_takes : (h : Here) (t : Boundaries) (o : Option RealView) → TakesReal (survey_task h t s o)
  survey_takes h t (Some r) is = settle_takes h t r false is
  survey_takes h t None is = cc

  item_takes : (h : Here) (t : Boundaries) (r : RealView) (o : ℕ × OrderView CallData) (k : Option CallData) →
      TakesReal (executes_ready h t s r o k)
  item_takes h t r o (Some k) is = settle_takes h t (executed_ready h r o k) (shows h r k) is
  item_takes h t r o None is = cc

  order_takes : (h : Here) (t : Boundaries) (r : RealView) (o : Option (ℕ × OrderView CallData)) → TakesReal (ready_in h t s r o)
  order_takes h t r (Some o) is = item_takes h t r o (next_item o.1) is
  order_takes h t r None is = cc

  ready_takes : (h : Here) (t : Boundaries) (o : Option RealView) → TakesReal (ready_call_task h t s o)
  ready_takes h t (Some r) is = order_takes h t r (ready_order r.orders) is
  ready_takes h t None is = cc

-- ---- what a step does with the witness

-- the entity's entry in the look list is not taken
pub data NotTaken (s : AtCell) (i : Option Msg) (t : AtCell) : Type 0 where
  as_often : t.looks ≡ s.looks → NotTaken s i t
  gone : t.slot.real ≡ None → NotTaken s i t
  ticked : i ≡ Some Tick → NotTaken s i t

-- the real after its witness w looked at what is known
abbrev pub looked_at : Here → List Known → RealView → WitnessView → RealView
looked_at h known r w = record r { witness = Some (after_looking known (looks_of r w known) (shown_of h r w known) r w) }

-- the witness w of the real r looks at what is known
pub record LooksAt (b e : ℕ) (h : Here) (known : List Known) (s t : AtCell) (sent : List (ℕ × Msg)) : Type 0 where
  pub real : RealView
  pub witness : WitnessView
  pub was : s.slot.real ≡ Some real
  pub seen : real.witness ≡ Some witness
  pub taken : s.looks ≡ t.looks + 1
  pub is : t.slot.real ≡ Some (looked_at h known real witness)
  pub tells : sent ≡ numbered b e witness.sent (shown_of h real witness known)

-- what a cell that knows this of others than e does with its witness
pub data Look (e : ℕ) (h : Here) (known : List Known) (s : AtCell) (i : Option Msg) (t : AtCell) (sent : List (ℕ × Msg)) : Type 0 where
  still : t.slot.real ≡ s.slot.real → sent ≡ [] → Look e h known s i t sent
  elsewhere : NotTaken s i t → Look e h known s i t sent
  looks : LooksAt (base_of h e) e h known s t sent → Look e h known s i t sent

numbered_about : (e b : ℕ) (us : List Shown) (n : ℕ) → AllAbout e (numbered b e n us)
numbered_about e b [] n = tt
numbered_about e b (u ∷ us) n = (refl, numbered_about e b us (n + 1))

tied : (e : ℕ) → eq_by_cmp nat_cmp e e ≡ true
tied e = unsigned_tied e e ∙ eq-eqb e e refl

apart : (e x : ℕ) → (x ≡ e → ⊥) → eq_by_cmp nat_cmp e x ≡ false
apart e x n = unsigned_tied e x ∙ ne_eqb e x (λ q. n (sym q))

own_slot : (c : CellView) (e : ℕ) (x : SlotStep) → slot_of (stepped c e x).state e ≡ slot_after x.slot (slot_of c e)
own_slot c e x = slot_stepped c e e x ∙ ap (λ b. cond b (slot_after x.slot (slot_of c e)) (slot_of c e)) (tied e)

other_slot : (c : CellView) (y e : ℕ) (x : SlotStep) → (y ≡ e → ⊥) → slot_of (stepped c y x).state e ≡ slot_of c e
other_slot c y e x n = slot_stepped c y e x ∙ ap (λ b. cond b (slot_after x.slot (slot_of c y)) (slot_of c e)) (apart e y n)

module _ (c : CellView) (keys : AreUnderTheirEntities c.reals) (e : ℕ) where
  abbrev Does : Option Msg → CellView → List (ℕ × Msg) → Type 0
  Does i d sent = Look e c.here (known_to c e) (at_cell e c) i (at_cell e d) (concerning e sent)

  -- a step of another's slot, of the cell with other lists
  others : (i : Option Msg) (d : CellView) (y : ℕ) (x : SlotStep) → (y ≡ e → ⊥) → slot_of d e ≡ slot_of c e →
      concerning e x.sent ≡ [] → Does i (stepped d y x).state x.sent
  others i d y x n same none = still (ap (λ s. s.real) (other_slot d y e x n ∙ same)) none

  -- a step of its own slot that takes it off the lists only with its real
  not_taken : (i : Option Msg) (d : CellView) (x : SlotStep) → slot_of d e ≡ slot_of c e → d.looks ≡ c.looks → TakesReal (slot_of c e) x →
      (b : Bool) → x.unlisted ≡ b → NotTaken (at_cell e c) i (at_cell e (stepped d e x).state)
  not_taken i d x same entries takes true is =
      gone (ap (λ s. s.real) (own_slot d e x) ∙ (ap (λ s. (slot_after x.slot s).real) same ∙ takes is))
  not_taken i d x same entries takes false is =
      as_often (ap (λ b. times e (unlisted_by b (after_slot d e x.slot) e).looks) is ∙ (kept x.slot ∙ ap (times e) entries))
    where
      kept : (o : Option Slot) → times e (unlisted_by false (after_slot d e o) e).looks ≡ times e d.looks
      kept None = refl
      kept (Some s) = refl

  own : (i : Option Msg) (d : CellView) (x : SlotStep) (sent : List (ℕ × Msg)) → slot_of d e ≡ slot_of c e → d.looks ≡ c.looks →
      TakesReal (slot_of c e) x → Look e c.here (known_to c e) (at_cell e c) i (at_cell e (stepped d e x).state) sent
  own i d x sent same entries takes = elsewhere (not_taken i d x same entries takes x.unlisted refl)

  -- ---- tasks

  survey_by : (y : ℕ) (es : List ℕ) → (y ≡ e) ⊎ (y ≡ e → ⊥) → Does None (cell_task c (y ∷ es)).state (cell_task c (y ∷ es)).sent
  survey_by y es (inl is) =
      subst (λ z. Does None (cell_task c (z ∷ es)).state (cell_task c (z ∷ es)).sent) (sym is)
      (own None (record c { survey = es }) (surveys c e (table.get c.reals e)) _ refl refl
      (unless_takes (slot_of c e) (stray_survey (table.get c.reals e)) _
      (survey_takes (slot_of c e) c.here (boundaries_of c) (table.get c.reals e))))
  survey_by y es (inr n) =
      let x = surveys c y (table.get c.reals y) in
      others None (record c { survey = es }) y x n refl
      (concerning_other e y x.sent
      (surveys_about y c.here (boundaries_of c) (slot_of c y) (stray_survey (table.get c.reals y)) (table.get c.reals y) (keys y)) n)

  -- it is its turn to look
  module _ (es : List ℕ) (at : c.looks ≡ e ∷ es) where
    abbrev rest : CellView
    rest = record c { looks = es }

    abbrev s : Slot
    s = slot_of c e

    abbrev Sees : SlotStep → Type 0
    Sees x = Does None (stepped rest e x).state x.sent

    one_less : (o : Option Slot) → times e c.looks ≡ times e (unlisted_by false (after_slot rest e o) e).looks + 1
    one_less None = ap (times e) at ∙ times_own e es
    one_less (Some t) = ap (times e) at ∙ times_own e es

    rests_here : Sees (record { slot = None; unlisted = false; sent = [] })
    rests_here = still (ap (λ t. t.real) (own_slot rest e (record { slot = None; unlisted = false; sent = [] }))) refl

    looks_with_it : (r : RealView) (w : WitnessView) → table.get c.reals e ≡ Some r → r.witness ≡ Some w →
        Sees (look_by c.here s r (Some w) (known_to c e))
    looks_with_it r w has seen =
        let x = look_by c.here s r (Some w) (known_to c e) in
        looks (record {
          real = r;
          witness = w;
          was = has;
          seen = seen;
          taken = one_less x.slot;
          is = ap (λ t. t.real) (own_slot rest e x);
          tells =
              ap (λ j. concerning e (numbered (base_of c.here j) j w.sent (shown_of c.here r w (known_to c e)))) (keys e r has)
              ∙ concerning_own e (numbered (base_of c.here e) e w.sent (shown_of c.here r w (known_to c e)))
              (numbered_about e (base_of c.here e) (shown_of c.here r w (known_to c e)) w.sent);
        })

    look_if : (b : Bool) (r : RealView) (w : WitnessView) → table.get c.reals e ≡ Some r → r.witness ≡ Some w →
        Sees (unless_stray b (look_by c.here s r (Some w) (known_to c e)))
    look_if true r w has seen = rests_here
    look_if false r w has seen = looks_with_it r w has seen

    look_in : (r : RealView) (o : Option WitnessView) → table.get c.reals e ≡ Some r → r.witness ≡ o →
        Sees (unless_stray (stray_look_by c.here r o (known_to c e)) (look_by c.here s r o (known_to c e)))
    look_in r None has seen = rests_here
    look_in r (Some w) has seen = look_if (stray_look_by c.here r (Some w) (known_to c e)) r w has seen

    look_at : (o : Option RealView) → table.get c.reals e ≡ o →
        Sees (unless_stray (stray_look c.here o (known_to c e)) (look_task c.here s o (known_to c e)))
    look_at None has = rests_here
    look_at (Some r) has = look_in r r.witness has refl

  look_here : (y : ℕ) (es : List ℕ) → c.looks ≡ y ∷ es → (y ≡ e) ⊎ (y ≡ e → ⊥) →
      Does None (look_next c (y ∷ es)).state (look_next c (y ∷ es)).sent
  look_here y es at (inl is) =
      subst (λ z. Does None (look_next c (z ∷ es)).state (look_next c (z ∷ es)).sent) (sym is)
      (look_at es (at ∙ ap (λ z. z ∷ es) is) (table.get c.reals e) refl)
  look_here y es at (inr n) =
      let x = looks_around c y (table.get c.reals y) (known_to c y) in
      others None (record c { looks = es }) y x n refl
      (concerning_other e y x.sent
      (looks_about y c.here (boundaries_of c) (slot_of c y) (stray_look c.here (table.get c.reals y) (known_to c y)) (table.get c.reals y)
      (known_to c y) (keys y)) n)

  look_next_does : (es : List ℕ) → c.looks ≡ es → Does None (look_next c es).state (look_next c es).sent
  look_next_does [] at = still refl refl
  look_next_does (y ∷ es) at = look_here y es at (cases_eq y e)

  ready_by : (y : ℕ) → (y ≡ e) ⊎ (y ≡ e → ⊥) → Does None (ready_next c (Some y)).state (ready_next c (Some y)).sent
  ready_by y (inl is) =
      subst (λ z. Does None (ready_next c (Some z)).state (ready_next c (Some z)).sent) (sym is)
      (own None c (calls_ready c e (table.get c.reals e)) _ refl refl
      (unless_takes (slot_of c e) (stray_ready_call (table.get c.reals e)) _
      (ready_takes (slot_of c e) c.here (boundaries_of c) (table.get c.reals e))))
  ready_by y (inr n) =
      let x = calls_ready c y (table.get c.reals y) in
      others None c y x n refl
      (concerning_other e y x.sent
      (readies_about y c.here (boundaries_of c) (slot_of c y) (stray_ready_call (table.get c.reals y)) (table.get c.reals y) (keys y)) n)

  ready_does : (o : Option ℕ) → Does None (ready_next c o).state (ready_next c o).sent
  ready_does (Some y) = ready_by y (cases_eq y e)
  ready_does None = look_next_does c.looks refl

  task_does : (es : List ℕ) → Does None (cell_task c es).state (cell_task c es).sent
  task_does [] = ready_does (ready_entity c)
  task_does (y ∷ es) = survey_by y es (cases_eq y e)

  -- ---- messages

  hears_by : (i : Option Msg) (m : Msg) (y : ℕ) → about m ≡ Some y → (y ≡ e) ⊎ (y ≡ e → ⊥) →
      Does i (plainly c m (Some y)).state (plainly c m (Some y)).sent
  hears_by i m y a (inl is) =
      subst (λ z. Does i (plainly c m (Some z)).state (plainly c m (Some z)).sent) (sym is)
      (own i c (slot_steps c.here (at_start c.tree) (slot_of c e) m) _ refl refl
      (unless_takes (slot_of c e) (is_stray c.here c.tree (slot_of c e) m) _ (case_takes (slot_of c e) c.here (at_start c.tree) m)))
  hears_by i m y a (inr n) =
      let x = slot_steps c.here (at_start c.tree) (slot_of c y) m in
      others i c y x n refl (concerning_other e y x.sent (slot_about y c.here (at_start c.tree) (slot_of c y) m a (keys y)) n)

  hears_does : (m : Msg) → BringsNone m → Does (mine e m) (plainly c m (about m)).state (plainly c m (about m)).sent
  hears_does Tick none = elsewhere (ticked refl)
  hears_does (Bounds b) none = cc
  hears_does m none = hears_by _ m (entity_of m) refl (cases_eq (entity_of m) e)

  pub cell_looks : c.number ≡ 0 → (i : Input Msg) → IsPlainInput i → Does (letter_in (mine e) i) (cell_steps c i).state
      (cell_steps c i).sent
  cell_looks first Task fed = task_does c.survey
  cell_looks first (From a m) fed =
      subst (λ (t : Stepped CellView Msg). Does (mine e m) t.state t.sent) (sym (steps_plainly c first a m fed)) (hears_does m fed)
