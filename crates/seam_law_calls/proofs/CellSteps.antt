-- A step of a cell is, for each entity, one of the moves.
use Rattle.seam_law_calls.proofs.Prelude.{◌≡◌, ℕ, ◌⊎◌, Bool, true, false, cond, List, [], ◌∷◌, find, Option, None, Some, refl, sym, ap, ◌∙◌}
use Rattle.seam_law_calls.proofs.Prelude.{subst, inl, inr, option_map, nat_cmp, eq_by_cmp, unsigned_tied, cases_eq, eq-eqb, ne_eqb, found}
use Rattle.seam_law_calls.proofs.Prelude.{Input, Task, From, RealView, Msg, Tick, number_of, has_ready, Slot, SlotStep, slot_after, about}
use Rattle.seam_law_calls.proofs.Prelude.{slot_steps, stray_survey, stray_ready_call, stray_look, CellView, slot_of, after_slot}
use Rattle.seam_law_calls.proofs.Prelude.{unlisted_by, stepped, cell_steps, cell_task, ready_next, look_next, ready_entity}
use Rattle.seam_law_calls.proofs.Prelude.{real_is_ready, calls_ready, looks_around, known_to, AreUnderTheirEntities, letter_in, mine}
use Rattle.seam_law_calls.proofs.Prelude.{concerning, times, AtCell, at_cell, unlisted_if, Does, CellMoves, entity_of, slot_stepped}
use Rattle.std.specs.FinMap as table
use Rattle.seam_node_steps.specs.Prelude.{surveys}
use Rattle.seam_law_calls.specs.CellMoves as move
use Rattle.seam_law_calls.specs.CellMoves.{after_step}
use Rattle.seam_law_calls.proofs.Lists.{AllAbout, mine_own, mine_other, concerning_own, concerning_other, times_own, times_other}
use Rattle.seam_law_calls.proofs.Lists.{times_without, times_without_other}
use Rattle.seam_law_calls.proofs.Sent.{slot_about, surveys_about, readies_about, looks_about}
use Rattle.seam_law_calls.proofs.SlotSteps.{message_moves, survey_moves, ready_moves, look_moves}
use Rattle.seam_law_calls.proofs.Ticking.{ticked}
use Rattle.seam_node_steps.specs.Prelude.{Bounds, BringsNone, IsPlainInput, Stepped, at_start}
use Rattle.seam_node_steps.proofs.Plain.{plainly, steps_plainly}

tied : (e : ℕ) → eq_by_cmp nat_cmp e e ≡ true
tied e = unsigned_tied e e ∙ eq-eqb e e refl

apart : (e x : ℕ) → (x ≡ e → ⊥) → eq_by_cmp nat_cmp e x ≡ false
apart e x n = unsigned_tied e x ∙ ne_eqb e x (λ q. n (sym q))

slot_own : (c : CellView) (e : ℕ) (x : SlotStep) → slot_of (stepped c e x).state e ≡ slot_after x.slot (slot_of c e)
slot_own c e x = slot_stepped c e e x ∙ ap (λ b. cond b (slot_after x.slot (slot_of c e)) (slot_of c e)) (tied e)

slot_other : (c : CellView) (y e : ℕ) (x : SlotStep) → (y ≡ e → ⊥) → slot_of (stepped c y x).state e ≡ slot_of c e
slot_other c y e x n = slot_stepped c y e x ∙ ap (λ b. cond b (slot_after x.slot (slot_of c y)) (slot_of c e)) (apart e y n)

survey_own : (b : Bool) (c : CellView) (e : ℕ) (o : Option Slot) →
    times e (unlisted_by b (after_slot c e o) e).survey ≡ unlisted_if b (times e c.survey)
survey_own true c e None = times_without e c.survey
survey_own true c e (Some s) = times_without e c.survey
survey_own false c e None = refl
survey_own false c e (Some s) = refl

looks_own : (b : Bool) (c : CellView) (e : ℕ) (o : Option Slot) →
    times e (unlisted_by b (after_slot c e o) e).looks ≡ unlisted_if b (times e c.looks)
looks_own true c e None = times_without e c.looks
looks_own true c e (Some s) = times_without e c.looks
looks_own false c e None = refl
looks_own false c e (Some s) = refl

survey_other : (b : Bool) (c : CellView) (y e : ℕ) (o : Option Slot) → (y ≡ e → ⊥) →
    times e (unlisted_by b (after_slot c y o) y).survey ≡ times e c.survey
survey_other true c y e None n = times_without_other e y c.survey n
survey_other true c y e (Some s) n = times_without_other e y c.survey n
survey_other false c y e None n = refl
survey_other false c y e (Some s) n = refl

looks_other : (b : Bool) (c : CellView) (y e : ℕ) (o : Option Slot) → (y ≡ e → ⊥) →
    times e (unlisted_by b (after_slot c y o) y).looks ≡ times e c.looks
looks_other true c y e None n = times_without_other e y c.looks n
looks_other true c y e (Some s) n = times_without_other e y c.looks n
looks_other false c y e None n = refl
looks_other false c y e (Some s) n = refl

at_same : (a b : Slot) (m n k l : ℕ) → a ≡ b → m ≡ n → k ≡ l →
    ◌≡◌ {A = AtCell} (record { slot = a; survey = m; looks = k }) (record { slot = b; survey = n; looks = l })
at_same a b m n k l p q r = λ i. record { slot = p i; survey = q i; looks = r i }

-- a step of the entity's own slot, and of another's
at_own : (c : CellView) (e : ℕ) (x : SlotStep) → at_cell e (stepped c e x).state ≡ after_step (at_cell e c) x
at_own c e x = at_same _ _ _ _ _ _ (slot_own c e x) (survey_own x.unlisted c e x.slot) (looks_own x.unlisted c e x.slot)

at_other : (c : CellView) (y e : ℕ) (x : SlotStep) → (y ≡ e → ⊥) → at_cell e (stepped c y x).state ≡ at_cell e c
at_other c y e x n =
    at_same _ _ _ _ _ _ (slot_other c y e x n) (survey_other x.unlisted c y e x.slot n) (looks_other x.unlisted c y e x.slot n)

does_own : (c : CellView) (e : ℕ) (x : SlotStep) → AllAbout e x.sent →
    Does (at_cell e c) x (at_cell e (stepped c e x).state) (concerning e x.sent)
does_own c e x a = record { state = at_own c e x; sends = concerning_own e x.sent a }

-- a cell that goes by the boundaries of the round's start
module _ (was : CellView) (keys : AreUnderTheirEntities was.reals) (e : ℕ) where
  abbrev c : CellView
  c = record was { number = 0 }

  abbrev Moved : Option Msg → CellView → List (ℕ × Msg) → Type 0
  Moved i d sent = CellMoves c.here c.tree e (at_cell e c) i (at_cell e d) (concerning e sent)

  -- a step of another's slot, of the cell with other lists that have the entity as often
  others : (i : Option Msg) (d : CellView) (y : ℕ) (x : SlotStep) → i ≡ None → (y ≡ e → ⊥) → at_cell e d ≡ at_cell e c →
      AllAbout y x.sent → Moved i (stepped d y x).state x.sent
  others i d y x none n same a =
      move.rests none (record { state = at_other d y e x n ∙ same; sends = concerning_other e y x.sent a n })

  -- ---- tasks

  survey_by : (y : ℕ) (es : List ℕ) → c.survey ≡ y ∷ es → (y ≡ e) ⊎ (y ≡ e → ⊥) →
      Moved None (cell_task c (y ∷ es)).state (cell_task c (y ∷ es)).sent
  survey_by y es at (inl is) = subst (λ z. Moved None (cell_task c (z ∷ es)).state (cell_task c (z ∷ es)).sent) (sym is)
      (let d = record c { survey = es } in
      let x = surveys c e (table.get c.reals e) in
      survey_moves c.here c.tree e (at_cell e c) (keys e) (at_cell e (stepped d e x).state) (concerning e x.sent) (times e es)
      (ap (times e) (at ∙ ap (λ z. z ∷ es) is) ∙ times_own e es)
      (does_own d e x (surveys_about e c.here (at_start c.tree) (slot_of c e) (stray_survey (table.get c.reals e)) (table.get c.reals e)
      (keys e))))
  survey_by y es at (inr n) =
      let d = record c { survey = es } in
      let x = surveys c y (table.get c.reals y) in
      others None d y x refl n
      (at_same _ _ _ _ _ _ refl (sym (ap (times e) at ∙ times_other e y es n)) refl)
      (surveys_about y c.here (at_start c.tree) (slot_of c y) (stray_survey (table.get c.reals y)) (table.get c.reals y) (keys y))

  look_by : (y : ℕ) (es : List ℕ) → c.looks ≡ y ∷ es → (y ≡ e) ⊎ (y ≡ e → ⊥) →
      Moved None (look_next c (y ∷ es)).state (look_next c (y ∷ es)).sent
  look_by y es at (inl is) = subst (λ z. Moved None (look_next c (z ∷ es)).state (look_next c (z ∷ es)).sent) (sym is)
      (let d = record c { looks = es } in
      let x = looks_around c e (table.get c.reals e) (known_to c e) in
      look_moves c.here c.tree e (at_cell e c) (keys e) (at_cell e (stepped d e x).state) (concerning e x.sent) (times e es) (known_to c e)
      (ap (times e) (at ∙ ap (λ z. z ∷ es) is) ∙ times_own e es)
      (does_own d e x
      (looks_about e c.here (at_start c.tree) (slot_of c e) (stray_look c.here (table.get c.reals e) (known_to c e)) (table.get c.reals e)
      (known_to c e)
      (keys e))))
  look_by y es at (inr n) =
      let d = record c { looks = es } in
      let x = looks_around c y (table.get c.reals y) (known_to c y) in
      others None d y x refl n
      (at_same _ _ _ _ _ _ refl refl (sym (ap (times e) at ∙ times_other e y es n)))
      (looks_about y c.here (at_start c.tree) (slot_of c y) (stray_look c.here (table.get c.reals y) (known_to c y)) (table.get c.reals y)
      (known_to c y) (keys y))

  look_next_moves : (es : List ℕ) → c.looks ≡ es → Moved None (look_next c es).state (look_next c es).sent
  look_next_moves [] at = move.rests refl (record { state = refl; sends = refl })
  look_next_moves (y ∷ es) at = look_by y es at (cases_eq y e)

  -- an entity that has a ready call has a real that has one
  ready_found : (o : Option (ℕ × RealView)) (y : ℕ) → find real_is_ready (table.entries c.reals) ≡ o → option_map number_of o ≡ Some y →
      (r : RealView) × (table.get c.reals y ≡ Some r) × (has_ready r.orders ≡ true)
  ready_found None y at is = cc
  ready_found (Some p) y at is =
      let k = found real_is_ready c.reals p at in
      let same : p.0 ≡ y = cc in
      (p.1, ap (table.get c.reals) (sym same) ∙ k.0, k.1)

  ready_by : (y : ℕ) → ready_entity c ≡ Some y → (y ≡ e) ⊎ (y ≡ e → ⊥) →
      Moved None (ready_next c (Some y)).state (ready_next c (Some y)).sent
  ready_by y at (inl is) = subst (λ z. Moved None (ready_next c (Some z)).state (ready_next c (Some z)).sent) (sym is)
      (let x = calls_ready c e (table.get c.reals e) in
      let k = ready_found (find real_is_ready (table.entries c.reals)) e refl (at ∙ ap Some is) in
      ready_moves c.here c.tree e (at_cell e c) (keys e) (at_cell e (stepped c e x).state) (concerning e x.sent) k.0 k.1 k.2
      (does_own c e x (readies_about e c.here (at_start c.tree) (slot_of c e) (stray_ready_call (table.get c.reals e)) (table.get c.reals e)
      (keys e))))
  ready_by y at (inr n) =
      let x = calls_ready c y (table.get c.reals y) in
      others None c y x refl n refl
      (readies_about y c.here (at_start c.tree) (slot_of c y) (stray_ready_call (table.get c.reals y)) (table.get c.reals y) (keys y))

  ready_next_moves : (o : Option ℕ) → ready_entity c ≡ o → Moved None (ready_next c o).state (ready_next c o).sent
  ready_next_moves (Some y) at = ready_by y at (cases_eq y e)
  ready_next_moves None at = look_next_moves c.looks refl

  task_moves : (es : List ℕ) → c.survey ≡ es → Moved None (cell_task c es).state (cell_task c es).sent
  task_moves [] at = ready_next_moves (ready_entity c) refl
  task_moves (y ∷ es) at = survey_by y es at (cases_eq y e)

  -- ---- messages

  hears_by : (m : Msg) (y : ℕ) → about m ≡ Some y → (y ≡ e) ⊎ (y ≡ e → ⊥) →
      Moved (mine e m) (plainly c m (Some y)).state (plainly c m (Some y)).sent
  hears_by m y a (inl is) =
      let b : about m ≡ Some e = a ∙ ap Some is in
      subst (λ i. Moved i (plainly c m (Some y)).state (plainly c m (Some y)).sent) (sym (mine_own e m b))
      (subst (λ z. Moved (Some m) (plainly c m (Some z)).state (plainly c m (Some z)).sent) (sym is)
      (let x = slot_steps c.here (at_start c.tree) (slot_of c e) m in
      message_moves c.here c.tree e (at_cell e c) (keys e) (at_cell e (stepped c e x).state) (concerning e x.sent) m b
      (does_own c e x (slot_about e c.here (at_start c.tree) (slot_of c e) m b (keys e)))))
  hears_by m y a (inr n) =
      let x = slot_steps c.here (at_start c.tree) (slot_of c y) m in
      others (mine e m) c y x (mine_other e y m a n) n refl (slot_about y c.here (at_start c.tree) (slot_of c y) m a (keys y))

  tick_moves : Moved (Some Tick) (plainly c Tick None).state (plainly c Tick None).sent
  tick_moves = move.ticks refl (at_same _ _ _ _ _ _ refl refl (ticked c e)) refl

  hears_moves : (m : Msg) → BringsNone m → Moved (mine e m) (plainly c m (about m)).state (plainly c m (about m)).sent
  hears_moves Tick none = tick_moves
  hears_moves (Bounds b) none = cc
  hears_moves m none = hears_by m (entity_of m) refl (cases_eq (entity_of m) e)

  first_moves : (i : Input Msg) → IsPlainInput i → Moved (letter_in (mine e) i) (cell_steps c i).state (cell_steps c i).sent
  first_moves Task fed = task_moves c.survey refl
  first_moves (From a m) fed =
      subst (λ (t : Stepped CellView Msg). Moved (mine e m) t.state t.sent) (sym (steps_plainly c refl a m fed)) (hears_moves m fed)

  pub cell_moves : was.number ≡ 0 → (i : Input Msg) → IsPlainInput i →
      CellMoves was.here was.tree e (at_cell e was) (letter_in (mine e) i) (at_cell e (cell_steps was i).state)
      (concerning e (cell_steps was i).sent)
  cell_moves first i fed =
      let same : c ≡ was = λ j. record was { number = sym first j } in
      subst (λ (d : CellView). CellMoves d.here d.tree e (at_cell e d) (letter_in (mine e) i) (at_cell e (cell_steps d i).state)
      (concerning e (cell_steps d i).sent)) same (first_moves i fed)
