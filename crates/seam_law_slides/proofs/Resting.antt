-- What a step leaves of reals that need no settling.
use Rattle.std.proofs.Common.{◌≡◌, ℕ, ◌+◌, ◌≤◌, Bool, true, false, not, cond, List, [], ◌∷◌, map, Option, None, Some, refl, sym, ap}
use Rattle.std.proofs.Common.{◌∙◌, subst, arith, inl, inr}
use Rattle.std.specs.Prelude.{◌==◌}
use Rattle.std.specs.Ordering.{nat_cmp, eq_by_cmp, match_ordering}
use Rattle.std.specs.declared.cmp.Ordering.{Ordering}
use Rattle.std.specs.declared.cmp.Ordering.TheVariants.{Less, Equal, Greater}
use Rattle.std.specs.FinMap as table
use Rattle.std.specs.FinMap.Entries.{find as key_find}
use Rattle.std.specs.FinSet as set
use Rattle.std.proofs.lemmas.Bool.Decides.{nat_tests}
use Rattle.std.proofs.lemmas.Bool.{cases_eq, eq-eqb, eqb-true, ne_eqb}
use Rattle.seam_haunt.specs.Places.{Place, settled as place_settled}
use Rattle.seam_haunt.proofs.Settling.{haunts_without_home, settled_again}
use Rattle.seam_node_steps.specs.Prelude.{Boundaries, Call as CallData, CellView, Division, GhostCopy, Hand, Here, Known, Msg, GhostSet}
use Rattle.seam_node_steps.specs.Prelude.{GhostDrop, Reap, NextPlace, OrderView, RealView, Slot, SlotStep, Tick, WitnessView, about}
use Rattle.seam_node_steps.specs.Prelude.{after_slot, boundaries_of, calls_ready, cell_hears, cell_task, comes_late, executed}
use Rattle.seam_node_steps.specs.Prelude.{executed_ready, haunts_at, home_after, is_stray, known_to, listed_if, look_by, look_next}
use Rattle.seam_node_steps.specs.Prelude.{look_task, looks_around, may_settle, next_item, order_of, ready_entity, ready_next}
use Rattle.seam_node_steps.specs.Prelude.{ready_order, rests, settled, settled_by, settled_to, shows, slot_after, slot_of, slot_steps}
use Rattle.seam_node_steps.specs.Prelude.{stepped, stray_survey, surveys, ticked, unless_stray, unlisted_by, with_entity, with_offer}
use Rattle.seam_node_steps.specs.Prelude.{beat_after, ghost_messages}
use Rattle.seam_entity.specs.declared.message.Msg.TheVariants.{Call}
use Rattle.seam_node_steps.specs.CellCases
use Rattle.seam_node_steps.specs.CellLooks
use Rattle.seam_node_steps.proofs.Slots.{slot_stepped}
use Rattle.seam_law_calls.specs.Prelude.{Frame, here_at, one_more_if, times}
use Rattle.seam_law_calls.proofs.Lists.{times_own, times_other, times_without_other}
use Rattle.seam_law_ghosts.specs.Prelude.{IsRestful, distances_of, place_of}

-- ---- lists

tied : (e : ℕ) → eq_by_cmp nat_cmp e e ≡ true
tied e = let is : e ≡ e = refl in grind (arith, nat_tests, is)

apart : (e x : ℕ) → (x ≡ e → ⊥) → eq_by_cmp nat_cmp e x ≡ false
apart e x n = by (eq_by_cmp nat_cmp e x) refl
  where
    by : (b : Bool) → eq_by_cmp nat_cmp e x ≡ b → b ≡ false
    by false is = refl
    by true is = let same : x ≡ e = grind (arith, nat_tests, is) in absurd (n same)

-- one more entity leaves each at least as often as it was, and is there
more_by : (e x : ℕ) (xs : List ℕ) (o : Ordering) → nat_cmp e x ≡ o → 1 ≤ times e (with_entity e xs) →
    1 ≤ times e (match_ordering o (e ∷ x ∷ xs) (x ∷ xs) (x ∷ with_entity e xs))
more_by e x xs Less is more = let own = times_own e (x ∷ xs) in omega (arith, own)
more_by e x xs Equal is more =
    let same : x ≡ e = grind (arith, nat_tests, is) in
    let own = subst (λ y. times e (y ∷ xs) ≡ times e xs + 1) (sym same) (times_own e xs) in
    omega (arith, own)
more_by e x xs Greater is more = elim (cases_eq x e) [
  | inl same ↦
      let own = subst (λ y. times e (y ∷ with_entity e xs) ≡ times e (with_entity e xs) + 1) (sym same) (times_own e (with_entity e xs)) in
      omega (arith, own)
  | inr other ↦ let kept = times_other e x (with_entity e xs) other in omega (arith, kept, more)
]

with_own : (e : ℕ) (xs : List ℕ) → 1 ≤ times e (with_entity e xs)
with_own e [] = let own = times_own e [] in omega (arith, own)
with_own e (x ∷ xs) = more_by e x xs (nat_cmp e x) refl (with_own e xs)

kept_by : (e x q : ℕ) (xs : List ℕ) (o : Ordering) → (e ≡ q → ⊥) → times q (with_entity e xs) ≡ times q xs →
    times q (x ∷ xs) ≤ times q (match_ordering o (e ∷ x ∷ xs) (x ∷ xs) (x ∷ with_entity e xs))
kept_by e x q xs Less n more = let kept = times_other q e (x ∷ xs) n in omega (arith, kept)
kept_by e x q xs Equal n more = omega arith
kept_by e x q xs Greater n more = let kept = ap (one_more_if (x == q)) more in omega (arith, kept)

with_other_by : (e x q : ℕ) (xs : List ℕ) (o : Ordering) → (e ≡ q → ⊥) → times q (with_entity e xs) ≡ times q xs → nat_cmp e x ≡ o →
    times q (match_ordering o (e ∷ x ∷ xs) (x ∷ xs) (x ∷ with_entity e xs)) ≡ times q (x ∷ xs)
with_other_by e x q xs Less n more is = times_other q e (x ∷ xs) n
with_other_by e x q xs Equal n more is = refl
with_other_by e x q xs Greater n more is = ap (one_more_if (x == q)) more

with_other : (e q : ℕ) (xs : List ℕ) → (e ≡ q → ⊥) → times q (with_entity e xs) ≡ times q xs
with_other e q [] n = times_other q e [] n
with_other e q (x ∷ xs) n = with_other_by e x q xs (nat_cmp e x) n (with_other e q xs n) refl

-- each entity of a map is among its keys
found_key : {X : Type 0} (e : ℕ) (x : X) (ps : List (ℕ × X)) → key_find nat_cmp e ps ≡ Some x → 1 ≤ times e (map (λ p. p.0) ps)
found_key e x [] h = cc
found_key e x (p ∷ ps) h = elim (cases_eq p.0 e) [
  | inl is ↦
      let more = ap (λ b. one_more_if b (times e (map (λ p. p.0) ps))) (eq-eqb p.0 e is) in
      omega (arith, more)
  | inr n ↦
      let less = ap (λ b. one_more_if b (times e (map (λ p. p.0) ps))) (ne_eqb p.0 e n) in
      let skips = ap (λ b. cond b (Some p.1) (key_find nat_cmp e ps)) (apart e p.0 n) in
      let rest = found_key e x ps (sym skips ∙ h) in
      omega (arith, less, rest)
]

pub key_there : (m : table.FinMap nat_cmp RealView) (e : ℕ) (r : RealView) → table.get m e ≡ Some r → 1 ≤ times e (table.keys m)
key_there m e r at = found_key e r (table.entries m) (sym (table.get-entries m e) ∙ at)

-- ---- one real of cell k, by these boundaries

module _ (f : Frame) (k : ℕ) (t : Division) where
  abbrev pub h : Here
  h = here_at f k

  abbrev Rests : ℕ → RealView → Type 0
  Rests j r = IsRestful f.settings t j r

  -- where settling it left it, it rests
  settled_rests : (j : ℕ) (r q : RealView) → place_of j q ≡ place_settled (distances_of f.settings) t (place_of k r) q.state.pos → Rests j q
  settled_rests j r q is =
      ap (λ p. place_settled (distances_of f.settings) t p q.state.pos) is
      ∙ (settled_again (distances_of f.settings) t (place_of k r) q.state.pos ∙ sym is)

  abbrev kept_real : RealView → ℕ → ℕ → RealView
  kept_real r beat generation = settled_to r (haunts_at h t r.state.pos k r.haunts) beat generation

  pub stays_rests : (r : RealView) (beat generation : ℕ) → home_after h t r.state.pos ≡ k → Rests k (kept_real r beat generation)
  stays_rests r beat generation at =
      let p = r.state.pos in
      settled_rests k r (kept_real r beat generation)
      (ap (λ s. let place : Place = record { home = k; ghosts = s } in place)
      (sym (haunts_without_home p k t f.settings.ghost_distance (f.settings.ghost_distance + f.settings.ghost_hysteresis) r.haunts))
      ∙ ap (λ j. let place : Place = record { home = j; ghosts = haunts_at h t p j (set.insert r.haunts k) } in place) (sym at))

  abbrev gone_real : RealView → ℕ → ℕ → ℕ → RealView
  gone_real r j beat generation = settled_to r (haunts_at h t r.state.pos j (set.insert r.haunts k)) beat generation

  pub goes_rests : (r : RealView) (j beat generation : ℕ) → home_after h t r.state.pos ≡ j → Rests j (gone_real r j beat generation)
  goes_rests r j beat generation at =
      settled_rests j r (gone_real r j beat generation)
      (ap (λ i. let place : Place = record { home = i; ghosts = haunts_at h t r.state.pos i (set.insert r.haunts k) } in place) (sym at))

-- ---- a step of an entity's slot, by these boundaries

module _ (f : Frame) (k : ℕ) (b : Boundaries) where
  abbrev pub AtRest : Option RealView → Type 0
  AtRest o = (r : RealView) → o ≡ Some r → may_settle r ≡ true → IsRestful f.settings b.tree k r

  none_rests : AtRest None
  none_rests r at may = cc

  some_rests : (q : RealView) → (may_settle q ≡ true → IsRestful f.settings b.tree k q) → AtRest (Some q)
  some_rests q is r at may =
      let same : q ≡ r = cc in
      subst (λ x. may_settle x ≡ true → IsRestful f.settings b.tree k x) same is may

  -- the real after the step rests, where it rested unless the entity was listed
  abbrev Own : Slot → SlotStep → Type 0
  Own s x = (x.unlisted ≡ false → AtRest s.real) → AtRest (slot_after x.slot s).real

  rests_own : (s : Slot) → Own s rests
  rests_own s before = before refl

  unless_own : (d : Bool) (s : Slot) (x : SlotStep) → (d ≡ false → Own s x) → Own s (unless_stray d x)
  unless_own true s x own = rests_own s
  unless_own false s x own = own refl

  by_own : (d : Bool) (s : Slot) (r : RealView) (changed : Bool) (j : ℕ) → home_after (here_at f k) b.tree r.state.pos ≡ j →
      (j == k) ≡ d → AtRest (slot_after (settled_by d (here_at f k) b s r changed j).slot s).real
  by_own true s r changed j at is =
      let told = ghost_messages (here_at f k) r k (haunts_at (here_at f k) b.tree r.state.pos k r.haunts) changed in
      some_rests (kept_real f k b.tree r (beat_after told r.beat) r.generation)
      (λ may. stays_rests f k b.tree r (beat_after told r.beat) r.generation (at ∙ eqb-true j k is))
  by_own false s r changed j at is = none_rests

  settled_own : (s : Slot) (r : RealView) (changed : Bool) →
      AtRest (slot_after (settled (here_at f k) b s r changed).slot s).real
  settled_own s r changed = by_own _ s r changed (home_after (here_at f k) b.tree r.state.pos) refl refl

  offered_own : (s : Slot) (r : RealView) (c : CallData) (o : Ordering) → s.real ≡ Some r →
      Own s (CellCases.offered (here_at f k) b s r c o)
  offered_own s r c Less has = rests_own s
  offered_own s r c Equal has = λ before. settled_own s (executed (here_at f k) r c) (shows (here_at f k) r c)
  offered_own s r c Greater has = λ before. some_rests (with_offer r c) (λ may. before refl r has may)

  passed_own : (s : Slot) (c : CallData) (o : Option NextPlace) → Own s (CellCases.call_next_place c o)
  passed_own s c None = rests_own s
  passed_own s c (Some n) = λ before. before refl

  call_own : (s : Slot) (c : CallData) (o : Option RealView) → s.real ≡ o → Own s (CellCases.call (here_at f k) b s c o)
  call_own s c (Some r) has = offered_own s r c (nat_cmp c.number (order_of r.orders c.sender).next) has
  call_own s c None has = passed_own s c s.next

  set_own : (s : Slot) (beat : ℕ) (c : GhostCopy) (o : Option RealView) → Own s (CellCases.ghost_set s beat c o)
  set_own s beat c None = λ before. before refl
  set_own s beat c (Some r) = rests_own s

  reap_own : (s : Slot) (o : Option RealView) → Own s (CellCases.reap s o)
  reap_own s (Some r) = λ before. none_rests
  reap_own s None = rests_own s

  abbrev pub HandRests : Slot → Msg → Type 0
  HandRests s m = (r : RealView) (o : Option Boundaries) → m ≡ Hand r o → is_stray (here_at f k) b.tree s m ≡ false →
      IsRestful f.settings b.tree k r

  case_own : (s : Slot) (m : Msg) → is_stray (here_at f k) b.tree s m ≡ false → HandRests s m →
      Own s (CellCases.case_of (here_at f k) b s m)
  case_own s (Call c) is hand = call_own s c s.real refl
  case_own s (Hand r o) is hand = λ before. some_rests r (λ may. hand r o refl is)
  case_own s (GhostSet e n c) is hand = set_own s n c s.real
  case_own s (GhostDrop e n) is hand = λ before. before refl
  case_own s (Reap e) is hand = reap_own s s.real
  case_own s _ is hand = rests_own s

  message_own : (s : Slot) (m : Msg) → HandRests s m → Own s (slot_steps (here_at f k) b s m)
  message_own s m hand = unless_own _ s _ (λ is. case_own s m is hand)

  -- what an entry of the survey list leaves rests, whatever it was
  survey_by : (s : Slot) (o : Option RealView) → s.real ≡ o → (d : Bool) → stray_survey o ≡ d →
      AtRest (slot_after (unless_stray d (CellCases.survey_task (here_at f k) b s o)).slot s).real
  survey_by s None has d is = by d
    where
      by : (d : Bool) → AtRest (slot_after (unless_stray d (CellCases.survey_task (here_at f k) b s None)).slot s).real
      by true = λ r at may. absurd (let z = sym has ∙ at in cc)
      by false = λ r at may. absurd (let z = sym has ∙ at in cc)
  survey_by s (Some q) has true is = λ r at may.
      let same : q ≡ r = let z = sym has ∙ at in cc in
      absurd (let z = sym is ∙ ap (λ x. not (may_settle x)) same ∙ ap not may in cc)
  survey_by s (Some q) has false is = settled_own s q false

  executes_own : (s : Slot) (r : RealView) (o : ℕ × OrderView CallData) (c : Option CallData) →
      Own s (CellCases.executes_ready (here_at f k) b s r o c)
  executes_own s r o (Some c) = λ before. settled_own s (executed_ready (here_at f k) r o c) (shows (here_at f k) r c)
  executes_own s r o None = rests_own s

  ready_in_own : (s : Slot) (r : RealView) (o : Option (ℕ × OrderView CallData)) → Own s (CellCases.ready_in (here_at f k) b s r o)
  ready_in_own s r (Some o) = executes_own s r o (next_item o.1)
  ready_in_own s r None = rests_own s

  ready_own : (s : Slot) (o : Option RealView) → Own s (CellCases.ready_call_task (here_at f k) b s o)
  ready_own s (Some r) = ready_in_own s r (ready_order r.orders)
  ready_own s None = rests_own s

  look_by_own : (s : Slot) (r : RealView) (o : Option WitnessView) (known : List Known) → s.real ≡ Some r →
      Own s (look_by (here_at f k) s r o known)
  look_by_own s r (Some w) known has = λ before. some_rests _ (λ may. before refl r has may)
  look_by_own s r None known has = rests_own s

  look_own : (s : Slot) (o : Option RealView) (known : List Known) → s.real ≡ o → Own s (look_task (here_at f k) s o known)
  look_own s (Some r) known has = look_by_own s r r.witness known has
  look_own s None known has = rests_own s

  -- ---- a cell that goes by them

  -- the reals that the list has not rest
  abbrev pub CellRests : CellView → Type 0
  CellRests d = (e : ℕ) → times e d.survey ≡ 0 → AtRest (table.get d.reals e)

  unlisted_other : (d : Bool) (c : CellView) (e q : ℕ) (o : Option Slot) → (e ≡ q → ⊥) →
      times q (unlisted_by d (after_slot c e o) e).survey ≡ times q c.survey
  unlisted_other true c e q None n = times_without_other q e c.survey n
  unlisted_other true c e q (Some s) n = times_without_other q e c.survey n
  unlisted_other false c e q None n = refl
  unlisted_other false c e q (Some s) n = refl

  unlisted_own : (d : Bool) (c : CellView) (e : ℕ) (o : Option Slot) → d ≡ false →
      times e (unlisted_by d (after_slot c e o) e).survey ≡ times e c.survey
  unlisted_own true c e o is = cc
  unlisted_own false c e None is = refl
  unlisted_own false c e (Some s) is = refl

  real_own : (c : CellView) (e : ℕ) (x : SlotStep) → table.get (stepped c e x).state.reals e ≡ (slot_after x.slot (slot_of c e)).real
  real_own c e x =
      ap (λ (s : Slot). s.real)
      (slot_stepped c e e x ∙ ap (λ b. cond b (slot_after x.slot (slot_of c e)) (slot_of c e)) (tied e))

  real_other : (c : CellView) (e q : ℕ) (x : SlotStep) → (e ≡ q → ⊥) → table.get (stepped c e x).state.reals q ≡ table.get c.reals q
  real_other c e q x n =
      ap (λ (s : Slot). s.real)
      (slot_stepped c e q x ∙ ap (λ b. cond b (slot_after x.slot (slot_of c e)) (slot_of c q)) (apart q e n))

  abbrev OthersRest : CellView → ℕ → Type 0
  OthersRest c e = (q : ℕ) → (e ≡ q → ⊥) → times q c.survey ≡ 0 → AtRest (table.get c.reals q)

  others_stepped : (c : CellView) (e : ℕ) (x : SlotStep) → OthersRest c e → OthersRest (stepped c e x).state e
  others_stepped c e x others q n none =
      subst AtRest (sym (real_other c e q x n)) (others q n (sym (unlisted_other x.unlisted c e q x.slot n) ∙ none))

  all_rest : (d : CellView) (e : ℕ) → OthersRest d e → (times e d.survey ≡ 0 → AtRest (table.get d.reals e)) → CellRests d
  all_rest d e others own q none = elim (cases_eq e q) [
    | inl is ↦ subst (λ i. AtRest (table.get d.reals i)) is (own (ap (λ i. times i d.survey) is ∙ none))
    | inr n ↦ others q n none
  ]

  -- the entity's own, by the step of its slot
  own_stepped : (c : CellView) (e : ℕ) (x : SlotStep) → Own (slot_of c e) x → (times e c.survey ≡ 0 → AtRest (table.get c.reals e)) →
      times e (stepped c e x).state.survey ≡ 0 → AtRest (table.get (stepped c e x).state.reals e)
  own_stepped c e x own before none =
      subst AtRest (sym (real_own c e x)) (own (λ is. before (sym (unlisted_own x.unlisted c e x.slot is) ∙ none)))

  step_rests : (c : CellView) (e : ℕ) (x : SlotStep) → CellRests c → Own (slot_of c e) x → CellRests (stepped c e x).state
  step_rests c e x all own =
      all_rest (stepped c e x).state e (others_stepped c e x (λ q n. all q)) (own_stepped c e x own (all e))

  module _ (c : CellView) (here : c.here ≡ here_at f k) (bounds : boundaries_of c ≡ b) (all : CellRests c) where
    -- ---- tasks

    abbrev by_here : (Here → Boundaries → Type 0) → Type 0
    by_here P = P (here_at f k) b → P c.here (boundaries_of c)

    there : (P : Here → Boundaries → Type 0) → P (here_at f k) b → P c.here (boundaries_of c)
    there P x = subst (λ i. P i (boundaries_of c)) (sym here) (subst (P (here_at f k)) (sym bounds) x)

    task_survey : (e : ℕ) (es : List ℕ) → c.survey ≡ e ∷ es → CellRests (cell_task c (e ∷ es)).state
    task_survey e es at =
        let d = record c { survey = es } in
        let x = surveys c e (table.get c.reals e) in
        let own : AtRest (slot_after x.slot (slot_of c e)).real =
        there (λ i y. AtRest (slot_after (unless_stray (stray_survey (table.get c.reals e))
        (CellCases.survey_task i y (slot_of c e) (table.get c.reals e))).slot (slot_of c e)).real)
        (survey_by (slot_of c e) (table.get c.reals e) refl (stray_survey (table.get c.reals e)) refl) in
        all_rest (stepped d e x).state e
        (others_stepped d e x (λ q n none. all q (ap (times q) at ∙ (times_other q e es n ∙ none))))
        (λ none. subst AtRest (sym (real_own d e x)) own)

    look_rests : (es : List ℕ) → CellRests (look_next c es).state
    look_rests [] = all
    look_rests (e ∷ es) =
        let d = record c { looks = es } in
        let x = looks_around c e (table.get c.reals e) (known_to c e) in
        step_rests d e x all
        (there (λ i y. Own (slot_of c e) (unless_stray (CellLooks.stray_look i (table.get c.reals e) (known_to c e))
        (look_task i (slot_of c e) (table.get c.reals e) (known_to c e))))
        (unless_own _ (slot_of c e) _ (λ is. look_own (slot_of c e) (table.get c.reals e) (known_to c e) refl)))

    ready_rests : (o : Option ℕ) → CellRests (ready_next c o).state
    ready_rests (Some e) =
        step_rests c e (calls_ready c e (table.get c.reals e)) all
        (there (λ i y. Own (slot_of c e) (unless_stray (CellCases.stray_ready_call (table.get c.reals e))
        (CellCases.ready_call_task i y (slot_of c e) (table.get c.reals e))))
        (unless_own _ (slot_of c e) _ (λ is. ready_own (slot_of c e) (table.get c.reals e))))
    ready_rests None = look_rests c.looks

    pub task_rests : (es : List ℕ) → c.survey ≡ es → CellRests (cell_task c es).state
    task_rests (e ∷ es) at = task_survey e es at
    task_rests [] at = ready_rests (ready_entity c)

    -- ---- messages

    ticked_rests : (m : Msg) → CellRests (ticked c m)
    ticked_rests Tick = all
    ticked_rests _ = all

    listed_rests : (late : Bool) (e : ℕ) (x : SlotStep) → (late ≡ false → Own (slot_of c e) x) →
        CellRests (listed_if late e (stepped c e x)).state
    listed_rests true e x own = λ q none. elim (cases_eq e q) [
      | inl is ↦
          let some = with_own e (stepped c e x).state.survey in
          let same = ap (λ i. times i (with_entity e (stepped c e x).state.survey)) is in
          absurd (omega (arith, some, same, none))
      | inr n ↦ others_stepped c e x (λ i m. all i) q n (sym (with_other e q (stepped c e x).state.survey n) ∙ none)
    ]
    listed_rests false e x own = step_rests c e x all (own refl)

    -- a real that comes rests by this tree unless it comes late
    pub hears_rests : (m : Msg) (o : Option ℕ) → about m ≡ o →
        (comes_late c m ≡ false → (e : ℕ) → about m ≡ Some e → HandRests (slot_of c e) m) →
        CellRests (cell_hears c m o).state
    hears_rests m (Some e) a hand =
        listed_rests (comes_late c m) e (slot_steps c.here (boundaries_of c) (slot_of c e) m)
        (λ late. there (λ i y. Own (slot_of c e) (slot_steps i y (slot_of c e) m)) (message_own (slot_of c e) m (hand late e a)))
    hears_rests m None a hand = ticked_rests m
