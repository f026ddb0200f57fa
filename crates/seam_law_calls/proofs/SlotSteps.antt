-- A step of the entity's own slot is one of the moves.
use Rattle.seam_law_calls.proofs.Prelude.{◌≡◌, ℕ, ◌+◌, ◌<◌, Bool, true, false, not, eqb, ◌==◌, List, length, Option, None, Some, refl, ap}
use Rattle.seam_law_calls.proofs.Prelude.{◌∙◌, arith, nat_cmp, Ordering, Less, Equal, Greater, eqb-true, eqb-false, nat_tests, Division}
use Rattle.seam_law_calls.proofs.Prelude.{OrderView, next_item, Call as CallData, GhostCopy, order_of, RealView, WitnessView, Msg, Hand}
use Rattle.seam_law_calls.proofs.Prelude.{GhostSet, GhostDrop, Reap, is_small, may_rise, Here, has_ready, ready_order, may_settle, may_call}
use Rattle.seam_law_calls.proofs.Prelude.{executed, executed_ready, Slot, NextPlace, home_after, settled_by, settled, about, slot_steps}
use Rattle.seam_law_calls.proofs.Prelude.{is_stray, may_come, stray_survey, stray_ready_call, survey_task, ready_call_task, Known, shown_of}
use Rattle.seam_law_calls.proofs.Prelude.{look_by, look_task, stray_look, stray_look_by, AtCell, Does, Acts, CellMoves, surveys, calls}
use Rattle.seam_law_calls.proofs.Prelude.{readies, case_of}
use Rattle.seam_node_steps.specs.Prelude.{may_execute, shows, unless_stray, Boundaries, at_start}
use Rattle.seam_entity.specs.declared.message.Msg.TheVariants.{Call}
use Rattle.seam_law_calls.proofs.Holds.{not_false}
use Rattle.seam_node_steps.specs.CellCases
use Rattle.seam_law_calls.specs.CellMoves as move

less_of : (a b : ℕ) → nat_cmp a b ≡ Less → a < b
less_of a b is = grind (arith, nat_tests)

equal_of : (a b : ℕ) → nat_cmp a b ≡ Equal → a ≡ b
equal_of a b is = grind (arith, nat_tests)

greater_of : (a b : ℕ) → nat_cmp a b ≡ Greater → b < a
greater_of a b is = grind (arith, nat_tests)

inside : (x y : ℕ) → Some x ≡ Some y → x ≡ y
inside x y is = cc

-- the real, if there is one, is that of the entity
abbrev pub IsKey : ℕ → Slot → Type 0
IsKey e s = (r : RealView) → s.real ≡ Some r → r.entity ≡ e

module _ (h : Here) (t : Division) (e : ℕ) (s : AtCell) (key : IsKey e s.slot) (v : AtCell) (sent : List (ℕ × Msg)) where
  abbrev Goal : Option Msg → Type 0
  Goal i = CellMoves h t e s i v sent

  module _ (i : Option Msg) (u : AtCell) (r q : RealView) (changed : Bool) (has : s.slot.real ≡ Some r) (acts : Acts h e s i r u q changed)
    where
      by_home : (b : Bool) (j : ℕ) → home_after h t q.state.pos ≡ j → eqb j h.me ≡ b → Does u
          (settled_by b h (at_start t) s.slot q changed j) v sent →
          Goal i
      by_home true j at is d = move.stays u r q changed has (key r has) acts (at ∙ eqb-true j h.me is) d
      by_home false j at is d = move.goes u r q changed j has (key r has) acts at (eqb-false j h.me is) d

      settles : Does u (settled h (at_start t) s.slot q changed) v sent → Goal i
      settles d = by_home (home_after h t q.state.pos == h.me) (home_after h t q.state.pos) refl refl d

  -- ---- messages

  offered_moves : (c : CallData) (r : RealView) (o : Ordering) → c.entity ≡ e → s.slot.real ≡ Some r → may_call h r c ≡ true →
      nat_cmp c.number (order_of r.orders c.sender).next ≡ o → Does s (CellCases.offered h (at_start t) s.slot r c o) v sent → Goal
      (Some (Call c))
  offered_moves c r Less is has may at d = move.late c r refl has may (less_of c.number (order_of r.orders c.sender).next at) d
  offered_moves c r Equal is has may at d =
      settles (Some (Call c)) s r (executed h r c) (shows h r c) has
      (calls c refl is may (equal_of c.number (order_of r.orders c.sender).next at)) d
  offered_moves c r Greater is has may at d =
      move.holds c r refl is has (key r has) may (greater_of c.number (order_of r.orders c.sender).next at) d

  passed_moves : (c : CallData) (o : Option NextPlace) → c.entity ≡ e → s.slot.real ≡ None → s.slot.next ≡ o →
      CellCases.stray_call h c None o ≡ false → Does s (CellCases.call_next_place c o) v sent → Goal (Some (Call c))
  passed_moves c None is has at sound d = cc
  passed_moves c (Some n) is has at sound d = move.passes c n refl is has at d

  call_moves : (c : CallData) (o : Option RealView) → c.entity ≡ e → s.slot.real ≡ o → CellCases.stray_call h c o s.slot.next ≡ false →
      Does s (CellCases.call h (at_start t) s.slot c o) v sent → Goal (Some (Call c))
  call_moves c (Some r) is has sound d =
      offered_moves c r (nat_cmp c.number (order_of r.orders c.sender).next) is has (not_false (may_call h r c) sound) refl d
  call_moves c None is has sound d = passed_moves c s.slot.next is has refl sound d

  hand_moves : (r : RealView) (bs : Option Boundaries) (o : Option RealView) → r.entity ≡ e → s.slot.real ≡ o →
      CellCases.stray_hand h t r o ≡ false →
      Does s (CellCases.hand_over_comes h s.slot r) v sent → Goal (Some (Hand r bs))
  hand_moves r bs (Some q) is has sound d = cc
  hand_moves r bs None is has sound d = move.lands r bs refl is has (not_false (may_come h t r) sound) d

  set_moves : (x beat : ℕ) (c : GhostCopy) (o : Option RealView) → x ≡ e → s.slot.real ≡ o →
      Does s (CellCases.ghost_set s.slot beat c o) v sent → Goal (Some (GhostSet x beat c))
  set_moves x beat c None is has d = move.hears_set beat c (ap (λ y. Some (GhostSet y beat c)) is) has d
  set_moves x beat c (Some r) is has d = move.ignores_set beat c r (ap (λ y. Some (GhostSet y beat c)) is) has d

  reap_moves : (x : ℕ) (o : Option RealView) → x ≡ e → s.slot.real ≡ o → CellCases.stray_reap o ≡ false →
      Does s (CellCases.reap s.slot o) v sent → Goal (Some (Reap x))
  reap_moves x (Some r) is has sound d =
      move.reaped r (ap (λ y. Some (Reap y)) is) has (key r has) (not_false (may_rise r.beat) sound) d
  reap_moves x None is has sound d = cc

  case_moves : (m : Msg) → about m ≡ Some e → is_stray h t s.slot m ≡ false → Does s (case_of h (at_start t) s.slot m) v sent → Goal
      (Some m)
  case_moves (Call c) is sound d = call_moves c s.slot.real (inside c.entity e is) refl sound d
  case_moves (Hand r bs) is sound d = hand_moves r bs s.slot.real (inside r.entity e is) refl sound d
  case_moves (GhostSet x beat c) is sound d = set_moves x beat c s.slot.real (inside x e is) refl d
  case_moves (GhostDrop x beat) is sound d = move.hears_drop beat (ap (λ y. Some (GhostDrop y beat)) (inside x e is)) d
  case_moves (Reap x) is sound d = reap_moves x s.slot.real (inside x e is) refl sound d
  case_moves _ is sound d = cc

  stray_moves : (m : Msg) (b : Bool) → about m ≡ Some e → is_stray h t s.slot m ≡ b →
      Does s (unless_stray b (case_of h (at_start t) s.slot m)) v sent → Goal (Some m)
  stray_moves m true is at d = move.strays m refl at d
  stray_moves m false is at d = case_moves m is at d

  -- a message about the entity
  pub message_moves : (m : Msg) → about m ≡ Some e → Does s (slot_steps h (at_start t) s.slot m) v sent → Goal (Some m)
  message_moves m is d = stray_moves m (is_stray h t s.slot m) is refl d

  -- ---- tasks

  survey_by : (n : ℕ) (r : RealView) (b : Bool) → s.survey ≡ n + 1 → s.slot.real ≡ Some r → may_settle r ≡ b →
      Does (record s { survey = n }) (unless_stray (not b) (survey_task h (at_start t) s.slot (Some r))) v sent → Goal None
  survey_by n r true at_n has may d = settles None (record s { survey = n }) r r false has (surveys n refl at_n may) d
  survey_by n r false at_n has may d = move.unlists n refl at_n (ap stray_survey has ∙ ap not may) d

  survey_at : (n : ℕ) (o : Option RealView) → s.survey ≡ n + 1 → s.slot.real ≡ o →
      Does (record s { survey = n }) (unless_stray (stray_survey o) (survey_task h (at_start t) s.slot o)) v sent → Goal None
  survey_at n (Some r) at_n has d = survey_by n r (may_settle r) at_n has refl d
  survey_at n None at_n has d = move.unlists n refl at_n (ap stray_survey has) d

  -- the entity is taken from the survey list
  pub survey_moves : (n : ℕ) → s.survey ≡ n + 1 →
      Does (record s { survey = n }) (unless_stray (stray_survey s.slot.real) (survey_task h (at_start t) s.slot s.slot.real)) v sent →
      Goal None
  survey_moves n at_n d = survey_at n s.slot.real at_n refl d

  item_moves : (r : RealView) (o : ℕ × OrderView CallData) (c : Option CallData) → s.slot.real ≡ Some r → may_execute r ≡ true →
      ready_order r.orders ≡ Some o → next_item o.1 ≡ c → Does s (CellCases.executes_ready h (at_start t) s.slot r o c) v sent → Goal None
  item_moves r o (Some c) has may at item d =
      settles None s r (executed_ready h r o c) (shows h r c) has (readies o c refl may at item) d
  item_moves r o None has may at item d = move.rests refl d

  order_moves : (r : RealView) (o : Option (ℕ × OrderView CallData)) → s.slot.real ≡ Some r → may_execute r ≡ true →
      ready_order r.orders ≡ o → Does s (CellCases.ready_in h (at_start t) s.slot r o) v sent → Goal None
  order_moves r (Some o) has may at d = item_moves r o (next_item o.1) has may at refl d
  order_moves r None has may at d = move.rests refl d

  ready_by : (r : RealView) (b : Bool) → s.slot.real ≡ Some r → has_ready r.orders ≡ true → may_execute r ≡ b →
      Does s (unless_stray (not b) (ready_call_task h (at_start t) s.slot (Some r))) v sent → Goal None
  ready_by r true has is may d = order_moves r (ready_order r.orders) has may refl d
  ready_by r false has is may d = move.stuck r refl has is may d

  ready_at : (o : Option RealView) (r : RealView) → s.slot.real ≡ o → o ≡ Some r → has_ready r.orders ≡ true →
      Does s (unless_stray (stray_ready_call o) (ready_call_task h (at_start t) s.slot o)) v sent → Goal None
  ready_at (Some q) r at has is d =
      let same : q ≡ r = cc in
      ready_by q (may_execute q) at (ap (λ y. has_ready y.orders) same ∙ is) refl d
  ready_at None r at has is d = cc

  -- the entity's real has a ready call
  pub ready_moves : (r : RealView) → s.slot.real ≡ Some r → has_ready r.orders ≡ true →
      Does s (unless_stray (stray_ready_call s.slot.real) (ready_call_task h (at_start t) s.slot s.slot.real)) v sent → Goal None
  ready_moves r has is d = ready_at s.slot.real r refl has is d

  look_if : (n : ℕ) (r : RealView) (w : WitnessView) (known : List Known) (b : Bool) → s.looks ≡ n + 1 → s.slot.real ≡ Some r →
      r.witness ≡ Some w → is_small (w.sent + length (shown_of h r w known)) ≡ b →
      Does (record s { looks = n }) (unless_stray (not b) (look_by h s.slot r (Some w) known)) v sent → Goal None
  look_if n r w known true at_n has at may d = move.looks n r w known refl at_n has (key r has) at may d
  look_if n r w known false at_n has at may d =
      move.overlooks n known refl at_n (ap (λ o. stray_look h o known) has ∙ (ap (λ o. stray_look_by h r o known) at ∙ ap not may)) d

  look_in : (n : ℕ) (r : RealView) (o : Option WitnessView) (known : List Known) → s.looks ≡ n + 1 → s.slot.real ≡ Some r → r.witness ≡ o →
      Does (record s { looks = n }) (unless_stray (stray_look_by h r o known) (look_by h s.slot r o known)) v sent → Goal None
  look_in n r (Some w) known at_n has at d = look_if n r w known (is_small (w.sent + length (shown_of h r w known))) at_n has at refl d
  look_in n r None known at_n has at d =
      move.overlooks n known refl at_n (ap (λ o. stray_look h o known) has ∙ ap (λ o. stray_look_by h r o known) at) d

  look_at : (n : ℕ) (o : Option RealView) (known : List Known) → s.looks ≡ n + 1 → s.slot.real ≡ o →
      Does (record s { looks = n }) (unless_stray (stray_look h o known) (look_task h s.slot o known)) v sent → Goal None
  look_at n (Some r) known at_n has d = look_in n r r.witness known at_n has refl d
  look_at n None known at_n has d = move.overlooks n known refl at_n (ap (λ o. stray_look h o known) has) d

  -- the entity is taken from the look list
  pub look_moves : (n : ℕ) (known : List Known) → s.looks ≡ n + 1 → Does (record s { looks = n })
      (unless_stray (stray_look h s.slot.real known) (look_task h s.slot s.slot.real known)) v sent → Goal None
  look_moves n known at_n d = look_at n s.slot.real known at_n refl d
