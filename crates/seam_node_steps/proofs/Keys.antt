-- A step leaves an entity's real under the entity's number.
use Rattle.std.proofs.Common.{◌≡◌, ℕ, Bool, true, false, Option, None, Some, refl, ap, ◌∙◌}
use Rattle.std.specs.FinMap as table
use Rattle.std.specs.Ordering.{nat_cmp}
use Rattle.std.specs.declared.cmp.Ordering.{Ordering}
use Rattle.std.specs.declared.cmp.Ordering.TheVariants.{Less, Equal, Greater}
use Rattle.seam_node_steps.specs.Prelude.{Boundaries, boundaries_of, OrderView, next_item, Call as CallData, GhostCopy, order_of, RealView}
use Rattle.seam_node_steps.specs.Prelude.{WitnessView, Msg}
use Rattle.seam_node_steps.specs.Prelude.{Hand, GhostSet, GhostDrop, Reap, Here, ready_order, executed}
use Rattle.seam_node_steps.specs.Prelude.{executed_ready, shows, Slot, NextPlace, SlotStep, unless_stray, home_after, settled_by, settled}
use Rattle.seam_node_steps.specs.Prelude.{about, slot_steps, look_by, look_task, CellView, slot_of, known_to, IsCell}
use Rattle.seam_entity.specs.declared.message.Msg.TheVariants.{Call}
use Rattle.seam_node_steps.specs.CellCases
use Rattle.seam_node_steps.specs.CellLooks
use Rattle.seam_node_steps.specs.Cells

-- the real, if there is one, is that of the entity
abbrev pub IsOf : ℕ → Option RealView → Type 0
IsOf e o = (r : RealView) → o ≡ Some r → r.entity ≡ e

abbrev pub StepIsOf : ℕ → Option Slot → Type 0
StepIsOf e None = Unit {0}
StepIsOf e (Some s) = IsOf e s.real

some_of : (e : ℕ) (x : RealView) → x.entity ≡ e → IsOf e (Some x)
some_of e x is r h = let same : r ≡ x = cc in ap (λ y. y.entity) same ∙ is

none_of : (e : ℕ) → IsOf e None
none_of e r h = cc

module _ (h : Here) (t : Boundaries) (e : ℕ) where
  unless_of : (b : Bool) (s : SlotStep) → StepIsOf e s.slot → StepIsOf e (unless_stray b s).slot
  unless_of true s is = tt
  unless_of false s is = is

  by_of : (b : Bool) (s : Slot) (r : RealView) (changed : Bool) (j : ℕ) → r.entity ≡ e → StepIsOf e (settled_by b h t s r changed j).slot
  by_of true s r changed j is = some_of e _ is
  by_of false s r changed j is = none_of e

  settled_of : (s : Slot) (r : RealView) (changed : Bool) → r.entity ≡ e → StepIsOf e (settled h t s r changed).slot
  settled_of s r changed is = by_of _ s r changed (home_after h t.tree r.state.pos) is

  offered_of : (s : Slot) (r : RealView) (k : CallData) (o : Ordering) → r.entity ≡ e → StepIsOf e (CellCases.offered h t s r k o).slot
  offered_of s r k Less is = tt
  offered_of s r k Equal is = settled_of s (executed h r k) (shows h r k) is
  offered_of s r k Greater is = some_of e _ is

  passed_of : (k : CallData) (o : Option NextPlace) → StepIsOf e (CellCases.call_next_place k o).slot
  passed_of k None = tt
  passed_of k (Some n) = tt

  call_of : (s : Slot) (k : CallData) (o : Option RealView) → IsOf e o → StepIsOf e (CellCases.call h t s k o).slot
  call_of s k (Some r) is = offered_of s r k (nat_cmp k.number (order_of r.orders k.sender).next) (is r refl)
  call_of s k None is = passed_of k s.next

  set_of : (s : Slot) (beat : ℕ) (c : GhostCopy) (o : Option RealView) → IsOf e s.real → StepIsOf e (CellCases.ghost_set s beat c o).slot
  set_of s beat c None is = is
  set_of s beat c (Some r) is = tt

  reap_of : (s : Slot) (o : Option RealView) → StepIsOf e (CellCases.reap s o).slot
  reap_of s (Some r) = none_of e
  reap_of s None = tt

  hand_is : (r : RealView) → Some r.entity ≡ Some e → r.entity ≡ e
  hand_is r is = cc

  case_of_entity : (s : Slot) (m : Msg) → about m ≡ Some e → IsOf e s.real → StepIsOf e (CellCases.case_of h t s m).slot
  case_of_entity s (Call k) a is = call_of s k s.real is
  case_of_entity s (Hand r o) a is = some_of e r (hand_is r a)
  case_of_entity s (GhostSet x b c) a is = set_of s b c s.real is
  case_of_entity s (GhostDrop x b) a is = is
  case_of_entity s (Reap x) a is = reap_of s s.real
  case_of_entity s _ a is = tt

  pub slot_is_of : (s : Slot) (m : Msg) → about m ≡ Some e → IsOf e s.real → StepIsOf e (slot_steps h t s m).slot
  slot_is_of s m a is = unless_of (CellCases.is_stray h t.tree s m) (CellCases.case_of h t s m) (case_of_entity s m a is)

  survey_of : (s : Slot) (o : Option RealView) → IsOf e o → StepIsOf e (CellCases.survey_task h t s o).slot
  survey_of s (Some r) is = settled_of s r false (is r refl)
  survey_of s None is = tt

  executes_of : (s : Slot) (r : RealView) (o : ℕ × OrderView CallData) (k : Option CallData) → r.entity ≡ e →
      StepIsOf e (CellCases.executes_ready h t s r o k).slot
  executes_of s r o (Some k) is = settled_of s (executed_ready h r o k) (shows h r k) is
  executes_of s r o None is = tt

  ready_in_of : (s : Slot) (r : RealView) (o : Option (ℕ × OrderView CallData)) → r.entity ≡ e →
      StepIsOf e (CellCases.ready_in h t s r o).slot
  ready_in_of s r (Some o) is = executes_of s r o (next_item o.1) is
  ready_in_of s r None is = tt

  ready_of : (s : Slot) (o : Option RealView) → IsOf e o → StepIsOf e (CellCases.ready_call_task h t s o).slot
  ready_of s (Some r) is = ready_in_of s r (ready_order r.orders) (is r refl)
  ready_of s None is = tt

  look_by_of : (s : Slot) (r : RealView) (o : Option WitnessView) (known : _) → r.entity ≡ e → StepIsOf e (look_by h s r o known).slot
  look_by_of s r (Some w) known is = some_of e _ is
  look_by_of s r None known is = tt

  look_of : (s : Slot) (o : Option RealView) (known : _) → IsOf e o → StepIsOf e (look_task h s o known).slot
  look_of s (Some r) known is = look_by_of s r r.witness known (is r refl)
  look_of s None known is = tt

module _ (c : CellView) (is : IsCell c) (e : ℕ) where
  pub surveys_of : StepIsOf e (Cells.surveys c e (table.get c.reals e)).slot
  surveys_of = unless_of c.here (boundaries_of c) e (CellCases.stray_survey (table.get c.reals e))
      (CellCases.survey_task c.here (boundaries_of c) (slot_of c e) (table.get c.reals e))
      (survey_of c.here (boundaries_of c) e (slot_of c e) (table.get c.reals e) (is.keys e))

  pub calls_ready_of : StepIsOf e (Cells.calls_ready c e (table.get c.reals e)).slot
  calls_ready_of = unless_of c.here (boundaries_of c) e (CellCases.stray_ready_call (table.get c.reals e))
      (CellCases.ready_call_task c.here (boundaries_of c) (slot_of c e) (table.get c.reals e))
      (ready_of c.here (boundaries_of c) e (slot_of c e) (table.get c.reals e) (is.keys e))

  pub looks_of : StepIsOf e (Cells.looks_around c e (table.get c.reals e) (known_to c e)).slot
  looks_of = unless_of c.here (boundaries_of c) e (CellLooks.stray_look c.here (table.get c.reals e) (known_to c e))
      (look_task c.here (slot_of c e) (table.get c.reals e) (known_to c e))
      (look_of c.here (boundaries_of c) e (slot_of c e) (table.get c.reals e) (known_to c e) (is.keys e))
