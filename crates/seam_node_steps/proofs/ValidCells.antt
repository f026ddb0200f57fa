-- A cell's step keeps what is true of the cell.
use Rattle.std.proofs.Common.{◌≡◌, ℕ, ◌<◌, Bool, true, false, cond, List, [], ◌∷◌, Option, None, Some, refl, sym, ◌∙◌, arith}
use Rattle.std.specs.Ordering.{nat_cmp, eq_by_cmp}
use Rattle.std.specs.FinMap as table
use Rattle.std.proofs.lemmas.Bool.Decides.{nat_tests}
use Rattle.seam_node_steps.specs.Prelude.{RealView, Input, Task, From, Msg, Map, set_at, cell_count, Slot, NextPlace, SlotStep, about}
use Rattle.seam_node_steps.specs.Prelude.{slot_steps, CellView, after_slot, unlisted_by, stepped, cell_steps, cell_task, ready_next}
use Rattle.seam_node_steps.specs.Prelude.{look_next, cell_hears, ready_entity, surveys, calls_ready, looks_around, known_to, slot_of}
use Rattle.seam_node_steps.specs.Prelude.{witnesses, NextsAreCells, AreUnderTheirEntities, IsCell, Stepped, Tick, boundaries_of, comes_late}
use Rattle.seam_node_steps.specs.Prelude.{bounds_in, listed_if, renewed, ticked, with_entity}
use Rattle.seam_node_steps.proofs.Slots.{get-set_at}
use Rattle.seam_node_steps.proofs.Keys.{IsOf, StepIsOf, surveys_of, calls_ready_of, looks_of, slot_is_of}
use Rattle.seam_node_steps.proofs.Targets.{IsGood, StepIn, cell_surveys, cell_calls_ready, cell_looks, cell_slot, renewed_valid}

either_in : (b : Bool) (o p : Option NextPlace) (n : NextPlace) → ((n : NextPlace) → o ≡ Some n → n.cell < cell_count) →
    ((n : NextPlace) → p ≡ Some n → n.cell < cell_count) → cond b o p ≡ Some n → n.cell < cell_count
either_in true o p n h k e = h n e
either_in false o p n h k e = k n e

nexts_set : (m : Map NextPlace) (e : ℕ) (o : Option NextPlace) → NextsAreCells m → ((n : NextPlace) → o ≡ Some n → n.cell < cell_count) →
    NextsAreCells (set_at m e o)
nexts_set m e o h k q n is = either_in (eq_by_cmp nat_cmp q e) o (table.get m q) n k (h q) (sym (get-set_at m e q o) ∙ is)

unlisted_valid : (b : Bool) (c : CellView) (e : ℕ) → IsCell c → IsCell (unlisted_by b c e)
unlisted_valid true c e is = record { me_in = is.me_in; bases = is.bases; cells = is.cells; nexts = is.nexts; keys = is.keys }
unlisted_valid false c e is = is

either_of : (b : Bool) (q e : ℕ) (o p : Option RealView) (r : RealView) → eq_by_cmp nat_cmp q e ≡ b → IsOf e o → IsOf q p → cond b o p
    ≡ Some r →
    r.entity ≡ q
either_of true q e o p r is h k same = h r same ∙ grind (arith, nat_tests, is)
either_of false q e o p r is h k same = k r same

keys_set : (m : Map RealView) (e : ℕ) (o : Option RealView) → AreUnderTheirEntities m → IsOf e o → AreUnderTheirEntities (set_at m e o)
keys_set m e o h k q r is = either_of (eq_by_cmp nat_cmp q e) q e o (table.get m q) r refl k (h q) (sym (get-set_at m e q o) ∙ is)

slot_valid : (c : CellView) (e : ℕ) (o : Option Slot) (is : IsCell c) → StepIn c.here is.me_in is.bases (boundaries_of c) is.cells o →
    StepIsOf e o →
    IsCell (after_slot c e o)
slot_valid c e None is h k = is
slot_valid c e (Some s) is h k =
    record {
      me_in = is.me_in;
      bases = is.bases;
      cells = is.cells;
      nexts = nexts_set c.nexts e s.next is.nexts h;
      keys =
          keys_set c.reals e s.real is.keys k;
    }

step_valid : (c : CellView) (e : ℕ) (t : SlotStep) (is : IsCell c) → IsGood c.here is.me_in is.bases (boundaries_of c) is.cells t →
    StepIsOf e t.slot →
    IsCell (stepped c e t).state
step_valid c e t is good of = unlisted_valid t.unlisted (after_slot c e t.slot) e (slot_valid c e t.slot is good.next of)

-- with other lists it is as valid
abbrev other_lists : (c : CellView) (survey looks : List ℕ) → IsCell c → IsCell (record c { survey = survey; looks = looks })
other_lists c survey looks is = record { me_in = is.me_in; bases = is.bases; cells = is.cells; nexts = is.nexts; keys = is.keys }

look_valid : (c : CellView) (es : List ℕ) → IsCell c → IsCell (look_next c es).state
look_valid c [] is = is
look_valid c (e ∷ es) is = step_valid (record c { looks = es }) e (looks_around c e (table.get c.reals e) (known_to c e))
    (other_lists c c.survey es is) (cell_looks c is e) (looks_of c is e)

ready_valid : (c : CellView) (o : Option ℕ) → IsCell c → IsCell (ready_next c o).state
ready_valid c (Some e) is = step_valid c e (calls_ready c e (table.get c.reals e)) is (cell_calls_ready c is e) (calls_ready_of c is e)
ready_valid c None is = look_valid c c.looks is

task_valid : (c : CellView) (es : List ℕ) → IsCell c → IsCell (cell_task c es).state
task_valid c (e ∷ es) is = step_valid (record c { survey = es }) e (surveys c e (table.get c.reals e)) (other_lists c es c.looks is)
    (cell_surveys c is e) (surveys_of c is e)
task_valid c [] is = ready_valid c (ready_entity c) is

listed_valid : (b : Bool) (e : ℕ) (t : Stepped CellView Msg) → IsCell t.state → IsCell (listed_if b e t).state
listed_valid true e t is = other_lists t.state (with_entity e t.state.survey) t.state.looks is
listed_valid false e t is = is

ticked_valid : (c : CellView) (m : Msg) → IsCell c → IsCell (ticked c m)
ticked_valid c Tick is = other_lists c c.survey (witnesses c) is
ticked_valid c _ is = is

hears_valid : (c : CellView) (m : Msg) (o : Option ℕ) → about m ≡ o → IsCell c → IsCell (cell_hears c m o).state
hears_valid c m (Some e) a is =
    listed_valid (comes_late c m) e (stepped c e (slot_steps c.here (boundaries_of c) (slot_of c e) m))
    (step_valid c e (slot_steps c.here (boundaries_of c) (slot_of c e) m) is (cell_slot c is e m)
    (slot_is_of c.here (boundaries_of c) e (slot_of c e) m a (is.keys e)))
hears_valid c m None a is = ticked_valid c m is

pub cell_stays_valid : (c : CellView) (i : Input Msg) → IsCell c → IsCell (cell_steps c i).state
cell_stays_valid c Task is = task_valid c c.survey is
cell_stays_valid c (From a m) is =
    hears_valid (renewed c (bounds_in m)) m (about m) refl (renewed_valid c (bounds_in m) is)
