-- A real that settles where it is due: what is left is that of the cell's step.
use Rattle.std.proofs.Common.{◌≡◌, ◌<◌, ◌^◌, ◌++◌, ℕ, Bool, true, false, not, List, [], ◌∷◌, Option, None, Some, is_none, is_some}
use Rattle.std.proofs.Common.{Result, Ok, Err, OnOk, OnErr, refl, sym, ap, subst, ◌∙◌, append-nil}
use Rattle.std.specs.FinMap as table
use Rattle.seam_node_steps.specs.Prelude.{OutView, may_rise, RealView, may_settle, Msg, set_at, SlotStep, unless_stray, settled}
use Rattle.seam_node_steps.specs.Prelude.{stray_survey, survey_task as survey_step, CellView, slot_of, stepped, cell_task, boundaries_of}
use Rattle.seam_cell_parts.specs.declared.context.CellContext.{CellContext}
use Rattle.seam_cell_parts.specs.declared.reals.Reals.{Reals}
use Rattle.seam_cell_parts.specs.declared.remotes.Remotes.{Remotes}
use Rattle.seam_cell_parts.specs.declared.lists.Lists.{Lists}
use Rattle.seam_cell_parts.specs.Kept.{here_in, cell_of}
use Rattle.seam_cell_parts.specs.Stepping.{parts_of, slot_in, IsDone, list_after}
use Rattle.seam_cell_parts.proofs.MarkLemmas.{put_back}
use Rattle.seam_cell_parts.proofs.SettleLemmas.{rest_done}
use Rattle.seam_entity.proofs.HeldLemmas.{both}
use Rattle.seam_cell_cases.specs.Surveying.{IsMoot}
use Rattle.seam_cell_cases.proofs.CallLemmas.{rises}
use Rattle.seam_cell_cases.proofs.StepLemmas.{done_stepped}

pub from_ok : {T E : Type 0} (P : Type 0) (r : Result T E) (x : T) → r ≡ Ok x → OnOk r P → P
from_ok P (Ok y) x is h = h
from_ok P (Err y) x is h = cc

pub from_err : {T E : Type 0} (P : Type 0) (r : Result T E) (x : E) → r ≡ Err x → OnErr r P → P
from_err P (Ok y) x is h = cc
from_err P (Err y) x is h = h

-- beat and generation of a real that may settle
pub settle_rises : (r : RealView) → may_settle r ≡ true → (r.beat < 2 ^ 62) × (r.generation < 2 ^ 62)
settle_rises r may =
    let two = both (may_rise r.beat) (may_rise r.generation) may in
    (rises r.beat two.0, rises r.generation two.1)

-- a real that is due is here and may settle
pub due_may : (o : Option RealView) (r : RealView) → o ≡ Some r → true ≡ not (stray_survey o) → may_settle r ≡ true
due_may o r at due = by (may_settle r) (due ∙ ap (λ q. not (stray_survey q)) at)
  where
    by : (b : Bool) → true ≡ not (not b) → b ≡ true
    by true h = refl
    by false h = cc

pub due_is_there : (o : Option RealView) → true ≡ not (stray_survey o) → is_some o ≡ true
due_is_there None h = cc
due_is_there (Some r) h = refl

-- where it is not due, the entry alone goes
pub not_due : (c : CellView) (e : ℕ) (es : List ℕ) → c.survey ≡ e ∷ es → false ≡ not (stray_survey (table.get c.reals e)) →
    cell_task c c.survey ≡ record { state = record c { survey = es }; sent = [] }
not_due c e es is stays =
    ap (cell_task c) is
    ∙ ap (λ b. stepped (record c { survey = es }) e (unless_stray b
    (survey_step c.here (boundaries_of c) (slot_of c e) (table.get c.reals e))))
    (by (stray_survey (table.get c.reals e)) stays)
  where
    by : (b : Bool) → false ≡ not b → b ≡ true
    by true h = refl
    by false h = cc

module _ (k : CellContext) (r s : Reals) (p q : Remotes) (l m : Lists) (o n : OutView Msg) (e : ℕ) (es : List ℕ) (x : RealView)
    (left : Option RealView) (at : table.get r.items.items e ≡ Some x) (due : true ≡ not (stray_survey (table.get r.items.items e)))
    (entity : x.entity ≡ e) (is : l.survey ≡ e ∷ es) where
  abbrev before : CellView
  before = record (cell_of k r p l) { survey = es }

  abbrev step : SlotStep
  step = settled (here_in k) k.bounds (slot_in (parts_of p o) e x) x false

  survey_is : cell_task (cell_of k r p l) l.survey ≡ stepped before e step
  survey_is =
      ap (cell_task (cell_of k r p l)) is
      ∙ ((λ i. stepped before e (unless_stray (stray_survey (at i)) (survey_step (here_in k) k.bounds (record {
        real = at i;
        next = table.get p.nexts.items e;
        ghost = table.get p.copies.ghosts e;
      }) (at i))))
      ∙ ap (λ b. stepped before e (unless_stray (not b) step)) (due_may (table.get r.items.items e) x at due))

  module _ (done : IsDone (settled (here_in k) k.bounds (slot_in (parts_of p o) x.entity x) x false) x.entity x left (parts_of p o)
      (parts_of q n))
    where
      here : IsDone step e x left (parts_of p o) (parts_of q n)
      here = subst
          (λ y. IsDone (settled (here_in k) k.bounds (slot_in (parts_of p o) y x) x false) y x left (parts_of p o)
          (parts_of q n)) entity done

      pub surveyed : s.items.items ≡ set_at (table.remove r.items.items e) e left → m.survey ≡ list_after (is_none left) e es →
          m.looks ≡ list_after (is_none left) e l.looks → cell_of k s q m ≡ (cell_task (cell_of k r p l) l.survey).state
      surveyed items survey looks =
          done_stepped k r s p q (record l { survey = es }) m o n e step x left at here items survey looks
          ∙ sym (ap (λ t. t.state) survey_is)

      pub survey_told : n.items ≡ o.items ++ (cell_task (cell_of k r p l) l.survey).sent
      survey_told = here.sent ∙ ap (λ t. o.items ++ t.sent) (sym survey_is)

-- where there is nothing to do, the entry alone goes
module _ (k : CellContext) (r : Reals) (p : Remotes) (l m : Lists) (o : OutView Msg) (e : ℕ) (es : List ℕ)
    (moot : IsMoot (here_in k) k.bounds.tree (table.get r.items.items e))
    (keys : (x : RealView) → table.get r.items.items e ≡ Some x → x.entity ≡ e) (is : l.survey ≡ e ∷ es) (survey : m.survey ≡ es)
    (looks : m.looks ≡ l.looks) where
  abbrev Leaves : Type 0
  Leaves = (cell_of k r p m ≡ (cell_task (cell_of k r p l) l.survey).state)
      × (o.items ≡ o.items ++ (cell_task (cell_of k r p l) l.survey).sent)

  entry_goes : false ≡ not (stray_survey (table.get r.items.items e)) → Leaves
  entry_goes stray =
      let goes = not_due (cell_of k r p l) e es is stray in
      let left : cell_of k r p m ≡ record (cell_of k r p l) { survey = es } = λ i. record {
        here = here_in k;
        tree = k.bounds.tree;
        number = k.bounds.number;
        reals = r.items.items;
        nexts = p.nexts.items;
        ghosts = p.copies.ghosts;
        survey = survey i;
        looks = looks i;
      } in (left ∙ sym (ap (λ t. t.state) goes), sym (append-nil o.items) ∙ ap (λ t. o.items ++ t.sent) (sym goes))

  at_rest : (x : RealView) → table.get r.items.items e ≡ Some x → may_settle x ≡ true → Leaves
  at_rest x at may =
      let due : true ≡ not (stray_survey (table.get r.items.items e)) =
      sym (ap (λ v. not (stray_survey v)) at ∙ ap (λ b. not (not b)) may) in
      let entity = keys x at in
      let done = rest_done (here_in k) x k.bounds (parts_of p o) (moot x at may) in (
        surveyed k r r p p l m o o e es x (Some x) at due entity is done (sym (put_back r.items.items e x at)) survey looks,
        survey_told k r r p p l m o o e es x (Some x) at due entity is done,
      )

  by_rights : (x : RealView) → table.get r.items.items e ≡ Some x → (b : Bool) → may_settle x ≡ b → Leaves
  by_rights x at true may = at_rest x at may
  by_rights x at false may = entry_goes (sym (ap (λ v. not (stray_survey v)) at ∙ ap (λ b. not (not b)) may))

  by_real : (v : Option RealView) → table.get r.items.items e ≡ v → Leaves
  by_real None at = entry_goes (sym (ap (λ v. not (stray_survey v)) at))
  by_real (Some x) at = by_rights x at (may_settle x) refl

  pub moot_done : Leaves
  moot_done = by_real (table.get r.items.items e) refl

module _ (k : CellContext) (r s : Reals) (p q : Remotes) (l m : Lists) (o n : OutView Msg) (e : ℕ) (x : RealView) (left : Option RealView)
    (at : table.get r.items.items e ≡ Some x) where
  -- where allocation failed, all is as it was
  pub survey_undone : left ≡ Some x → parts_of q n ≡ parts_of p o → s.items.items ≡ set_at (table.remove r.items.items e) e left →
      m.survey ≡ list_after (is_none left) e l.survey → m.looks ≡ list_after (is_none left) e l.looks → cell_of k s q m ≡ cell_of k r p l
  survey_undone back same items survey looks =
      let reals = items ∙ (ap (set_at (table.remove r.items.items e) e) back ∙ put_back r.items.items e x at) in
      let off = survey ∙ ap (λ v. list_after (is_none v) e l.survey) back in
      let away = looks ∙ ap (λ v. list_after (is_none v) e l.looks) back in
      λ i. record {
        here = here_in k;
        tree = k.bounds.tree;
        number = k.bounds.number;
        reals = reals i;
        nexts = (same i).nexts;
        ghosts = (same i).ghosts;
        survey = off i;
        looks = away i;
      }
