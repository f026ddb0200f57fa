-- A step of one entity's slot, from what was done to the parts of the cell.
use Rattle.std.proofs.Common.{◌≡◌, ◌++◌, ◌&&◌, ℕ, Bool, true, false, not, List, [], Option, None, Some, is_none}
use Rattle.std.proofs.Common.{refl, ap, sym, subst, Result, Ok, Err, OnOk, OnErr, ◌∙◌}
use Rattle.std.specs.Prelude.{find, option_map}
use Rattle.std.specs.FinMap as table
use Rattle.seam_table.proofs.Found.{found}
use Rattle.std.specs.Ordering.{nat_cmp, match_ordering}
use Rattle.std.specs.declared.cmp.Ordering.{Ordering}
use Rattle.std.specs.declared.cmp.Ordering.TheVariants.{Less, Equal, Greater}
use Rattle.std.specs.Cmp.{nat_cmp_total, tied_itself}
use Rattle.seam_node_steps.specs.Prelude.{OutView, Input, Task, From, Call as CallData, Here, order_of, RealView, Msg, has_ready, may_call}
use Rattle.seam_node_steps.specs.Prelude.{may_execute, executed, shows, with_offer, set_at, number_of, Slot, SlotStep, slot_after}
use Rattle.seam_node_steps.specs.Prelude.{unless_stray, settled, CellView, slot_of, with_slot, after_slot, unlisted_by, stepped, cell_steps}
use Rattle.seam_node_steps.specs.Prelude.{boundaries_of}
use Rattle.seam_node_steps.specs.Prelude.{cell_task, real_is_ready, ready_entity, ready_next, look_next}
use Rattle.seam_entity.specs.declared.message.Msg.TheVariants.{Call}
use Rattle.seam_node_steps.specs.CellCases
use Rattle.seam_node_steps.proofs.Slots.{set_at-same}
use Rattle.seam_cell_parts.specs.declared.context.CellContext.{CellContext}
use Rattle.seam_cell_parts.specs.declared.reals.Reals.{Reals}
use Rattle.seam_cell_parts.specs.declared.remotes.Remotes.{Remotes}
use Rattle.seam_cell_parts.specs.declared.lists.Lists.{Lists}
use Rattle.seam_entity.specs.Preparing.{offered as held_or}
use Rattle.seam_cell_parts.specs.Kept.{here_in, cell_of, AreKept, IsKept, AreWhole}
use Rattle.seam_cell_cases.specs.Calling.{called_by, is_called, IsTurn, may_run}
use Rattle.seam_cell_parts.specs.Stepping.{parts_of, slot_in, IsDone, list_after}
use Rattle.seam_cell_parts.proofs.MarkLemmas.{put_again, put_back}
use Rattle.seam_cell_cases.proofs.KeptLemmas.{step_kept}
use Rattle.seam_cell_parts.proofs.RealLemmas.{set_removed}

-- a step that leaves a slot as it is puts it in as it is
after_is_with : (c : CellView) (e : ℕ) (o : Option Slot) → after_slot c e o ≡ with_slot c e (slot_after o (slot_of c e))
after_is_with c e None = λ i. record c {
  reals = sym (set_at-same c.reals e) i;
  nexts = sym (set_at-same c.nexts e) i;
  ghosts = sym (set_at-same c.ghosts e) i;
}
after_is_with c e (Some s) = refl

unlisted_is : (b : Bool) (c : CellView) (e : ℕ) → unlisted_by b c e
    ≡ record c { survey = list_after b e c.survey; looks = list_after b e c.looks }
unlisted_is true c e = refl
unlisted_is false c e = refl

module _ (k : CellContext) (r s : Reals) (p q : Remotes) (l m : Lists) (o n : OutView Msg) (e : ℕ) (t : SlotStep) (x : RealView)
    (left : Option RealView) (at : table.get r.items.items e ≡ Some x) (done : IsDone t e x left (parts_of p o) (parts_of q n)) where
  same_slot : slot_in (parts_of p o) e x ≡ slot_of (cell_of k r p l) e
  same_slot = λ i. record { real = sym at i; next = table.get p.nexts.items e; ghost = table.get p.copies.ghosts e }

  pub done_stepped : s.items.items ≡ set_at (table.remove r.items.items e) e left → m.survey ≡ list_after (is_none left) e l.survey →
      m.looks ≡ list_after (is_none left) e l.looks → cell_of k s q m ≡ (stepped (cell_of k r p l) e t).state
  done_stepped items survey looks =
      let reals : s.items.items ≡ set_at r.items.items e (slot_after t.slot (slot_of (cell_of k r p l) e)).real =
      items
      ∙ (set_removed r.items.items e left
      ∙ ap (set_at r.items.items e) (done.real ∙ ap (λ w. (slot_after t.slot w).real) same_slot)) in
      let nexts = done.nexts ∙ ap (λ w. set_at p.nexts.items e (slot_after t.slot w).next) same_slot in
      let ghosts = done.ghosts ∙ ap (λ w. set_at p.copies.ghosts e (slot_after t.slot w).ghost) same_slot in
      let off = survey ∙ ap (λ b. list_after b e l.survey) (sym done.unlisted) in
      let away = looks ∙ ap (λ b. list_after b e l.looks) (sym done.unlisted) in
      (λ i. record {
        here = here_in k;
        tree = k.bounds.tree;
        number = k.bounds.number;
        reals = reals i;
        nexts = nexts i;
        ghosts = ghosts i;
        survey = off i;
        looks = away i;
      })
      ∙ (sym (unlisted_is t.unlisted (with_slot (cell_of k r p l) e (slot_after t.slot (slot_of (cell_of k r p l) e))) e)
      ∙ ap (λ c. unlisted_by t.unlisted c e) (sym (after_is_with (cell_of k r p l) e t.slot)))

-- ---- a call whose real is here

module _ (c : CellView) (from : ℕ) (k : CallData) (x : RealView) (at : table.get c.reals k.entity ≡ Some x) where
  abbrev pub slot_here : Slot
  slot_here = record { real = Some x; next = table.get c.nexts k.entity; ghost = table.get c.ghosts k.entity }

  abbrev by_order : SlotStep
  by_order = CellCases.offered c.here (boundaries_of c) slot_here x k (nat_cmp k.number (order_of x.orders k.sender).next)

  by_real : Option RealView → SlotStep
  by_real o = unless_stray (CellCases.stray_call c.here k o (table.get c.nexts k.entity))
      (CellCases.call c.here (boundaries_of c) (record {
        real = o;
        next = table.get c.nexts k.entity;
        ghost = table.get c.ghosts k.entity;
      }) k o)

  called_step : cell_steps c (From from (Call k)) ≡ stepped c k.entity (unless_stray (not (may_call c.here x k)) by_order)
  unfolding by_real
  called_step = ap (λ o. stepped c k.entity (by_real o)) at

  pub stray_called : may_call c.here x k ≡ false → cell_steps c (From from (Call k)) ≡ record { state = c; sent = [] }
  stray_called may = called_step ∙ ap (λ b. stepped c k.entity (unless_stray (not b) by_order)) may

  pub called : may_call c.here x k ≡ true → cell_steps c (From from (Call k)) ≡ stepped c k.entity by_order
  called may = called_step ∙ ap (λ b. stepped c k.entity (unless_stray (not b) by_order)) may

  pub called_in_turn : may_call c.here x k ≡ true → k.number ≡ (order_of x.orders k.sender).next → cell_steps c (From from (Call k))
      ≡ stepped c k.entity (settled c.here (boundaries_of c) slot_here (executed c.here x k) (shows c.here x k))
  called_in_turn may turn =
      called may
      ∙ ap (λ o. stepped c k.entity (CellCases.offered c.here (boundaries_of c) slot_here x k o))
      (ap (λ a. nat_cmp a (order_of x.orders k.sender).next) turn ∙ tied_itself nat_cmp_total (order_of x.orders k.sender).next)

-- ---- the cell after a call

pub by_result : {A E : Type 0} (res : Result A E) (P : Type 0) → OnOk res P → OnErr res P → P
by_result (Ok a) P done failed = done
by_result (Err e) P done failed = failed

pub both_err : {A E : Type 0} (P Q : Type 0) (res : Result A E) → OnErr res P → OnErr res Q → OnErr res (P × Q)
both_err P Q (Ok a) p q = tt
both_err P Q (Err e) p q = (p, q)

-- a cell that is what a step leaves is whole, and so is one that is as it was
pub whole_after : (k : CellContext) (r s : Reals) (p q : Remotes) (l m : Lists) (i : Input Msg) → AreWhole k r p l → AreKept s →
    cell_of k s q m ≡ (cell_steps (cell_of k r p l) i).state → AreWhole k s q m
whole_after k r s p q l m i is kept same =
    record { cell = subst IsKept (sym same) (step_kept (cell_of k r p l) i is.cell); marks = kept }

pub whole_again : (k : CellContext) (r s : Reals) (p q : Remotes) (l m : Lists) → AreWhole k r p l → AreKept s →
    cell_of k s q m ≡ cell_of k r p l → AreWhole k s q m
whole_again k r s p q l m is kept same = record { cell = subst IsKept (sym same) is.cell; marks = kept }

pub one_is_called : (c : CellView) (k : CallData) (x : RealView) → table.get c.reals k.entity ≡ Some x → is_called c k ≡ true →
    may_call c.here x k ≡ true
one_is_called c k x at may = sym (ap (called_by c.here k) at) ∙ may

-- the cell that the steps of the call leave, and what it sends
pub record CallLeaves (c d : CellView) (k : CallData) (before after : List (ℕ × Msg)) : Type 0 where
  pub state : (from : ℕ) → d ≡ (cell_steps c (From from (Call k))).state
  pub sent : (from : ℕ) → after ≡ before ++ (cell_steps c (From from (Call k))).sent

-- after want of memory the cell is as it was
pub undone : (k : CellContext) (r s : Reals) (p q : Remotes) (l m : Lists) (o n : OutView Msg) (e : ℕ) (x : RealView)
    (left : Option RealView) →
    table.get r.items.items e ≡ Some x → s.items.items ≡ set_at (table.remove r.items.items e) e left →
    m.survey ≡ list_after (is_none left) e l.survey → m.looks ≡ list_after (is_none left) e l.looks → left ≡ Some x →
    parts_of q n ≡ parts_of p o → cell_of k s q m ≡ cell_of k r p l
undone k r s p q l m o n e x left at items survey looks same parts =
    let reals : s.items.items ≡ r.items.items =
    items
    ∙ (set_removed r.items.items e left ∙ (ap (set_at r.items.items e) (same ∙ sym at) ∙ set_at-same r.items.items e)) in
    let off = survey ∙ ap (λ b. list_after b e l.survey) (ap is_none same) in
    let away = looks ∙ ap (λ b. list_after b e l.looks) (ap is_none same) in
    λ i. record {
      here = here_in k;
      tree = k.bounds.tree;
      number = k.bounds.number;
      reals = reals i;
      nexts = (parts i).nexts;
      ghosts = (parts i).ghosts;
      survey = off i;
      looks = away i;
    }

module _ (k : CellContext) (r s : Reals) (p q : Remotes) (l m : Lists) (o n : OutView Msg) (call : CallData) (x : RealView)
    (left : Option RealView) (at : table.get r.items.items call.entity ≡ Some x)
    (items : s.items.items ≡ set_at (table.remove r.items.items call.entity) call.entity left)
    (survey : m.survey ≡ list_after (is_none left) call.entity l.survey) (looks : m.looks ≡ list_after (is_none left) call.entity l.looks)
  where
    abbrev pub h : Here
    h = here_in k

    pub turn_left : AreWhole k r p l → is_called (cell_of k r p l) call ≡ true → IsTurn (cell_of k r p l) call →
        IsDone (settled h k.bounds (slot_in (parts_of p o) x.entity x) (executed h x call) (shows h x call)) x.entity x left (parts_of p o)
        (parts_of q n) → CallLeaves (cell_of k r p l) (cell_of k s q m) call o.items n.items
    turn_left is may turn done =
        let entity : x.entity ≡ call.entity = is.cell.cell.keys call.entity x at in
        let t = settled h k.bounds (slot_in (parts_of p o) call.entity x) (executed h x call) (shows h x call) in
        let here : IsDone t call.entity x left (parts_of p o) (parts_of q n) =
        subst (λ e. IsDone (settled h k.bounds (slot_in (parts_of p o) e x) (executed h x call) (shows h x call)) e x left (parts_of p o)
        (parts_of q n)) entity done in
        let step = λ (from : ℕ).
        called_in_turn (cell_of k r p l) from call x at (one_is_called (cell_of k r p l) call x at may) (turn x at) in
        record {
          state =
              λ from. done_stepped k r s p q l m o n call.entity t x left at here items survey looks ∙ ap (λ w. w.state) (sym (step from));
          sent = λ from. here.sent ∙ ap (λ w. o.items ++ w.sent) (sym (step from));
        }

-- ---- a call that is not executed

some_same : {X : Type 0} {x y : X} → Some x ≡ Some y → x ≡ y
some_same e = cc

module _ (c : CellView) (call : CallData) (x : RealView) (at : table.get c.reals call.entity ≡ Some x) (may : is_called c call ≡ true)
    (not_turn : IsTurn c call → ⊥) where
  abbrev offers : Ordering → SlotStep
  offers o = CellCases.offered c.here (boundaries_of c) (slot_here c 0 call x at) x call o

  abbrev leaves : Ordering → RealView
  leaves o = match_ordering o x (executed c.here x call) (with_offer x call)

  no_turn : nat_cmp call.number (order_of x.orders call.sender).next ≡ Equal → ⊥
  no_turn is =
      let same = table.nat_cmp-IsAntisymmetric call.number (order_of x.orders call.sender).next is in
      not_turn (λ y there. let one : x ≡ y = some_same (sym at ∙ there) in
      subst (λ z. call.number ≡ (order_of z.orders call.sender).next) one same)

  sent_by : (o : Ordering) → (o ≡ Equal → ⊥) → (offers o).sent ≡ []
  sent_by Less apart = refl
  sent_by Equal apart = absurd (apart refl)
  sent_by Greater apart = refl

  state_by : (o : Ordering) → (o ≡ Equal → ⊥) → record c { reals = table.insert c.reals call.entity (leaves o) }
      ≡ (stepped c call.entity (offers o)).state
  state_by Less apart = λ i. record c { reals = (ap (set_at c.reals call.entity) (sym at) ∙ set_at-same c.reals call.entity) i }
  state_by Equal apart = absurd (apart refl)
  state_by Greater apart = λ i. record c {
    reals = table.insert c.reals call.entity (with_offer x call);
    nexts = sym (set_at-same c.nexts call.entity) i;
    ghosts = sym (set_at-same c.ghosts call.entity) i;
  }

  step_is : (from : ℕ) → cell_steps c (From from (Call call))
      ≡ stepped c call.entity (offers (nat_cmp call.number (order_of x.orders call.sender).next))
  step_is from = called c from call x at (one_is_called c call x at may)

  pub held_sent : (from : ℕ) → (cell_steps c (From from (Call call))).sent ≡ []
  held_sent from = ap (λ w. w.sent) (step_is from) ∙ sent_by (nat_cmp call.number (order_of x.orders call.sender).next) no_turn

  pub held_state : (from : ℕ) → record c { reals = table.insert c.reals call.entity (held_or c.here x call) }
      ≡ (cell_steps c (From from (Call call))).state
  held_state from =
      state_by (nat_cmp call.number (order_of x.orders call.sender).next) no_turn ∙ ap (λ w. w.state) (sym (step_is from))

-- nothing is sent, whatever real is here
pub held_sends : (c : CellView) (call : CallData) → is_called c call ≡ true → (IsTurn c call → ⊥) → (from : ℕ) →
    (cell_steps c (From from (Call call))).sent ≡ []
held_sends c call may not_turn from = by (table.get c.reals call.entity) refl
  where
    by : (o : Option RealView) → table.get c.reals call.entity ≡ o → (cell_steps c (From from (Call call))).sent ≡ []
    by None at = let not : false ≡ true = sym (ap (called_by c.here call) at) ∙ may in cc
    by (Some x) at = held_sent c call x at may not_turn from

-- the cell with a real that was taken out and put in as it is after the call
pub held_left : (k : CellContext) (r s : Reals) (p : Remotes) (l : Lists) (call : CallData) (x y : RealView) →
    table.get r.items.items call.entity ≡ Some x → s.items.items ≡ table.insert (table.remove r.items.items call.entity) call.entity y →
    is_called (cell_of k r p l) call ≡ true → (IsTurn (cell_of k r p l) call → ⊥) → y ≡ held_or (here_in k) x call → (from : ℕ) →
    cell_of k s p l ≡ (cell_steps (cell_of k r p l) (From from (Call call))).state
held_left k r s p l call x y at items may not_turn is from =
    let reals = items ∙ (put_again r.items.items call.entity y ∙ ap (table.insert r.items.items call.entity) is) in
    (λ i. record (cell_of k r p l) { reals = reals i }) ∙ held_state (cell_of k r p l) call x at may not_turn from

-- and as it was
pub held_not : (k : CellContext) (r s : Reals) (p : Remotes) (l : Lists) (e : ℕ) (x y : RealView) → table.get r.items.items e ≡ Some x →
    s.items.items ≡ table.insert (table.remove r.items.items e) e y → y ≡ x → cell_of k s p l ≡ cell_of k r p l
held_not k r s p l e x y at items is =
    let reals = items ∙ (ap (table.insert (table.remove r.items.items e) e) is ∙ put_back r.items.items e x at) in
    λ i. record (cell_of k r p l) { reals = reals i }

-- ---- the ready-call task

-- the least entity that has a ready call has a real, which has one
pub record ReadyAt (c : CellView) (e : ℕ) : Type 0 where
  pub real : RealView
  pub at : table.get c.reals e ≡ Some real
  pub is : has_ready real.orders ≡ true

pub ready_at : (c : CellView) (e : ℕ) → ready_entity c ≡ Some e → ReadyAt c e
ready_at c e is = by (find real_is_ready (table.entries c.reals)) refl is
  where
    by : (o : Option (ℕ × RealView)) → find real_is_ready (table.entries c.reals) ≡ o → option_map number_of o ≡ Some e → ReadyAt c e
    by None eq is = let not : None ≡ Some e = is in cc
    by (Some x) eq is =
        let number : x.0 ≡ e = some_same is in
        let there = found real_is_ready c.reals x eq in
        record { real = x.1; at = ap (table.get c.reals) (sym number) ∙ there.0; is = there.1 }

-- where the real there may execute it, it does
pub runs : (c : CellView) (e : ℕ) → ready_entity c ≡ Some e → (x : RealView) → table.get c.reals e ≡ Some x → may_execute x ≡ true →
    may_run (table.get c.reals e) ≡ true
runs c e is x at may =
    let ready = ready_at c e is in
    let same : ready.real ≡ x = some_same (sym ready.at ∙ at) in
    ap may_run at ∙ ((λ i. may i && has_ready x.orders) ∙ (ap (λ y. has_ready y.orders) (sym same) ∙ ready.is))

pub task_ready : (c : CellView) (e : ℕ) → c.survey ≡ [] → ready_entity c ≡ Some e → cell_steps c Task ≡ ready_next c (Some e)
task_ready c e surveyed ready = ap (cell_task c) surveyed ∙ ap (ready_next c) ready

module _ (c : CellView) (e : ℕ) (x : RealView) (at : table.get c.reals e ≡ Some x) where
  abbrev slot_with : Option RealView → Slot
  slot_with o = record { real = o; next = table.get c.nexts e; ghost = table.get c.ghosts e }

  readies_real : Option RealView → SlotStep
  readies_real o = unless_stray (CellCases.stray_ready_call o) (CellCases.ready_call_task c.here (boundaries_of c) (slot_with o) o)

  readies : ready_next c (Some e)
      ≡ stepped c e (unless_stray (not (may_execute x)) (CellCases.ready_call_task c.here (boundaries_of c) (slot_with (Some x)) (Some x)))
  unfolding readies_real
  readies = ap (λ o. stepped c e (readies_real o)) at

  pub stray_readies : may_execute x ≡ false → ready_next c (Some e) ≡ record { state = c; sent = [] }
  stray_readies may =
      readies
      ∙ ap (λ b. stepped c e (unless_stray (not b) (CellCases.ready_call_task c.here (boundaries_of c) (slot_with (Some x)) (Some x)))) may

  pub readies_may : may_execute x ≡ true →
      ready_next c (Some e) ≡ stepped c e (CellCases.ready_call_task c.here (boundaries_of c) (slot_with (Some x)) (Some x))
  readies_may may =
      readies
      ∙ ap (λ b. stepped c e (unless_stray (not b) (CellCases.ready_call_task c.here (boundaries_of c) (slot_with (Some x)) (Some x)))) may

-- the cell that a task leaves, and what it sends
pub record TaskLeaves (c d : CellView) (before after : List (ℕ × Msg)) : Type 0 where
  pub state : d ≡ (cell_steps c Task).state
  pub sent : after ≡ before ++ (cell_steps c Task).sent

pub ready_left : (k : CellContext) (r s : Reals) (p q : Remotes) (l m : Lists) (o n : OutView Msg) (e : ℕ) (x : RealView)
    (left : Option RealView) → table.get r.items.items e ≡ Some x → s.items.items ≡ set_at (table.remove r.items.items e) e left →
    m.survey ≡ list_after (is_none left) e l.survey → m.looks ≡ list_after (is_none left) e l.looks → AreWhole k r p l →
    (cell_of k r p l).survey ≡ [] → ready_entity (cell_of k r p l) ≡ Some e → may_execute x ≡ true →
    IsDone (CellCases.ready_call_task (here_in k) k.bounds (slot_in (parts_of p o) x.entity x) (Some x)) x.entity x left (parts_of p o)
    (parts_of q n) → TaskLeaves (cell_of k r p l) (cell_of k s q m) o.items n.items
ready_left k r s p q l m o n e x left at items survey looks is surveyed ready may done =
    let entity : x.entity ≡ e = is.cell.cell.keys e x at in
    let t = CellCases.ready_call_task (here_in k) k.bounds (slot_in (parts_of p o) e x) (Some x) in
    let here : IsDone t e x left (parts_of p o) (parts_of q n) =
    subst (λ y. IsDone (CellCases.ready_call_task (here_in k) k.bounds (slot_in (parts_of p o) y x) (Some x)) y x left (parts_of p o)
    (parts_of q n)) entity done in
    let step = task_ready (cell_of k r p l) e surveyed ready ∙ readies_may (cell_of k r p l) e x at may in
    record {
      state = done_stepped k r s p q l m o n e t x left at here items survey looks ∙ ap (λ w. w.state) (sym step);
      sent = here.sent ∙ ap (λ w. o.items ++ w.sent) (sym step);
    }

-- ---- a cell after a step, whether there was memory for it or not

pub whole_either : {A E : Type 0} (k : CellContext) (r s : Reals) (p q : Remotes) (l m : Lists) (i : Input Msg) (res : Result A E) →
    AreWhole k r p l → AreKept s → OnOk res (cell_of k s q m ≡ (cell_steps (cell_of k r p l) i).state) →
    OnErr res (cell_of k s q m ≡ cell_of k r p l) → AreWhole k s q m
whole_either k r s p q l m i (Ok a) is kept done failed = whole_after k r s p q l m i is kept done
whole_either k r s p q l m i (Err e) is kept done failed = whole_again k r s p q l m is kept failed

pub task_looks : (c : CellView) → c.survey ≡ [] → ready_entity c ≡ None → cell_steps c Task ≡ look_next c c.looks
task_looks c surveyed ready = ap (cell_task c) surveyed ∙ ap (ready_next c) ready
