-- A cell's step keeps its reals, and the places to which calls that they hold move them, in the space.
use Rattle.std.proofs.Common.{◌≡◌, ◌<◌, ℕ, Bool, true, false, cond, not, ◌&&◌, ◌==◌, nat_le, nat_lt, List, [], ◌∷◌, Option, None, Some}
use Rattle.std.proofs.Common.{refl, sym, ap, subst, ◌∙◌, arith}
use Rattle.std.specs.Ordering.{nat_cmp, eq_by_cmp}
use Rattle.std.specs.declared.cmp.Ordering.{Ordering}
use Rattle.std.specs.declared.cmp.Ordering.TheVariants.{Less, Equal, Greater}
use Rattle.std.specs.FinMap as table
use Rattle.std.proofs.lemmas.Bool.{eqb-true}
use Rattle.std.proofs.lemmas.Bool.Decides.{nat_tests}
use Rattle.seam_node_steps.specs.Prelude.{Pos, Division, IsInSpace, OrderView, next_item, TypeDef, State, Deed, Move, Method, after}
use Rattle.seam_node_steps.specs.Prelude.{part_of_deed, AreLegal, fits_deed, are_of_group, Input, Task, From, Call as CallData, GhostCopy}
use Rattle.seam_node_steps.specs.Prelude.{is_for, rank_of, order_of, RealView, WitnessView, Msg, BaseCall, Hand, Current, GhostSet}
use Rattle.seam_node_steps.specs.Prelude.{GhostDrop, Tick, Reap, Update, is_inside, stays_inside, can_do, Here, type_at, properties}
use Rattle.seam_node_steps.specs.Prelude.{all_held, order_is_ready, ready_order, may_offer, fits_cell_part, fits_real, may_execute}
use Rattle.seam_node_steps.specs.Prelude.{may_call, executed, executed_ready, with_offer, shows, Slot, NextPlace, SlotStep, unless_stray}
use Rattle.seam_node_steps.specs.Prelude.{home_after, settled_by, settled, about, slot_steps, Known, look_by, look_task, CellView, slot_of}
use Rattle.seam_node_steps.specs.Prelude.{after_slot, unlisted_by, stepped, cell_steps, cell_task, ready_next, look_next, cell_hears}
use Rattle.seam_node_steps.specs.Prelude.{Boundaries, Bounds, Stepped, IsCell, are_newer, boundaries_of, bounds_in, cell_count, cells_of}
use Rattle.seam_node_steps.specs.Prelude.{comes_late, listed_if, renewed, renewed_if, ticked}
use Rattle.seam_node_steps.specs.Prelude.{known_to, ready_entity, surveys, calls_ready, looks_around, Map, set_at}
use Rattle.seam_table.proofs.Found.{found}
use Rattle.seam_defs.specs.declared.flags.Part.TheVariants as part
use Rattle.seam_defs.specs.declared.flags.Group.TheVariants as group
use Rattle.seam_defs.specs.Tests.{same_part}
use Rattle.seam_entity.specs.declared.message.Msg.TheVariants.{Call}
use Rattle.seam_node_steps.specs.CellCases
use Rattle.seam_node_steps.specs.CellLooks
use Rattle.seam_node_steps.proofs.Slots.{get-set_at}
use Rattle.seam_node_steps.proofs.Peers.{SameFrame, cell_frame}
use Rattle.seam_node_steps.proofs.Targets.{renewed_valid}
use Rattle.seam_node_steps.proofs.ValidCells.{cell_stays_valid}
use Rattle.seam_cell_parts.specs.Kept.{IsRealInSpace, AreRealsInSpace, IsKept}
use Rattle.seam_entity.proofs.HeldLemmas.{both, item_passes_too, held_offered, held_taken, got_passes, same_value}

not_false : (a : Bool) → not a ≡ false → a ≡ true
not_false true h = refl
not_false false h = cc

below_of : (a b : ℕ) → nat_lt a b ≡ true → a < b
below_of a b t = grind (arith, nat_tests)

-- ---- where a deed leads

in_space_of : (t : Division) (p : Pos) → is_inside t.size p ≡ true → IsInSpace t p
in_space_of t p h =
    let two = both (nat_lt p.x t.size) (nat_lt p.z t.size) h in
    record { x_inside = below_of p.x t.size two.0; z_inside = below_of p.z t.size two.1 }

module _ (h : Here) (g : Boundaries) (size : g.tree.size ≡ h.settings.size) where
  abbrev t : Division
  t = g.tree

  pub inside_of : (p : Pos) → is_inside h.settings.size p ≡ true → IsInSpace t p
  inside_of p is = in_space_of t p (ap (λ n. is_inside n p) size ∙ is)

  deed_inside : (d : TypeDef) (s : State) (k : Deed) → IsInSpace t s.pos → stays_inside h.settings.size k ≡ true →
      IsInSpace t (after d s k).pos
  deed_inside d s (Move p) is stays = inside_of p stays
  deed_inside d s (Method m args) is stays = is

  -- a call that fits leads into the space
  fit_stays : (e ty : ℕ) (k : CallData) → fits_cell_part h e ty k ≡ true → stays_inside h.settings.size k.deed ≡ true
  fit_stays e ty k fits =
      let able = both (is_for part.Cell e k) (can_do h.settings.size (type_at h ty) part.Cell k.deed) fits in
      let rest = both (same_part (part_of_deed (type_at h ty) k.deed) part.Cell)
      (fits_deed (type_at h ty) k.deed && stays_inside h.settings.size k.deed) able.1 in
      (both (fits_deed (type_at h ty) k.deed) (stays_inside h.settings.size k.deed) rest.1).1

  fits_of : (r : RealView) (k : CallData) → may_call h r k ≡ true → fits_cell_part h r.entity r.ty k ≡ true
  fits_of r k may = (both (fits_cell_part h r.entity r.ty k) (may_offer (order_of r.orders k.sender) k.number && may_execute r) may).0

  -- ---- calls of a real

  pub offered_there : (r : RealView) (k : CallData) → may_call h r k ≡ true → IsRealInSpace h t r → IsRealInSpace h t (with_offer r k)
  offered_there r k may is = record {
    inside = is.inside;
    held =
        held_offered (fits_cell_part h r.entity r.ty) r.orders (rank_of k.sender) (order_of r.orders k.sender) k.number k is.held refl
        (fits_of r k may);
  }

  pub executed_there : (r : RealView) (k : CallData) → may_call h r k ≡ true → IsRealInSpace h t r → IsRealInSpace h t (executed h r k)
  executed_there r k may is =
      let offer = offered_there r k may is in
      record {
        inside = deed_inside (type_at h r.ty) r.state k.deed is.inside (fit_stays r.entity r.ty k (fits_of r k may));
        held = offer.held;
      }

  -- the ready call of an order is one that is held
  ready_fits : (r : RealView) (o : ℕ × OrderView CallData) (k : CallData) → ready_order r.orders ≡ Some o → next_item o.1 ≡ Some k →
      IsRealInSpace h t r → fits_cell_part h r.entity r.ty k ≡ true
  ready_fits r o k at next is =
      let there = found order_is_ready r.orders o at in
      let test = fits_cell_part h r.entity r.ty in
      item_passes_too test o.1.next k o.1.held (got_passes _ (same_value test) r.orders o.0 o.1 is.held there.0) next

  pub ready_there : (r : RealView) (o : ℕ × OrderView CallData) (k : CallData) → ready_order r.orders ≡ Some o → next_item o.1 ≡ Some k →
      IsRealInSpace h t r → IsRealInSpace h t (executed_ready h r o k)
  ready_there r o k at next is =
      let there = found order_is_ready r.orders o at in
      let test = fits_cell_part h r.entity r.ty in
      record {
        inside = deed_inside (type_at h r.ty) r.state k.deed is.inside (fit_stays r.entity r.ty k (ready_fits r o k at next is));
        held = held_taken test r.orders o.0 o.1 is.held (got_passes _ (same_value test) r.orders o.0 o.1 is.held there.0);
      }

  -- ---- what a step leaves

  abbrev pub IsRealThere : Option RealView → Type 0
  IsRealThere o = (r : RealView) → o ≡ Some r → IsRealInSpace h t r

  abbrev pub IsStepThere : Option Slot → Type 0
  IsStepThere None = Unit {0}
  IsStepThere (Some s) = IsRealThere s.real

  some_there : (x : RealView) → IsRealInSpace h t x → IsRealThere (Some x)
  some_there x is r e = let same : x ≡ r = cc in subst (IsRealInSpace h t) same is

  none_there : IsRealThere None
  none_there r e = cc

  unless_there : (b : Bool) (s : SlotStep) → (b ≡ false → IsStepThere s.slot) → IsStepThere (unless_stray b s).slot
  unless_there true s is = tt
  unless_there false s is = is refl

  by_there : (b : Bool) (s : Slot) (r : RealView) (changed : Bool) (j : ℕ) → IsRealInSpace h t r →
      IsStepThere (settled_by b h g s r changed j).slot
  by_there true s r changed j is = some_there _ (record { inside = is.inside; held = is.held })
  by_there false s r changed j is = none_there

  settled_there : (s : Slot) (r : RealView) (changed : Bool) → IsRealInSpace h t r → IsStepThere (settled h g s r changed).slot
  settled_there s r changed is = by_there _ s r changed (home_after h t r.state.pos) is

  call_offered : (s : Slot) (r : RealView) (k : CallData) (o : Ordering) → may_call h r k ≡ true → IsRealInSpace h t r →
      IsStepThere (CellCases.offered h g s r k o).slot
  call_offered s r k Less may is = tt
  call_offered s r k Equal may is = settled_there s (executed h r k) (shows h r k) (executed_there r k may is)
  call_offered s r k Greater may is = some_there _ (offered_there r k may is)

  call_passed : (k : CallData) (o : Option NextPlace) → IsStepThere (CellCases.call_next_place k o).slot
  call_passed k None = tt
  call_passed k (Some n) = tt

  call_there : (s : Slot) (k : CallData) (o : Option RealView) → IsRealThere o → CellCases.stray_call h k o s.next ≡ false →
      IsStepThere (CellCases.call h g s k o).slot
  call_there s k (Some r) is right =
      call_offered s r k (nat_cmp k.number (order_of r.orders k.sender).next) (not_false (may_call h r k) right) (is r refl)
  call_there s k None is right = call_passed k s.next

  hand_there : (r : RealView) (o : Option RealView) → CellCases.stray_hand h t r o ≡ false → IsRealInSpace h t r
  hand_there r None right =
      let may = both (fits_real h r) (CellCases.is_in_tree h t r && CellCases.has_small_numbers r)
      (not_false (CellCases.may_come h t r) right) in
      let values = both (nat_lt r.ty _) _ may.0 in
      let places = both (are_of_group (properties h r.ty) group.Real r.state.props) _ values.1 in
      let two = both (is_inside h.settings.size r.state.pos) (all_held (fits_cell_part h r.entity r.ty) r.orders) places.1 in
      record {
        inside = inside_of r.state.pos two.0;
        held = two.1;
      }
  hand_there r (Some q) right = cc

  set_there : (s : Slot) (beat : ℕ) (c : GhostCopy) (o : Option RealView) → IsRealThere s.real →
      IsStepThere (CellCases.ghost_set s beat c o).slot
  set_there s beat c None is = is
  set_there s beat c (Some r) is = tt

  reap_there : (s : Slot) (o : Option RealView) → IsStepThere (CellCases.reap s o).slot
  reap_there s (Some r) = none_there
  reap_there s None = tt

  case_there : (s : Slot) (m : Msg) → IsRealThere s.real → CellCases.is_stray h t s m ≡ false → IsStepThere (CellCases.case_of h g s m).slot
  case_there s (Call k) is right = call_there s k s.real is right
  case_there s (BaseCall k) is right = tt
  case_there s (Hand r o) is right = some_there r (hand_there r s.real right)
  case_there s (Current x j g) is right = tt
  case_there s (GhostSet x b c) is right = set_there s b c s.real is
  case_there s (GhostDrop x b) is right = is
  case_there s Tick is right = tt
  case_there s (Reap x) is right = reap_there s s.real
  case_there s (Update u) is right = tt
  case_there s (Bounds b) is right = tt

  slot_there : (s : Slot) (m : Msg) → IsRealThere s.real → IsStepThere (slot_steps h g s m).slot
  slot_there s m is = unless_there (CellCases.is_stray h t s m) (CellCases.case_of h g s m) (case_there s m is)

  survey_there : (s : Slot) (o : Option RealView) → IsRealThere o → IsStepThere (CellCases.survey_task h g s o).slot
  survey_there s (Some r) is = settled_there s r false (is r refl)
  survey_there s None is = tt

  executes_there : (s : Slot) (r : RealView) (o : ℕ × OrderView CallData) (k : Option CallData) → ready_order r.orders ≡ Some o →
      next_item o.1 ≡ k → IsRealInSpace h t r → IsStepThere (CellCases.executes_ready h g s r o k).slot
  executes_there s r o (Some k) at next is = settled_there s (executed_ready h r o k) (shows h r k) (ready_there r o k at next is)
  executes_there s r o None at next is = tt

  ready_in_there : (s : Slot) (r : RealView) (o : Option (ℕ × OrderView CallData)) → ready_order r.orders ≡ o → IsRealInSpace h t r →
      IsStepThere (CellCases.ready_in h g s r o).slot
  ready_in_there s r (Some o) at is = executes_there s r o (next_item o.1) at refl is
  ready_in_there s r None at is = tt

  ready_task_there : (s : Slot) (o : Option RealView) → IsRealThere o → IsStepThere (CellCases.ready_call_task h g s o).slot
  ready_task_there s (Some r) is = ready_in_there s r (ready_order r.orders) refl (is r refl)
  ready_task_there s None is = tt

  look_by_there : (s : Slot) (r : RealView) (o : Option WitnessView) (known : List Known) → IsRealInSpace h t r →
      IsStepThere (look_by h s r o known).slot
  look_by_there s r (Some w) known is = some_there _ (record { inside = is.inside; held = is.held })
  look_by_there s r None known is = tt

  look_there : (s : Slot) (o : Option RealView) (known : List Known) → IsRealThere o → IsStepThere (look_task h s o known).slot
  look_there s (Some r) known is = look_by_there s r r.witness known (is r refl)
  look_there s None known is = tt

  -- ---- the reals of a cell

  either_there : (b : Bool) (o p : Option RealView) → IsRealThere o → IsRealThere p → IsRealThere (cond b o p)
  either_there true o p is also = is
  either_there false o p is also = also

  pub set_at_there : (m : Map RealView) (e : ℕ) (o : Option RealView) → AreRealsInSpace h t m → IsRealThere o →
      AreRealsInSpace h t (set_at m e o)
  set_at_there m e o are is q r at =
      either_there (eq_by_cmp nat_cmp q e) o (table.get m q) is (are q) r (sym (get-set_at m e q o) ∙ at)

-- ---- the cell

module _ (c : CellView) (size : c.tree.size ≡ c.here.settings.size) where
  after_there : (e : ℕ) (b : Bool) (o : Option Slot) → AreRealsInSpace c.here c.tree c.reals → IsStepThere c.here (boundaries_of c) size o →
      AreRealsInSpace c.here c.tree (unlisted_by b (after_slot c e o) e).reals
  after_there e true None are is = are
  after_there e false None are is = are
  after_there e true (Some s) are is = set_at_there c.here (boundaries_of c) size c.reals e s.real are is
  after_there e false (Some s) are is = set_at_there c.here (boundaries_of c) size c.reals e s.real are is

  step_there : (e : ℕ) (s : SlotStep) → AreRealsInSpace c.here c.tree c.reals → IsStepThere c.here (boundaries_of c) size s.slot →
      AreRealsInSpace c.here c.tree (stepped c e s).state.reals
  step_there e s are is = after_there e s.unlisted s.slot are is

module _ (c : CellView) (size : c.tree.size ≡ c.here.settings.size) (are : AreRealsInSpace c.here c.tree c.reals) where
  looks_there : (es : List ℕ) → AreRealsInSpace c.here c.tree (look_next c es).state.reals
  looks_there [] = are
  looks_there (e ∷ es) = step_there (record c { looks = es }) size e (looks_around c e (table.get c.reals e) (known_to c e)) are
      (unless_there c.here (boundaries_of c) size (CellLooks.stray_look c.here (table.get c.reals e) (known_to c e))
      (look_task c.here (slot_of c e) (table.get c.reals e) (known_to c e))
      (λ right. look_there c.here (boundaries_of c) size (slot_of c e) (table.get c.reals e) (known_to c e) (are e)))

  readies_there : (o : Option ℕ) → AreRealsInSpace c.here c.tree (ready_next c o).state.reals
  readies_there (Some e) = step_there c size e (calls_ready c e (table.get c.reals e)) are
      (unless_there c.here (boundaries_of c) size (CellCases.stray_ready_call (table.get c.reals e))
      (CellCases.ready_call_task c.here (boundaries_of c) (slot_of c e) (table.get c.reals e))
      (λ right. ready_task_there c.here (boundaries_of c) size (slot_of c e) (table.get c.reals e) (are e)))
  readies_there None = looks_there c.looks

  task_there : (es : List ℕ) → AreRealsInSpace c.here c.tree (cell_task c es).state.reals
  task_there (e ∷ es) = step_there (record c { survey = es }) size e (surveys c e (table.get c.reals e)) are
      (unless_there c.here (boundaries_of c) size (CellCases.stray_survey (table.get c.reals e))
      (CellCases.survey_task c.here (boundaries_of c) (slot_of c e) (table.get c.reals e))
      (λ right. survey_there c.here (boundaries_of c) size (slot_of c e) (table.get c.reals e) (are e)))
  task_there [] = readies_there (ready_entity c)

  listed_there : (d : Bool) (e : ℕ) (t : Stepped CellView Msg) → AreRealsInSpace c.here c.tree t.state.reals →
      AreRealsInSpace c.here c.tree (listed_if d e t).state.reals
  listed_there true e t is = is
  listed_there false e t is = is

  ticked_there : (m : Msg) → AreRealsInSpace c.here c.tree (ticked c m).reals
  ticked_there Tick = are
  ticked_there _ = are

  hears_there : (m : Msg) (o : Option ℕ) → AreRealsInSpace c.here c.tree (cell_hears c m o).state.reals
  hears_there m (Some e) =
      let b = boundaries_of c in
      let s = slot_steps c.here b (slot_of c e) m in
      listed_there (comes_late c m) e (stepped c e s) (step_there c size e s are (slot_there c.here b size (slot_of c e) m (are e)))
  hears_there m None = ticked_there m

-- ---- what a cell keeps

space_of_size : (t u : Division) (p : Pos) → t.size ≡ u.size → IsInSpace t p → IsInSpace u p
space_of_size t u p same is = record { x_inside = subst (λ n. p.x < n) same is.x_inside; z_inside = subst (λ n. p.z < n) same is.z_inside }

-- reals stay in the space where another tree has its size
pub other_tree : (h : Here) (t u : Division) (m : Map RealView) → t.size ≡ u.size → AreRealsInSpace h t m → AreRealsInSpace h u m
other_tree h t u m same are e r at =
    let old = are e r at in
    record { inside = space_of_size t u r.state.pos same old.inside; held = old.held }

newer_kept : (d : Bool) (c : CellView) (b : Boundaries) → are_newer c b ≡ d → IsKept c → IsCell (renewed_if d c b) → IsKept
    (renewed_if d c b)
newer_kept true c b newer is cell =
    let fits = (both (nat_lt c.number b.number) (b.tree.size == c.here.settings.size && nat_le (cells_of b.tree) cell_count) newer).1 in
    let size = eqb-true b.tree.size c.here.settings.size
    (both (b.tree.size == c.here.settings.size) (nat_le (cells_of b.tree) cell_count) fits).0 in
    record { cell = cell; legal = is.legal; size = size; there = other_tree c.here c.tree b.tree c.reals (is.size ∙ sym size) is.there }
newer_kept false c b newer is cell = is

-- so it does where boundaries come
pub renewed_kept : (c : CellView) (o : Option Boundaries) → IsKept c → IsKept (renewed c o)
renewed_kept c None is = is
renewed_kept c (Some b) is = newer_kept (are_newer c b) c b refl is (renewed_valid c (Some b) is.cell)

framed_kept : (c d : CellView) → SameFrame c d → IsKept c → IsCell d → AreRealsInSpace c.here c.tree d.reals → IsKept d
framed_kept c d frame is cell there = record {
  cell = cell;
  legal = subst (λ h. AreLegal h.settings) (sym frame.here) is.legal;
  size = ap (λ t. t.size) frame.tree ∙ (is.size ∙ ap (λ h. h.settings.size) (sym frame.here));
  there =
      λ e r at. subst (λ h. IsRealInSpace h d.tree r) (sym frame.here)
      (subst (λ t. IsRealInSpace c.here t r) (sym frame.tree) (there e r at));
}

-- what a cell keeps, it keeps in every step
pub step_kept : (c : CellView) (i : Input Msg) → IsKept c → IsKept (cell_steps c i).state
step_kept c Task is =
    framed_kept c (cell_steps c Task).state (cell_frame c Task) is (cell_stays_valid c Task is.cell)
    (task_there c is.size is.there c.survey)
step_kept c (From a m) is =
    let d = renewed c (bounds_in m) in
    let kept = renewed_kept c (bounds_in m) is in
    framed_kept d (cell_steps c (From a m)).state (cell_frame c (From a m)) kept (cell_stays_valid c (From a m) is.cell)
    (hears_there d kept.size kept.there m (about m))
