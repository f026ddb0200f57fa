-- What a step of one entity's slot sends is about that entity.
use Rattle.seam_law_calls.proofs.Prelude.{◌≡◌, ℕ, ◌+◌, Bool, true, false, ◌==◌, ◌||◌, List, [], ◌∷◌, map, Option, None, Some, refl, ap}
use Rattle.seam_law_calls.proofs.Prelude.{filter_map, cons_option, nat_cmp, Ordering, Less, Equal, Greater, Division, Cells, OrderView}
use Rattle.seam_law_calls.proofs.Prelude.{next_item, Call as CallData, GhostCopy, Shown, order_of, RealView, WitnessView, Msg, Hand}
use Rattle.seam_law_calls.proofs.Prelude.{GhostSet, GhostDrop, Reap, Here, cell_numbers, base_numbers, base_of, ready_order, executed}
use Rattle.seam_law_calls.proofs.Prelude.{executed_ready, copy_of_real, settled_to, Slot, NextPlace, SlotStep, home_after, haunts_at}
use Rattle.seam_law_calls.proofs.Prelude.{told_unless, ghost_message, ghost_messages, settled_by, settled, stays, goes, about, slot_steps}
use Rattle.seam_law_calls.proofs.Prelude.{is_stray, Known, numbered, look_by, look_task, all_append, case_of}
use Rattle.std.specs.FinSet as set
use Rattle.seam_node_steps.specs.Prelude.{shows}
use Rattle.seam_node_steps.specs.Prelude.{unless_stray, told}
use Rattle.seam_entity.specs.declared.message.Msg.TheVariants.{Call}
use Rattle.seam_node_steps.specs.CellCases
use Rattle.seam_law_calls.proofs.Lists.{AllAbout}
use Rattle.seam_node_steps.specs.Prelude.{Boundaries, brought}

abbrev IsAbout : ℕ → Option (ℕ × Msg) → Type 0
IsAbout e None = Unit {0}
IsAbout e (Some p) = about p.1 ≡ Some e

cons_about : (e : ℕ) (o : Option (ℕ × Msg)) (ps : List (ℕ × Msg)) → IsAbout e o → AllAbout e ps → AllAbout e (cons_option o ps)
cons_about e None ps h k = k
cons_about e (Some p) ps h k = (h, k)

chosen_about : (e : ℕ) (g : ℕ → Option (ℕ × Msg)) → ((k : ℕ) → IsAbout e (g k)) → (ks : List ℕ) → AllAbout e (filter_map g ks)
chosen_about e g h [] = tt
chosen_about e g h (k ∷ ks) = cons_about e (g k) (filter_map g ks) (h k) (chosen_about e g h ks)

module _ (e : ℕ) where
  own : (r : RealView) → r.entity ≡ e → Some r.entity ≡ Some e
  own r is = ap Some is

  told_about : (k : ℕ) (r : RealView) (beat : ℕ) (c : GhostCopy) (now was changed : Bool) → r.entity ≡ e →
      IsAbout e (told_unless false k (told r.entity beat c now was changed))
  told_about k r beat c true false changed is = own r is
  told_about k r beat c true true true is = own r is
  told_about k r beat c true true false is = tt
  told_about k r beat c false true changed is = own r is
  told_about k r beat c false false changed is = tt

  ghost_about : (b : Bool) (k : ℕ) (r : RealView) (beat : ℕ) (c : GhostCopy) (now was changed : Bool) → r.entity ≡ e →
      IsAbout e (told_unless b k (told r.entity beat c now was changed))
  ghost_about true k r beat c now was changed is = tt
  ghost_about false k r beat c now was changed is = told_about k r beat c now was changed is

  pub ghosts_about : (h : Here) (r : RealView) (j : ℕ) (haunts : Cells) (changed : Bool) → r.entity ≡ e →
      AllAbout e (ghost_messages h r j haunts changed)
  ghosts_about h r j haunts changed is =
      chosen_about e (ghost_message h r j haunts changed)
      (λ k. ghost_about ((k == h.me) || (k == j)) k r (r.beat + 1) (copy_of_real h r) (set.contains haunts k) (set.contains r.haunts k)
      changed is)
      cell_numbers

  pub stays_about : (h : Here) (t : Division) (s : Slot) (r : RealView) (changed : Bool) → r.entity ≡ e →
      AllAbout e (stays h t s r changed).sent
  stays_about h t s r changed is = ghosts_about h r h.me (haunts_at h t r.state.pos h.me r.haunts) changed is

  pub goes_about : (h : Here) (t : Boundaries) (s : Slot) (r : RealView) (changed : Bool) (j : ℕ) → r.entity ≡ e →
      AllAbout e (goes h t s r changed j).sent
  goes_about h t s r changed j is =
      let haunts = haunts_at h t.tree r.state.pos j (set.insert r.haunts h.me) in
      all_append (λ p. about p.1 ≡ Some e) (ghost_messages h r j haunts changed)
      ((j, Hand (settled_to r haunts (r.beat + 1) (r.generation + 1)) (brought t)) ∷ []) (ghosts_about h r j haunts changed is)
      (own r is, tt)

  module _ (h : Here) (t : Boundaries) (s : Slot) where
    settled_about_by : (b : Bool) (r : RealView) (changed : Bool) (j : ℕ) → r.entity ≡ e → AllAbout e (settled_by b h t s r changed j).sent
    settled_about_by true r changed j is = stays_about h t.tree s r changed is
    settled_about_by false r changed j is = goes_about h t s r changed j is

    pub settled_about : (r : RealView) (changed : Bool) → r.entity ≡ e → AllAbout e (settled h t s r changed).sent
    settled_about r changed is = settled_about_by (home_after h t.tree r.state.pos == h.me) r changed (home_after h t.tree r.state.pos) is

    unless_about : (b : Bool) (x : SlotStep) → AllAbout e x.sent → AllAbout e (unless_stray b x).sent
    unless_about true x a = tt
    unless_about false x a = a

    offered_about : (r : RealView) (c : CallData) (o : Ordering) → r.entity ≡ e → AllAbout e (CellCases.offered h t s r c o).sent
    offered_about r c Less is = tt
    offered_about r c Equal is = settled_about (executed h r c) (shows h r c) is
    offered_about r c Greater is = tt

    passed_about : (c : CallData) (o : Option NextPlace) → c.entity ≡ e → AllAbout e (CellCases.call_next_place c o).sent
    passed_about c None is = tt
    passed_about c (Some n) is = (ap Some is, tt)

    call_about : (c : CallData) (o : Option RealView) → c.entity ≡ e → ((r : RealView) → o ≡ Some r → r.entity ≡ e) →
        AllAbout e (CellCases.call h t s c o).sent
    call_about c (Some r) is keys = offered_about r c (nat_cmp c.number (order_of r.orders c.sender).next) (keys r refl)
    call_about c None is keys = passed_about c s.next is

    currents_about : (r : RealView) (ks : List ℕ) → r.entity ≡ e → AllAbout e (map (CellCases.current_to h r) ks)
    currents_about r [] is = tt
    currents_about r (k ∷ ks) is = (own r is, currents_about r ks is)

    set_about : (beat : ℕ) (c : GhostCopy) (o : Option RealView) → AllAbout e (CellCases.ghost_set s beat c o).sent
    set_about beat c None = tt
    set_about beat c (Some r) = tt

    drop_about : (b : Bool) (k : ℕ) (r : RealView) → r.entity ≡ e → IsAbout e (CellCases.drop_if b k (GhostDrop r.entity (r.beat + 1)))
    drop_about true k r is = own r is
    drop_about false k r is = tt

    reap_about : (o : Option RealView) → ((r : RealView) → o ≡ Some r → r.entity ≡ e) → AllAbout e (CellCases.reap s o).sent
    reap_about (Some r) keys =
        chosen_about e (CellCases.drop_at r) (λ k. drop_about (set.contains r.haunts k) k r (keys r refl)) cell_numbers
    reap_about None keys = tt

    inside : (x y : ℕ) → Some x ≡ Some y → x ≡ y
    inside x y is = cc

    case_about : (m : Msg) → about m ≡ Some e → ((r : RealView) → s.real ≡ Some r → r.entity ≡ e) → AllAbout e (case_of h t s m).sent
    case_about (Call c) is keys = call_about c s.real (inside c.entity e is) keys
    case_about (Hand r bs) is keys = currents_about r (base_numbers h) (inside r.entity e is)
    case_about (GhostSet x beat c) is keys = set_about beat c s.real
    case_about (Reap x) is keys = reap_about s.real keys
    case_about _ is keys = tt

    -- what a message about an entity makes its slot send
    pub slot_about : (m : Msg) → about m ≡ Some e → ((r : RealView) → s.real ≡ Some r → r.entity ≡ e) → AllAbout e (slot_steps h t s m).sent
    slot_about m is keys = unless_about (is_stray h t.tree s m) (case_of h t s m) (case_about m is keys)

    survey_about : (o : Option RealView) → ((r : RealView) → o ≡ Some r → r.entity ≡ e) → AllAbout e (CellCases.survey_task h t s o).sent
    survey_about (Some r) keys = settled_about r false (keys r refl)
    survey_about None keys = tt

    pub surveys_about : (b : Bool) (o : Option RealView) → ((r : RealView) → o ≡ Some r → r.entity ≡ e) →
        AllAbout e (unless_stray b (CellCases.survey_task h t s o)).sent
    surveys_about b o keys = unless_about b (CellCases.survey_task h t s o) (survey_about o keys)

    executes_about : (r : RealView) (o : ℕ × OrderView CallData) (c : Option CallData) → r.entity ≡ e →
        AllAbout e (CellCases.executes_ready h t s r o c).sent
    executes_about r o (Some c) is = settled_about (executed_ready h r o c) (shows h r c) is
    executes_about r o None is = tt

    ready_in_about : (r : RealView) (o : Option (ℕ × OrderView CallData)) → r.entity ≡ e → AllAbout e (CellCases.ready_in h t s r o).sent
    ready_in_about r (Some o) is = executes_about r o (next_item o.1) is
    ready_in_about r None is = tt

    ready_about : (o : Option RealView) → ((r : RealView) → o ≡ Some r → r.entity ≡ e) → AllAbout e (CellCases.ready_call_task h t s o).sent
    ready_about (Some r) keys = ready_in_about r (ready_order r.orders) (keys r refl)
    ready_about None keys = tt

    pub readies_about : (b : Bool) (o : Option RealView) → ((r : RealView) → o ≡ Some r → r.entity ≡ e) →
        AllAbout e (unless_stray b (CellCases.ready_call_task h t s o)).sent
    readies_about b o keys = unless_about b (CellCases.ready_call_task h t s o) (ready_about o keys)

    numbered_about : (b n : ℕ) (ss : List Shown) (x : ℕ) → x ≡ e → AllAbout e (numbered b x n ss)
    numbered_about b n [] x is = tt
    numbered_about b n (y ∷ ss) x is = (ap Some is, numbered_about b (n + 1) ss x is)

    look_by_about : (r : RealView) (o : Option WitnessView) (known : List Known) → r.entity ≡ e → AllAbout e (look_by h s r o known).sent
    look_by_about r (Some w) known is = numbered_about (base_of h r.entity) w.sent _ r.entity is
    look_by_about r None known is = tt

    look_about : (o : Option RealView) (known : List Known) → ((r : RealView) → o ≡ Some r → r.entity ≡ e) →
        AllAbout e (look_task h s o known).sent
    look_about (Some r) known keys = look_by_about r r.witness known (keys r refl)
    look_about None known keys = tt

    pub looks_about : (b : Bool) (o : Option RealView) (known : List Known) → ((r : RealView) → o ≡ Some r → r.entity ≡ e) →
        AllAbout e (unless_stray b (look_task h s o known)).sent
    looks_about b o known keys = unless_about b (look_task h s o known) (look_about o known keys)
