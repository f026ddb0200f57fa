-- A step of one entity's slot names no other entities than those that there are.
use Rattle.seam_law_bounds.proofs.Prelude.{◌≡◌, ℕ, ◌+◌, Bool, true, false, cond, ◌||◌, ◌==◌, eqb, List, [], ◌∷◌, map, Option, None, Some}
use Rattle.seam_law_bounds.proofs.Prelude.{refl, sym, ap, ◌∙◌, subst, filter_map, nat_lt, AllByRecursion, cons_option, keys_of, nat_cmp}
use Rattle.seam_law_bounds.proofs.Prelude.{Ordering, Less, Equal, Greater, eqb-true, Cells, Ghost, copy_in, beat_in, OrderView}
use Rattle.seam_law_bounds.proofs.Prelude.{next_item, Call as CallData, GhostCopy, Shown, order_of, RealView, WitnessView, Msg, Hand}
use Rattle.seam_law_bounds.proofs.Prelude.{GhostSet, GhostDrop, Reap, Here, cell_numbers, base_numbers, base_of, ready_order, copy_of_real}
use Rattle.seam_law_bounds.proofs.Prelude.{executed, executed_ready, shows, settled_to, Slot, NextPlace, SlotStep, rests, slot_after, heard}
use Rattle.seam_law_bounds.proofs.Prelude.{told, told_unless, ghost_message, ghost_messages, haunts_at, home_after, stays, settled_by}
use Rattle.seam_law_bounds.proofs.Prelude.{settled, about, call_next_place, current_to, hand_over_comes, ghost_set, ghost_drop, drop_if}
use Rattle.seam_law_bounds.proofs.Prelude.{drop_at, reap, survey_task, executes_ready, ready_in, ready_call_task, is_stray, slot_steps}
use Rattle.seam_law_bounds.proofs.Prelude.{Known, seen_as, numbered, shown_of, looks_of, looks_with, look_by, look_task, is_among, AllAmong}
use Rattle.seam_law_bounds.proofs.Prelude.{all_append, Seen, Look, Leave, Set as LookSet, Enter, Replica, IsView, seen_of, placed, without}
use Rattle.seam_law_bounds.proofs.Prelude.{after_showing, after_look, after_looks, view_after_looks, offered, call}
use Rattle.std.specs.FinSet as set
use Rattle.seam_node_steps.specs.Prelude.{unless_stray}
use Rattle.seam_node_steps.specs.Prelude.{goes}
use Rattle.seam_entity.specs.declared.message.Msg.TheVariants.{Call}
use Rattle.seam_node_steps.specs.CellCases.{case_of}
use Rattle.seam_node_steps.specs.Prelude.{Boundaries}

-- ---- lists

pub all_chosen : {X Y : Type 0} (P : Y → Type 0) (f : X → Option Y) (xs : List X) → ((x : X) (y : Y) → f x ≡ Some y → P y) →
    AllByRecursion P (filter_map f xs)
all_chosen P f [] each = tt
all_chosen P f (x ∷ xs) each = by (f x) refl (all_chosen P f xs each)
  where
    by : (o : Option _) → f x ≡ o → AllByRecursion P (filter_map f xs) → AllByRecursion P (cons_option o (filter_map f xs))
    by None at rest = rest
    by (Some y) at rest = (each x y at, rest)

pub all_mapped : {X Y : Type 0} (P : Y → Type 0) (f : X → Y) (xs : List X) → ((x : X) → P (f x)) → AllByRecursion P (map f xs)
all_mapped P f [] each = tt
all_mapped P f (x ∷ xs) each = (each x, all_mapped P f xs each)

module _ (us ws : List ℕ) where
  abbrev pub IsNamed : ℕ → Type 0
  IsNamed e = is_among us e ≡ true

  -- a witness's view names no other entities, and none twice, and the witness is one of those that there are
  pub record WitnessOk (e : ℕ) (x : WitnessView) : Type 0 where
    pub view : IsView x.view
    pub names : AllAmong us (keys_of x.view.entries)
    pub among : is_among ws e ≡ true

  pub record RealOk (e : ℕ) (r : RealView) : Type 0 where
    pub named : IsNamed e
    pub witness : (x : WitnessView) → r.witness ≡ Some x → WitnessOk e x

  pub record SlotOk (e : ℕ) (s : Slot) : Type 0 where
    pub real : (r : RealView) → s.real ≡ Some r → RealOk e r
    pub copy : (c : GhostCopy) → copy_in s.ghost ≡ Some c → IsNamed e

  abbrev pub LetterOk : Msg → Type 0
  LetterOk (Hand r bs) = RealOk r.entity r
  LetterOk (GhostSet e n c) = IsNamed e
  LetterOk _ = Unit {0}

  abbrev pub SentOk : List (ℕ × Msg) → Type 0
  SentOk ps = AllByRecursion (λ p. LetterOk p.1) ps

  -- a step of the slot leaves and sends such
  pub record StepOk (e : ℕ) (s : Slot) (t : SlotStep) : Type 0 where
    pub slot : SlotOk e (slot_after t.slot s)
    pub sent : SentOk t.sent

  module _ (e : ℕ) where
    pub rests_ok : (s : Slot) → SlotOk e s → StepOk e s rests
    rests_ok s h = record { slot = h; sent = tt }

    pub unless_ok : (b : Bool) (s : Slot) (t : SlotStep) → SlotOk e s → StepOk e s t → StepOk e s (unless_stray b t)
    unless_ok true s t h k = rests_ok s h
    unless_ok false s t h k = k

    -- a slot of an entity that there is
    named_ok : IsNamed e → (s : Slot) → ((r : RealView) → s.real ≡ Some r → RealOk e r) → SlotOk e s
    named_ok named s real = record { real = real; copy = λ c at. named }

    this_real : (q : RealView) → RealOk e q → (r : RealView) → Some q ≡ Some r → RealOk e r
    this_real q h r is = let same : q ≡ r = cc in subst (RealOk e) same h

    no_real : (r : RealView) → None ≡ Some r → RealOk e r
    no_real r is = cc

    -- the same but for what names nothing
    alike : (r q : RealView) → q.witness ≡ r.witness → RealOk e r → RealOk e q
    alike r q same h = record { named = h.named; witness = λ x is. h.witness x (sym same ∙ is) }

    -- ---- a settle, of a real that is kept under its entity's number

    module _ (h : Here) (t : Boundaries) (s : Slot) (r : RealView) (own : r.entity ≡ e) (ok : RealOk e r) where
      own_named : IsNamed r.entity
      own_named = subst IsNamed (sym own) ok.named

      told_ok : (k : ℕ) (now old changed : Bool) (m : Msg) → told r.entity (r.beat + 1) (copy_of_real h r) now old changed ≡ Some m →
          LetterOk m
      told_ok k true false changed m is =
          let same : GhostSet r.entity (r.beat + 1) (copy_of_real h r) ≡ m = cc in
          subst LetterOk same own_named
      told_ok k true true true m is =
          let same : GhostSet r.entity (r.beat + 1) (copy_of_real h r) ≡ m = cc in
          subst LetterOk same own_named
      told_ok k true true false m is = cc
      told_ok k false true changed m is = let same : GhostDrop r.entity (r.beat + 1) ≡ m = cc in subst LetterOk same tt
      told_ok k false false changed m is = cc

      unless_told : (b : Bool) (k : ℕ) (o : Option Msg) (p : ℕ × Msg) → ((m : Msg) → o ≡ Some m → LetterOk m) →
          told_unless b k o ≡ Some p → LetterOk p.1
      unless_told true k o p each is = cc
      unless_told false k None p each is = cc
      unless_told false k (Some m) p each is = let same : m ≡ p.1 = cc in subst LetterOk same (each m refl)

      ghosts_ok : (j : ℕ) (haunts : Cells) (changed : Bool) → SentOk (ghost_messages h r j haunts changed)
      ghosts_ok j haunts changed =
          all_chosen (λ p. LetterOk p.1) (ghost_message h r j haunts changed) cell_numbers (λ k p is.
          unless_told ((k == h.me) || (k == j)) k _ p
          (λ m at. told_ok k (set.contains haunts k) (set.contains r.haunts k) changed m at) is)

      stays_ok : (changed : Bool) → StepOk e s (stays h t.tree s r changed)
      stays_ok changed = record {
        slot = named_ok ok.named _ (λ q is. this_real _ (alike r _ refl ok) q is);
        sent = ghosts_ok h.me (haunts_at h t.tree r.state.pos h.me r.haunts) changed;
      }

      goes_ok : (changed : Bool) (j : ℕ) → StepOk e s (goes h t s r changed j)
      goes_ok changed j =
          let haunts = haunts_at h t.tree r.state.pos j (set.insert r.haunts h.me) in
          record {
            slot = named_ok ok.named _ (λ q is. no_real q is);
            sent =
                all_append (λ p. LetterOk p.1) (ghost_messages h r j haunts changed) _ (ghosts_ok j haunts changed)
                (subst (λ x. RealOk x (settled_to r haunts (r.beat + 1) (r.generation + 1))) (sym own) (alike r _ refl ok), tt);
          }

      settled_ok_by : (b : Bool) (changed : Bool) (j : ℕ) → StepOk e s (settled_by b h t s r changed j)
      settled_ok_by true changed j = stays_ok changed
      settled_ok_by false changed j = goes_ok changed j

      pub settled_ok : (changed : Bool) → StepOk e s (settled h t s r changed)
      settled_ok changed = settled_ok_by (home_after h t.tree r.state.pos == h.me) changed (home_after h t.tree r.state.pos)

    -- ---- messages

    abbrev pub IsOwn : Option RealView → Type 0
    IsOwn o = (r : RealView) → o ≡ Some r → r.entity ≡ e

    module _ (h : Here) (t : Boundaries) (s : Slot) (ok : SlotOk e s) where
      offered_ok : (r : RealView) (k : CallData) (o : Ordering) → s.real ≡ Some r → r.entity ≡ e → StepOk e s (offered h t s r k o)
      offered_ok r k Less is own = rests_ok s ok
      offered_ok r k Equal is own = settled_ok h t s (executed h r k) own (alike r _ refl (ok.real r is)) (shows h r k)
      offered_ok r k Greater is own = record {
        slot = named_ok (ok.real r is).named _ (λ q at. this_real _ (alike r _ refl (ok.real r is)) q at);
        sent = tt;
      }

      passed_ok : (k : CallData) (n : Option NextPlace) → StepOk e s (call_next_place k n)
      passed_ok k None = rests_ok s ok
      passed_ok k (Some n) = record { slot = ok; sent = (tt, tt) }

      call_ok : (k : CallData) (o : Option RealView) → s.real ≡ o → IsOwn o → StepOk e s (call h t s k o)
      call_ok k (Some r) is own = offered_ok r k (nat_cmp k.number (order_of r.orders k.sender).next) is (own r refl)
      call_ok k None is own = passed_ok k s.next

      hand_ok : (r : RealView) → RealOk e r → StepOk e s (hand_over_comes h s r)
      hand_ok r its = record {
        slot = named_ok its.named _ (λ q is. this_real r its q is);
        sent = all_mapped (λ p. LetterOk p.1) (current_to h r) (base_numbers h) (λ b. tt);
      }

      set_ok : (beat : ℕ) (c : GhostCopy) (o : Option RealView) → IsNamed e → StepOk e s (ghost_set s beat c o)
      set_ok beat c None named = record { slot = named_ok named _ (λ q is. ok.real q is); sent = tt }
      set_ok beat c (Some r) named = rests_ok s ok

      kept_copy : (b : Bool) (g : Ghost GhostCopy) (o : Option (Ghost GhostCopy)) (c : GhostCopy) → g.copy ≡ None →
          copy_in (cond b (Some g) o) ≡ Some c → copy_in o ≡ Some c
      kept_copy true g o c none is = absurd (let z = sym none ∙ is in cc)
      kept_copy false g o c none is = is

      dropped_ok : (x : Slot) (beat : ℕ) → ((r : RealView) → x.real ≡ Some r → RealOk e r) → x.ghost ≡ s.ghost →
          SlotOk e (heard x beat None)
      dropped_ok x beat real same = record {
        real = λ r is. real r is;
        copy = λ c is.
            let was = kept_copy (nat_lt (beat_in x.ghost) beat) (record { beat = beat; copy = None }) x.ghost c refl is in
            ok.copy c (ap copy_in (sym same) ∙ was);
      }

      drop_ok : (beat : ℕ) → StepOk e s (ghost_drop s beat)
      drop_ok beat = record { slot = dropped_ok s beat ok.real refl; sent = tt }

      drop_letter : (b : Bool) (k : ℕ) (x n : ℕ) (p : ℕ × Msg) → drop_if b k (GhostDrop x n) ≡ Some p → LetterOk p.1
      drop_letter true k x n p is = let same : GhostDrop x n ≡ p.1 = cc in subst LetterOk same tt
      drop_letter false k x n p is = cc

      reap_ok : (o : Option RealView) → StepOk e s (reap s o)
      reap_ok None = rests_ok s ok
      reap_ok (Some r) = record {
        slot = dropped_ok (record s { real = None }) (r.beat + 1) (λ q is. no_real q is) refl;
        sent =
            all_chosen (λ p. LetterOk p.1) (drop_at r) cell_numbers
            (λ k p is. drop_letter (set.contains r.haunts k) k r.entity (r.beat + 1) p is);
      }

      case_ok : (m : Msg) → about m ≡ Some e → LetterOk m → IsOwn s.real → StepOk e s (case_of h t s m)
      case_ok (Call k) is letter own = call_ok k s.real refl own
      case_ok (Hand r bs) is letter own = let same : r.entity ≡ e = cc in hand_ok r (subst (λ x. RealOk x r) same letter)
      case_ok (GhostSet x n c) is letter own = let same : x ≡ e = cc in set_ok n c s.real (subst IsNamed same letter)
      case_ok (GhostDrop x n) is letter own = drop_ok n
      case_ok (Reap x) is letter own = reap_ok s.real
      case_ok _ is letter own = rests_ok s ok

      pub message_ok : (m : Msg) → about m ≡ Some e → LetterOk m → IsOwn s.real → StepOk e s (slot_steps h t s m)
      message_ok m is letter own = unless_ok (is_stray h t.tree s m) s (case_of h t s m) ok (case_ok m is letter own)

      -- ---- tasks

      pub survey_ok : (o : Option RealView) → s.real ≡ o → IsOwn o → StepOk e s (survey_task h t s o)
      survey_ok None is own = rests_ok s ok
      survey_ok (Some r) is own = settled_ok h t s r (own r refl) (ok.real r is) false

      executes_ok : (r : RealView) (o : ℕ × OrderView CallData) (k : Option CallData) → s.real ≡ Some r → r.entity ≡ e →
          StepOk e s (executes_ready h t s r o k)
      executes_ok r o None is own = rests_ok s ok
      executes_ok r o (Some k) is own = settled_ok h t s (executed_ready h r o k) own (alike r _ refl (ok.real r is)) (shows h r k)

      ready_ok_by : (r : RealView) (o : Option (ℕ × OrderView CallData)) → s.real ≡ Some r → r.entity ≡ e → StepOk e s (ready_in h t s r o)
      ready_ok_by r None is own = rests_ok s ok
      ready_ok_by r (Some o) is own = executes_ok r o (next_item o.1) is own

      pub ready_ok : (o : Option RealView) → s.real ≡ o → IsOwn o → StepOk e s (ready_call_task h t s o)
      ready_ok None is own = rests_ok s ok
      ready_ok (Some r) is own = ready_ok_by r (ready_order r.orders) is (own r refl)

  -- ---- looks

  seen_named : (e : ℕ) (known : List Seen) (s : Seen) → AllByRecursion (λ x. IsNamed x.entity) known → seen_of e known ≡ Some s → IsNamed e
  seen_named e [] s all is = cc
  seen_named e (x ∷ xs) s all is = by (eqb x.entity e) refl (λ at. seen_named e xs s all.1 at) is
    where
      by : (b : Bool) → eqb x.entity e ≡ b → (seen_of e xs ≡ Some s → IsNamed e) → cond b (Some x) (seen_of e xs) ≡ Some s → IsNamed e
      by true at rest is = subst IsNamed (eqb-true x.entity e at) all.0
      by false at rest is = rest is

  placed_named : (e v : ℕ) (es : List (ℕ × ℕ)) → IsNamed e → AllAmong us (keys_of es) → AllAmong us (keys_of (placed e v es))
  placed_named e v [] named all = (named, tt)
  placed_named e v (p ∷ ps) named all = by (eqb e p.0) (placed_named e v ps named all.1)
    where
      by : (b : Bool) → AllAmong us (keys_of (placed e v ps)) → AllAmong us (keys_of (cond b ((p.0, v) ∷ ps) (p ∷ placed e v ps)))
      by true rest = (all.0, all.1)
      by false rest = (all.0, rest)

  without_named : (e : ℕ) (es : List (ℕ × ℕ)) → AllAmong us (keys_of es) → AllAmong us (keys_of (without e es))
  without_named e [] all = tt
  without_named e (p ∷ ps) all = by (eqb e p.0) (without_named e ps all.1)
    where
      by : (b : Bool) → AllAmong us (keys_of (without e ps)) → AllAmong us (keys_of (cond b ps (p ∷ without e ps)))
      by true rest = all.1
      by false rest = (all.0, rest)

  module _ (known : List Seen) (named : AllByRecursion (λ x. IsNamed x.entity) known) where
    shown_named : (r : Replica) (e : ℕ) (o : Option Seen) → seen_of e known ≡ o → AllAmong us (keys_of r.entries) →
        AllAmong us (keys_of (after_showing r e o).entries)
    shown_named r e None is all = all
    shown_named r e (Some s) is all = placed_named e s.version r.entries (seen_named e known s named is) all

    look_named : (r : Replica) (l : Look) → AllAmong us (keys_of r.entries) → AllAmong us (keys_of (after_look known r l).entries)
    look_named r (Leave e) all = without_named e r.entries all
    look_named r (LookSet e) all = shown_named r e (seen_of e known) refl all
    look_named r (Enter e) all = shown_named r e (seen_of e known) refl all

    looks_named : (r : Replica) (ls : List Look) → AllAmong us (keys_of r.entries) → AllAmong us (keys_of (after_looks known r ls).entries)
    looks_named r [] all = all
    looks_named r (l ∷ ls) all = looks_named (after_look known r l) ls (look_named r l all)

  numbered_ok : (b e n : ℕ) (ss : List Shown) → SentOk (numbered b e n ss)
  numbered_ok b e n [] = tt
  numbered_ok b e n (s ∷ ss) = (tt, numbered_ok b e (n + 1) ss)

  module _ (e : ℕ) (h : Here) (s : Slot) (ok : SlotOk e s) (known : List Known)
      (named : AllByRecursion (λ x. IsNamed x.entity) (map seen_as known)) where
    witness_ok : (r : RealView) (w : WitnessView) → RealOk e r → r.witness ≡ Some w →
        StepOk e s (looks_with h s r w known (shown_of h r w known))
    witness_ok r w its has =
        let was = its.witness w has in
        record {
          slot =
              named_ok e its.named _ (λ q is.
              this_real e _ (record {
                named = its.named;
                witness = λ x at.
                    this_witness _ (record {
                      view = view_after_looks (map seen_as known) w.view (looks_of r w known) was.view;
                      names = looks_named (map seen_as known) named w.view (looks_of r w known) was.names;
                      among = was.among;
                    }) x at;
              }) q is);
          sent = numbered_ok (base_of h r.entity) r.entity w.sent (shown_of h r w known);
        }
      where
        this_witness : (x : WitnessView) → WitnessOk e x → (y : WitnessView) → Some x ≡ Some y → WitnessOk e y
        this_witness x good y is = let same : x ≡ y = cc in subst (WitnessOk e) same good

    look_ok_by : (r : RealView) (o : Option WitnessView) → RealOk e r → r.witness ≡ o → StepOk e s (look_by h s r o known)
    look_ok_by r None its has = rests_ok e s ok
    look_ok_by r (Some w) its has = witness_ok r w its has

    pub look_ok : (o : Option RealView) → s.real ≡ o → StepOk e s (look_task h s o known)
    look_ok None is = rests_ok e s ok
    look_ok (Some r) is = look_ok_by r r.witness (ok.real r is) refl
