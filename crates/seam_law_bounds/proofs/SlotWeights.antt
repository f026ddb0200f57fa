-- What a step of one entity's slot leaves and sends weighs less than the slot and what the step is fed.
use Rattle.seam_law_bounds.proofs.Prelude.{◌≡◌, ℕ, ◌+◌, ◌*◌, ◌<◌, ◌≤◌, Bool, true, false, List, [], ◌∷◌, length, Option, None, Some}
use Rattle.seam_law_bounds.proofs.Prelude.{refl, sym, ap, ◌∙◌, arith, not, ◌&&◌, ◌||◌, ◌==◌, is_none, is_some, if◌then◌else◌}
use Rattle.seam_law_bounds.proofs.Prelude.{filter_map, nat_cmp, Ordering, Less, Equal, Greater, total-append, weight_or, sent_weight}
use Rattle.seam_law_bounds.proofs.Prelude.{sent_of_chosen, sent_of_range_bounds, Cells, OrderView, next_item, Call as CallData}
use Rattle.seam_law_bounds.proofs.Prelude.{GhostCopy, Shown, rank_of, order_of, RealView, WitnessView, Msg, Hand, Current, GhostSet}
use Rattle.seam_law_bounds.proofs.Prelude.{GhostDrop, Reap, Here, cell_count, base_of, has_ready, ready_order, order_is_ready}
use Rattle.seam_law_bounds.proofs.Prelude.{copy_of_real, may_settle, may_execute, may_call, with_offer, executed, executed_ready, shows}
use Rattle.seam_law_bounds.proofs.Prelude.{settled_to, Slot, NextPlace, SlotStep, slot_after, told, told_unless, ghost_message}
use Rattle.seam_law_bounds.proofs.Prelude.{ghost_messages, gone_to, stays, settled_by, settled, home_after, haunts_at, call_next_place}
use Rattle.seam_law_bounds.proofs.Prelude.{stray_call, hand_over_comes, stray_hand, ghost_set, stray_ghost_set, ghost_drop, drop_at}
use Rattle.seam_law_bounds.proofs.Prelude.{drop_if, reap, stray_reap, survey_task, stray_survey, executes_ready, ready_in, is_stray}
use Rattle.seam_law_bounds.proofs.Prelude.{slot_steps, ready_call_task, stray_ready_call, Known, numbered, own_due, shown_for}
use Rattle.seam_law_bounds.proofs.Prelude.{all_shown, looks_of, shown_of, look_by, look_task, stray_look, Sizes, settle_weight}
use Rattle.seam_law_bounds.proofs.Prelude.{settling, look_weight, is_left, Look, found, offered, call, turn_counts, early_counts}
use Rattle.seam_law_bounds.proofs.Prelude.{taken_counts, equal_of, greater_of}
use Rattle.seam_law_bounds.specs.Weights.{left_weight, moving_letter_weight, moving_real_weight}
use Rattle.seam_law_bounds.proofs.Counts.{times_grows, one_more, chosen_are_few}
use Rattle.std.proofs.Common.{◌-◌, nat_lt}
use Rattle.std.proofs.lemmas.Bool.{eqb-true}
use Rattle.std.proofs.lemmas.Bool.Decides.{nat_tests}
use Rattle.std.specs.FinSet as set
use Rattle.seam_node_steps.specs.Prelude.{unless_stray, Boundaries, bounds_in, brought, currents, number_in, unless_first}
use Rattle.seam_entity.specs.declared.message.Msg.TheVariants.{Call}

-- a real that is listed settles once more
abbrev pub listing : Sizes → Bool → ℕ
listing z true = settling z
listing z false = 0

lt_of : (a b : ℕ) → nat_lt a b ≡ true → a < b
lt_of a b is = grind (arith, nat_tests, is)

module _ (z : Sizes) (last : ℕ) where
  later_weighs : (m n : ℕ) → m ≤ n → left_weight z last n ≤ left_weight z last m
  later_weighs m n le = times_grows (last - n) (last - m) (settling z) (omega (arith, le))

  -- one tree less leaves a settling less
  pub newer_weighs : (m n : ℕ) → m < n → n ≤ last → left_weight z last n + settling z ≤ left_weight z last m
  newer_weighs m n lt most =
      let one = one_more ((last - n) + 1) (last - n) (settling z) refl in
      let two = times_grows ((last - n) + 1) (last - m) (settling z) (omega (arith, lt, most)) in
      omega (arith, one, two)

-- a cell goes by the boundaries t, and the last ones of the round have that number
module _ (z : Sizes) (last : ℕ) (t : Boundaries) where
  abbrev g : ℕ → Msg → ℕ
  g = moving_letter_weight z last

  -- what a real of the cell weighs
  abbrev pub weigh : RealView → ℕ
  weigh = moving_real_weight z last t.number

  abbrev pub slot_weight : Slot → ℕ
  slot_weight s = weight_or weigh s.real

  -- what a step of a slot leaves and sends
  abbrev pub step_weight : Slot → SlotStep → ℕ
  step_weight s t = slot_weight (slot_after t.slot s) + sent_weight g t.sent

  -- ---- a settle

  told_one : (at e beat : ℕ) (c : GhostCopy) (now old changed : Bool) → weight_or (g at) (told e beat c now old changed) ≤ 1
  told_one at e beat c true false changed = omega arith
  told_one at e beat c true true true = omega arith
  told_one at e beat c true true false = omega arith
  told_one at e beat c false true changed = omega arith
  told_one at e beat c false false changed = omega arith

  unless_one : (b : Bool) (k : ℕ) (m : Option Msg) → weight_or (g k) m ≤ 1 → weight_or (λ p. g p.0 p.1) (told_unless b k m) ≤ 1
  unless_one true k m h = omega arith
  unless_one false k None h = omega arith
  unless_one false k (Some m) h = h

  -- at most sixteen cells are told
  ghosts_weigh : (h : Here) (r : RealView) (j : ℕ) (haunts : Cells) (changed : Bool) →
      sent_weight g (ghost_messages h r j haunts changed) ≤ 16
  ghosts_weigh h r j haunts changed =
      let e =
      sent_of_chosen g (ghost_message h r j haunts changed) 1 0 cell_count
      (λ k. unless_one ((k == h.me) || (k == j)) k _ (told_one k r.entity (r.beat + 1) (copy_of_real h r) (set.contains haunts k)
      (set.contains r.haunts k) changed)) in
      omega (arith, e)

  stays_weigh : (h : Here) (s : Slot) (r : RealView) (changed : Bool) →
      step_weight s (stays h t.tree s r changed) ≤ weigh r + settle_weight z
  stays_weigh h s r changed =
      let e = ghosts_weigh h r h.me (haunts_at h t.tree r.state.pos h.me r.haunts) changed in
      omega (arith, e)

  -- the boundaries that a real brings have the cell's number
  brought_by : (d : Bool) → (t.number == 0) ≡ d → number_in (unless_first d t) ≡ t.number
  brought_by true is = sym (eqb-true t.number 0 is)
  brought_by false is = refl

  brings_number : number_in (brought t) ≡ t.number
  brings_number = brought_by (t.number == 0) refl

  gone_weigh : (h : Here) (s : Slot) (r : RealView) (j : ℕ) (haunts : Cells) (sent : List (ℕ × Msg)) → sent_weight g sent ≤ 16 →
      step_weight s (gone_to h t s r j haunts sent) ≤ weigh r + settle_weight z
  gone_weigh h s r j haunts sent e =
      let two = total-append (λ p. g p.0 p.1) sent ((j, Hand (settled_to r haunts (r.beat + 1) (r.generation + 1)) (brought t)) ∷ []) in
      let same = ap (left_weight z last) brings_number in
      omega (arith, e, two, same)

  settled_weigh_by : (b : Bool) (h : Here) (s : Slot) (r : RealView) (changed : Bool) (j : ℕ) →
      step_weight s (settled_by b h t s r changed j) ≤ weigh r + settle_weight z
  settled_weigh_by true h s r changed j = stays_weigh h s r changed
  settled_weigh_by false h s r changed j =
      let haunts = haunts_at h t.tree r.state.pos j (set.insert r.haunts h.me) in
      gone_weigh h s r j haunts _ (ghosts_weigh h r j haunts changed)

  -- a settle leaves and sends at most what the real weighs and the weight of a settle
  settled_weigh : (h : Here) (s : Slot) (r : RealView) (changed : Bool) →
      step_weight s (settled h t s r changed) ≤ weigh r + settle_weight z
  settled_weigh h s r changed =
      settled_weigh_by (home_after h t.tree r.state.pos == h.me) h s r changed (home_after h t.tree r.state.pos)

  -- ---- messages

  abbrev one_if : Bool → ℕ
  one_if b = if b then 1 else 0

  had : (s : Slot) (r : RealView) → s.real ≡ Some r → slot_weight s ≡ weigh r
  had s r is = ap (weight_or weigh) is

  executed_weighs : (h : Here) (r : RealView) (k : CallData) → k.number ≡ (order_of r.orders k.sender).next →
      weigh (executed h r k) ≡ weigh r
  executed_weighs h r k is =
      ap (λ n. n * settling z + left_weight z last t.number) (turn_counts r.orders (rank_of k.sender) k.number k is)

  held_weighs : (r : RealView) (k : CallData) → (order_of r.orders k.sender).next < k.number →
      weigh (with_offer r k) ≡ weigh r + settling z
  held_weighs r k lt =
      let one = one_more _ _ (settling z) (early_counts r.orders (rank_of k.sender) k.number k lt) in
      omega (arith, one)

  offered_weigh : (h : Here) (s : Slot) (r : RealView) (k : CallData) (o : Ordering) → s.real ≡ Some r →
      nat_cmp k.number (order_of r.orders k.sender).next ≡ o → step_weight s (offered h t s r k o) ≤ weigh r + settling z
  offered_weigh h s r k Less is e = let w = had s r is in omega (arith, w)
  offered_weigh h s r k Equal is e =
      let one = settled_weigh h s (executed h r k) (shows h r k) in
      let two = executed_weighs h r k (equal_of k.number (order_of r.orders k.sender).next e) in
      omega (arith, one, two)
  offered_weigh h s r k Greater is e =
      let one = held_weighs r k (greater_of k.number (order_of r.orders k.sender).next e) in
      omega (arith, one)

  rests_by : (b : Bool) (s : Slot) (t : SlotStep) (n : ℕ) → slot_weight s ≤ n → step_weight s t ≤ n → step_weight s (unless_stray b t) ≤ n
  rests_by true s t n h k = omega (arith, h)
  rests_by false s t n h k = k

  pub letter_weighs : ℕ → SlotStep → Slot → Msg → Type 0
  letter_weighs j t s m = step_weight s t + 1 ≤ slot_weight s + g j m

  -- a call lowers the weight, or is passed on and keeps it
  call_weighs : (h : Here) (s : Slot) (k : CallData) (o : Option RealView) (n : Option NextPlace) → s.real ≡ o → s.next
      ≡ n →
      step_weight s (unless_stray (stray_call h k o n) (call h t s k o)) + 1 ≤ slot_weight s + (2 + settle_weight z) + one_if (is_left s)
  call_weighs h s k (Some r) n is at =
      let w = had s r is in
      let one =
      rests_by (not (may_call h r k)) s (offered h t s r k (nat_cmp k.number (order_of r.orders k.sender).next))
      (weigh r + settling z) (omega (arith, w))
      (offered_weigh h s r k (nat_cmp k.number (order_of r.orders k.sender).next) is refl) in
      omega (arith, one, w)
  call_weighs h s k None None is at = omega arith
  call_weighs h s k None (Some n) is at =
      let one = ap (λ x. step_weight s (call_next_place k x)) at in
      let left = ap (λ x. one_if (is_none x && is_some s.next)) is ∙ ap (λ x. one_if (true && is_some x)) at in
      omega (arith, one, left)

  -- the real that comes was settled by older boundaries
  abbrev pub is_late : Here → Slot → Msg → Bool
  is_late h s (Hand r bs) = nat_lt (number_in bs) t.number && not (stray_hand h t.tree r s.real)
  is_late h s _ = false

  lands_weigh : (m : ℕ) (late stray : Bool) → nat_lt m t.number ≡ late → m ≤ t.number → t.number ≤ last →
      left_weight z last t.number + listing z (late && not stray) ≤ left_weight z last m
  lands_weigh m true true is le most = let more = later_weighs z last m t.number le in omega (arith, more)
  lands_weigh m true false is le most = newer_weighs z last m t.number (lt_of m t.number is) most
  lands_weigh m false stray is le most = let more = later_weighs z last m t.number le in omega (arith, more)

  hand_weighs : (h : Here) (s : Slot) (r : RealView) (m : ℕ) (o : Option RealView) → h.settings.bases ≤ z.bases → m ≤ t.number →
      t.number ≤ last → s.real ≡ o → step_weight s (unless_stray (stray_hand h t.tree r o) (hand_over_comes h s r)) + 1
      + listing z (nat_lt m t.number && not (stray_hand h t.tree r o)) ≤ slot_weight s + (1 + z.bases + moving_real_weight z last m r)
  hand_weighs h s r m (Some q) few le most is =
      let w = ap (weight_or weigh) is in
      let late = lands_weigh m (nat_lt m t.number) true refl le most in
      omega (arith, w, late)
  hand_weighs h s r m None few le most is =
      let w = ap (weight_or weigh) is in
      let two = sent_of_range_bounds g (λ b. Current r.entity h.me r.generation) 1 cell_count h.settings.bases (λ k. omega arith) in
      let late = lands_weigh m (nat_lt m t.number) (stray_hand h t.tree r None) refl le most in
      by (stray_hand h t.tree r None) w two late
    where
      by : (d : Bool) → slot_weight s ≡ 0 → sent_weight g (currents h r) ≤ h.settings.bases * 1 →
          left_weight z last t.number + listing z (nat_lt m t.number && not d) ≤ left_weight z last m →
          step_weight s (unless_stray d (hand_over_comes h s r)) + 1 + listing z (nat_lt m t.number && not d)
          ≤ slot_weight s + (1 + z.bases + moving_real_weight z last m r)
      by true w two late = omega (arith, w, late)
      by false w two late = omega (arith, w, two, late, few)

  set_weighs : (h : Here) (s : Slot) (e beat : ℕ) (c : GhostCopy) (o : Option RealView) → s.real ≡ o →
      step_weight s (unless_stray (stray_ghost_set h beat c) (ghost_set s beat c o)) ≤ slot_weight s
  set_weighs h s e beat c None is = rests_by (stray_ghost_set h beat c) s (ghost_set s beat c None) _ (omega arith) (omega arith)
  set_weighs h s e beat c (Some r) is = rests_by (stray_ghost_set h beat c) s (ghost_set s beat c (Some r)) _ (omega arith) (omega arith)

  drop_one : (b : Bool) (k e beat : ℕ) → weight_or (λ p. g p.0 p.1) (drop_if b k (GhostDrop e beat)) ≤ 1
  drop_one true k e beat = omega arith
  drop_one false k e beat = omega arith

  reap_weighs : (s : Slot) (o : Option RealView) → s.real ≡ o → step_weight s (unless_stray (stray_reap o) (reap s o)) ≤ slot_weight s + 16
  reap_weighs s None is = omega arith
  reap_weighs s (Some r) is =
      let two = sent_of_chosen g (drop_at r) 1 0 cell_count (λ k. drop_one (set.contains r.haunts k) k r.entity (r.beat + 1)) in
      rests_by (stray_reap (Some r)) s (reap s (Some r)) _ (omega arith) (omega (arith, two))

  -- 1 where the message is a call that is passed on
  abbrev pub passed : Slot → Msg → Bool
  passed s (Call k) = is_left s
  passed s _ = false

  -- a message to a cell lowers the weight, but for a call that is passed on
  pub message_weighs : (j : ℕ) (h : Here) (s : Slot) (m : Msg) → h.settings.bases ≤ z.bases → number_in (bounds_in m) ≤ t.number →
      t.number ≤ last → step_weight s (slot_steps h t s m) + 1 + listing z (is_late h s m) ≤ slot_weight s + g j m + one_if (passed s m)
  message_weighs j h s (Call k) few le most = let e = call_weighs h s k s.real s.next refl refl in omega (arith, e)
  message_weighs j h s (Hand r bs) few le most = let e = hand_weighs h s r (number_in bs) s.real few le most refl in omega (arith, e)
  message_weighs j h s (GhostSet x n c) few le most = let e = set_weighs h s x n c s.real refl in omega (arith, e)
  message_weighs j h s (GhostDrop x n) few le most =
      let e = rests_by (is_stray h t.tree s (GhostDrop x n)) s (ghost_drop s n) (slot_weight s) (omega arith) (omega arith) in
      omega (arith, e)
  message_weighs j h s (Reap x) few le most = let e = reap_weighs s s.real refl in omega (arith, e)
  message_weighs j h s _ few le most = omega arith

  -- ---- tasks

  pub survey_weighs : (h : Here) (s : Slot) (o : Option RealView) → s.real ≡ o →
      step_weight s (unless_stray (stray_survey o) (survey_task h t s o)) ≤ slot_weight s + settle_weight z
  survey_weighs h s None is = omega arith
  survey_weighs h s (Some r) is =
      let w = had s r is in
      let one = settled_weigh h s r false in
      rests_by (not (may_settle r)) s (settled h t s r false) _ (omega arith) (omega (arith, one, w))

  ready_weighs_by : (h : Here) (s : Slot) (r : RealView) (o : ℕ × OrderView CallData) (k : Option CallData) →
      s.real ≡ Some r → ready_order r.orders ≡ Some o → next_item o.1 ≡ k → is_some k ≡ true →
      step_weight s (executes_ready h t s r o k) + 1 ≤ slot_weight s
  ready_weighs_by h s r o None is e n some = cc
  ready_weighs_by h s r o (Some k) is e n some =
      let one = settled_weigh h s (executed_ready h r o k) (shows h r k) in
      let two = taken_counts r.orders o k e n in
      let three = one_more _ _ (settling z) (sym two) in
      let w = had s r is in
      omega (arith, one, three, w)

  ready_weighs_if : (h : Here) (s : Slot) (r : RealView) (o : Option (ℕ × OrderView CallData)) → s.real ≡ Some r →
      ready_order r.orders ≡ o → is_some o ≡ true → step_weight s (ready_in h t s r o) + 1 ≤ slot_weight s
  ready_weighs_if h s r None is e some = cc
  ready_weighs_if h s r (Some o) is e some =
      ready_weighs_by h s r o (next_item o.1) is e refl (found order_is_ready r.orders o e).1

  not_stray : (b : Bool) (t : SlotStep) → b ≡ true → unless_stray (not b) t ≡ t
  not_stray true t is = refl
  not_stray false t is = cc

  -- a ready call that may be executed
  pub ready_weighs : (h : Here) (s : Slot) (r : RealView) → s.real ≡ Some r → may_execute r ≡ true →
      has_ready r.orders ≡ true →
      step_weight s (unless_stray (stray_ready_call (Some r)) (ready_call_task h t s (Some r))) + 1 ≤ slot_weight s
  ready_weighs h s r is may some =
      let one = ready_weighs_if h s r (ready_order r.orders) is refl some in
      let two = ap (step_weight s) (not_stray (may_execute r) (ready_call_task h t s (Some r)) may) in
      omega (arith, one, two)

  -- ---- looks

  numbered_weigh : (b e n : ℕ) (ss : List Shown) → sent_weight g (numbered b e n ss) ≡ 2 * length ss
  numbered_weigh b e n [] = omega arith
  numbered_weigh b e n (s ∷ ss) = let h = numbered_weigh b e (n + 1) ss in omega (arith, h)

  shown_are_few : (h : Here) (r : RealView) (w : WitnessView) (known : List Known) (looks : List Look) →
      length (all_shown h r w known looks) ≤ length looks + 1
  shown_are_few h r w known looks = by (own_due w.told r.version) refl
    where
      few : length (filter_map (shown_for known) looks) ≤ length looks
      few = chosen_are_few (shown_for known) looks

      by : (b : Bool) → own_due w.told r.version ≡ b → length (all_shown h r w known looks) ≤ length looks + 1
      by true is = rw is (omega (arith, few))
      by false is = rw is (omega (arith, few))

  look_weighs_by : (h : Here) (s : Slot) (r : RealView) (known : List Known) (o : Option WitnessView) → s.real ≡ Some r →
      ((w : WitnessView) → o ≡ Some w → length (looks_of r w known) ≤ z.lines) →
      step_weight s (look_by h s r o known) + 1 ≤ slot_weight s + look_weight z
  look_weighs_by h s r known None is few = omega arith
  look_weighs_by h s r known (Some w) is few =
      let one = numbered_weigh (base_of h r.entity) r.entity w.sent (shown_of h r w known) in
      let two = shown_are_few h r w known (looks_of r w known) in
      let three = few w refl in
      let v = had s r is in
      omega (arith, one, two, three, v)

  pub look_weighs : (h : Here) (s : Slot) (known : List Known) (o : Option RealView) → s.real ≡ o →
      ((r : RealView) (w : WitnessView) → o ≡ Some r → r.witness ≡ Some w → length (looks_of r w known) ≤ z.lines) →
      step_weight s (unless_stray (stray_look h o known) (look_task h s o known)) + 1 ≤ slot_weight s + look_weight z
  look_weighs h s known None is few = omega arith
  look_weighs h s known (Some r) is few =
      let one = look_weighs_by h s r known r.witness is (λ w at. few r w refl at) in
      let two =
      rests_by (stray_look h (Some r) known) s (look_task h s (Some r) known) (slot_weight s + 2 + 2 * z.lines) (omega arith)
      (omega (arith, one)) in
      omega (arith, two)
