-- What a cell does with an entity, in eight kinds: ten of its moves leave the real and send nothing; and what it sends, by kind.
use Rattle.seam_law_calls.proofs.Prelude.{◌≡◌, ℕ, zero, suc, ◌+◌, ◌<◌, ◌≤◌, Bool, true, false, ◌==◌, ◌||◌, ◌⊎◌, List, [], ◌∷◌, length}
use Rattle.seam_law_calls.proofs.Prelude.{Option, None, Some, refl, sym, ap, ◌∙◌, subst, arith, inl, inr, filter_map, range_with_len}
use Rattle.seam_law_calls.proofs.Prelude.{cons_option, Division, Cells, Call as CallData, GhostCopy, Shown, order_of, RealView, WitnessView}
use Rattle.seam_law_calls.proofs.Prelude.{Msg, Hand, Current, GhostSet, GhostDrop, Tick, Reap, Update, is_small, may_rise, Here, cell_count}
use Rattle.seam_law_calls.proofs.Prelude.{base_of, ghost_after, may_call, with_offer, copy_of_real, settled_to, NextPlace, becomes}
use Rattle.seam_law_calls.proofs.Prelude.{hand_over_comes, reap, told_unless, ghost_message, ghost_messages, haunts_at, home_after}
use Rattle.seam_law_calls.proofs.Prelude.{may_come, is_stray, current_to, drop_if, drop_at, drops, Known, numbered, shown_of, looks_with}
use Rattle.seam_law_calls.proofs.Prelude.{AtCell, Does, Acts, CellMoves, looks_after_tick, stray_survey, all_append}
use Rattle.std.specs.FinSet as set
use Rattle.seam_call.specs.declared.shown.Update.{Update as UpdateData}
use Rattle.seam_node_steps.specs.Prelude.{told}
use Rattle.seam_entity.specs.declared.message.Msg.TheVariants.{Call}
use Rattle.seam_node_steps.specs.Settle as settle
use Rattle.seam_law_calls.specs.CellMoves as move
use Rattle.seam_law_calls.proofs.BaseDeeds.{AllSent, mapped_all}
use Rattle.seam_node_steps.specs.Prelude.{Boundaries, at_start}

-- ---- nothing is done with the real

-- why what comes, if anything, leaves the real
pub data Ignored (h : Here) (t : Division) (s : AtCell) (i : Option Msg) : Type 0 where
  task : i ≡ None → Ignored h t s i
  stray : (m : Msg) → i ≡ Some m → is_stray h t s.slot m ≡ true → Ignored h t s i
  late : (c : CallData) (r : RealView) → i ≡ Some (Call c) → s.slot.real ≡ Some r → may_call h r c ≡ true
      → c.number < (order_of r.orders c.sender).next → Ignored h t s i
  copies : (e beat : ℕ) (c : GhostCopy) → i ≡ Some (GhostSet e beat c) → Ignored h t s i
  drops_copy : (e beat : ℕ) → i ≡ Some (GhostDrop e beat) → Ignored h t s i
  ticks : i ≡ Some Tick → Ignored h t s i

-- what was heard of copies
pub data HeardOf (e : ℕ) (s : AtCell) (i : Option Msg) (v : AtCell) : Type 0 where
  as_before : v.slot.ghost ≡ s.slot.ghost → HeardOf e s i v
  set_to : (beat : ℕ) (c : GhostCopy) → i ≡ Some (GhostSet e beat c) → s.slot.real ≡ None
      → v.slot.ghost ≡ ghost_after s.slot.ghost (record { beat = beat; copy = Some c }) → HeardOf e s i v
  dropped : (beat : ℕ) → i ≡ Some (GhostDrop e beat)
      → v.slot.ghost ≡ ghost_after s.slot.ghost (record { beat = beat; copy = None }) → HeardOf e s i v

-- the lists have no more entries, but for a tick
pub record Idles (h : Here) (t : Division) (e : ℕ) (s : AtCell) (i : Option Msg) (v : AtCell) : Type 0 where
  pub real : v.slot.real ≡ s.slot.real
  pub next : v.slot.next ≡ s.slot.next
  pub heard : HeardOf e s i v
  pub survey : v.survey ≤ s.survey
  pub taken : (v.survey ≡ s.survey) ⊎ ((s.survey ≡ v.survey + 1) × (stray_survey s.slot.real ≡ true))
  pub looks : (v.looks ≤ s.looks) ⊎ ((i ≡ Some Tick) × (v.looks ≡ looks_after_tick s.slot.real))
  pub why : Ignored h t s i

-- the other kinds are moves, and say what these do
pub data CellDeeds (h : Here) (t : Division) (e : ℕ) (s : AtCell) (i : Option Msg) (v : AtCell) (sent : List (ℕ × Msg)) : Type 0 where
  idles : Idles h t e s i v → sent ≡ [] → CellDeeds h t e s i v sent
  stays : (u : AtCell) (r q : RealView) (changed : Bool) → s.slot.real ≡ Some r → r.entity ≡ e → Acts h e s i r u q changed
      → home_after h t q.state.pos ≡ h.me → Does u (settle.stays h t s.slot q changed) v sent → CellDeeds h t e s i v sent
  goes : (u : AtCell) (r q : RealView) (changed : Bool) (j : ℕ) → s.slot.real ≡ Some r → r.entity ≡ e → Acts h e s i r u q changed
      → home_after h t q.state.pos ≡ j → (j ≡ h.me → ⊥) → Does u (settle.goes h (at_start t) s.slot q changed j) v sent →
      CellDeeds h t e s i v sent
  holds : (c : CallData) (r : RealView) → i ≡ Some (Call c) → c.entity ≡ e → s.slot.real ≡ Some r → r.entity ≡ e
      → may_call h r c ≡ true → (order_of r.orders c.sender).next < c.number
      → Does s (becomes (record s.slot { real = Some (with_offer r c) })) v sent → CellDeeds h t e s i v sent
  passes : (c : CallData) (n : NextPlace) → i ≡ Some (Call c) → c.entity ≡ e → s.slot.real ≡ None → s.slot.next ≡ Some n
      → Does s (record { slot = None; unlisted = false; sent = (n.cell, Call c) ∷ [] }) v sent → CellDeeds h t e s i v sent
  lands : (r : RealView) (bs : Option Boundaries) → i ≡ Some (Hand r bs) → r.entity ≡ e → s.slot.real ≡ None → may_come h t r ≡ true
      → Does s (hand_over_comes h s.slot r) v sent → CellDeeds h t e s i v sent
  reaped : (r : RealView) → i ≡ Some (Reap e) → s.slot.real ≡ Some r → r.entity ≡ e → may_rise r.beat ≡ true
      → Does s (reap s.slot (Some r)) v sent → CellDeeds h t e s i v sent
  looks : (n : ℕ) (r : RealView) (w : WitnessView) (known : List Known) → i ≡ None → s.looks ≡ n + 1 → s.slot.real ≡ Some r → r.entity ≡ e
      → r.witness ≡ Some w → is_small (w.sent + length (shown_of h r w known)) ≡ true
      → Does (record s { looks = n }) (looks_with h s.slot r w known (shown_of h r w known)) v sent → CellDeeds h t e s i v sent

module _ {h : Here} {t : Division} {e : ℕ} {s : AtCell} {i : Option Msg} {v : AtCell} {sent : List (ℕ × Msg)} where
  -- v has the slot of s, and these lists
  listed : (m n : ℕ) → v ≡ record { slot = s.slot; survey = m; looks = n } →
      (m ≡ s.survey) ⊎ ((s.survey ≡ m + 1) × (stray_survey s.slot.real ≡ true)) →
      (n ≤ s.looks) ⊎ ((i ≡ Some Tick) × (n ≡ looks_after_tick s.slot.real)) → Ignored h t s i → sent ≡ [] →
      CellDeeds h t e s i v sent
  listed m n is kept few why none = idles (record {
    real = ap (λ a. a.slot.real) is;
    next = ap (λ a. a.slot.next) is;
    heard = as_before (ap (λ a. a.slot.ghost) is);
    survey = let now = ap (λ a. a.survey) is in elim kept [
      | inl same ↦ omega (arith, now, same)
      | inr gone ↦ let one = gone.0 in omega (arith, now, one)
    ];
    taken = elim kept [
      | inl same ↦ inl (ap (λ a. a.survey) is ∙ same)
      | inr gone ↦ inr (gone.0 ∙ sym (ap (λ a. a.survey + 1) is), gone.1)
    ];
    looks = elim few [
      | inl less ↦ inl (let now = ap (λ a. a.looks) is in omega (arith, now, less))
      | inr tick ↦ inr (tick.0, ap (λ a. a.looks) is ∙ tick.1)
    ];
    why = why;
  }) none

  rest : Does s (record { slot = None; unlisted = false; sent = [] }) v sent → Ignored h t s i → CellDeeds h t e s i v sent
  rest d why = listed s.survey s.looks d.state (inl refl) (inl (omega arith)) why d.sends

  hears : (b : Option GhostCopy) (beat : ℕ) →
      v ≡ record s { slot = record s.slot { ghost = ghost_after s.slot.ghost (record { beat = beat; copy = b }) } } →
      HeardOf e s i v → Ignored h t s i → sent ≡ [] →
      CellDeeds h t e s i v sent
  hears b beat is book why none = idles (record {
    real = ap (λ a. a.slot.real) is;
    next = ap (λ a. a.slot.next) is;
    heard = book;
    survey = let now = ap (λ a. a.survey) is in omega (arith, now);
    taken = inl (ap (λ a. a.survey) is);
    looks = inl (let now = ap (λ a. a.looks) is in omega (arith, now));
    why = why;
  }) none

  pub cell_deeds : CellMoves h t e s i v sent → CellDeeds h t e s i v sent
  cell_deeds (move.rests n d) = rest d (task n)
  cell_deeds (move.strays m n b d) = rest d (stray m n b)
  cell_deeds (move.stays u r q changed has own acts at d) = stays u r q changed has own acts at d
  cell_deeds (move.goes u r q changed j has own acts at n d) = goes u r q changed j has own acts at n d
  cell_deeds (move.late c r n has may lt d) = rest d (late c r n has may lt)
  cell_deeds (move.holds c r n own has mine may lt d) = holds c r n own has mine may lt d
  cell_deeds (move.passes c p n own has at d) = passes c p n own has at d
  cell_deeds (move.lands r bs n own has may d) = lands r bs n own has may d
  cell_deeds (move.hears_set n c is has d) =
      hears (Some c) n d.state (set_to n c is has (ap (λ a. a.slot.ghost) d.state)) (copies e n c is) d.sends
  cell_deeds (move.ignores_set n c r is has d) = rest d (copies e n c is)
  cell_deeds (move.hears_drop n is d) =
      hears None n d.state (dropped n is (ap (λ a. a.slot.ghost) d.state)) (drops_copy e n is) d.sends
  cell_deeds (move.reaped r n has own may d) = reaped r n has own may d
  cell_deeds (move.ticks n st z) = listed s.survey _ st (inl refl) (inr (n, refl)) (ticks n) z
  cell_deeds (move.unlists n is at b d) = listed n s.looks d.state (inr (at, b)) (inl (omega arith)) (task is) d.sends
  cell_deeds (move.looks n r w known is at has own v small d) = looks n r w known is at has own v small d
  cell_deeds (move.overlooks n known is at b d) = listed s.survey n d.state (inl refl) (inl (omega (arith, at))) (task is) d.sends
  cell_deeds (move.stuck r is has ready may d) = rest d (task is)

-- what leaves the real is no hand-over that finds room, no call in its turn and no reap that finds the real
pub not_handed : {h : Here} {t : Division} {s : AtCell} {i : Option Msg} → Ignored h t s i → (r : RealView) (bs : Option Boundaries) → i
    ≡ Some (Hand r bs) →
    is_stray h t s.slot (Hand r bs) ≡ true
not_handed (task n) r bs is = absurd (let z = sym n ∙ is in cc)
not_handed {h} {t} {s} (stray m n b) r bs is =
    let one : m ≡ Hand r bs = let z = sym n ∙ is in cc in
    ap (is_stray h t s.slot) (sym one) ∙ b
not_handed (late c r n has may lt) q bs is = absurd (let z = sym n ∙ is in cc)
not_handed (copies e beat c n) r bs is = absurd (let z = sym n ∙ is in cc)
not_handed (drops_copy e beat n) r bs is = absurd (let z = sym n ∙ is in cc)
not_handed (ticks n) r bs is = absurd (let z = sym n ∙ is in cc)

pub not_reaped : {h : Here} {t : Division} {s : AtCell} {i : Option Msg} → Ignored h t s i → (e : ℕ) → i ≡ Some (Reap e) →
    is_stray h t s.slot (Reap e) ≡ true
not_reaped (task n) e is = absurd (let z = sym n ∙ is in cc)
not_reaped {h} {t} {s} (stray m n b) e is =
    let one : m ≡ Reap e = let z = sym n ∙ is in cc in
    ap (is_stray h t s.slot) (sym one) ∙ b
not_reaped (late c r n has may lt) e is = absurd (let z = sym n ∙ is in cc)
not_reaped (copies x beat c n) e is = absurd (let z = sym n ∙ is in cc)
not_reaped (drops_copy x beat n) e is = absurd (let z = sym n ∙ is in cc)
not_reaped (ticks n) e is = absurd (let z = sym n ∙ is in cc)

pub not_called : {h : Here} {t : Division} {s : AtCell} {i : Option Msg} → Ignored h t s i → (c : CallData) → i ≡ Some (Call c) →
    (is_stray h t s.slot (Call c) ≡ true) ⊎
    ((r : RealView) × (s.slot.real ≡ Some r) × (c.number < (order_of r.orders c.sender).next))
not_called (task n) c is = absurd (let z = sym n ∙ is in cc)
not_called {h} {t} {s} (stray m n b) c is =
    let one : m ≡ Call c = let z = sym n ∙ is in cc in
    inl (ap (is_stray h t s.slot) (sym one) ∙ b)
not_called (late k r n has may lt) c is =
    let one : k ≡ c = let z = sym n ∙ is in cc in
    inr (r, has, subst (λ (x : CallData). x.number < (order_of r.orders x.sender).next) one lt)
not_called (copies e beat k n) c is = absurd (let z = sym n ∙ is in cc)
not_called (drops_copy e beat n) c is = absurd (let z = sym n ∙ is in cc)
not_called (ticks n) c is = absurd (let z = sym n ∙ is in cc)

-- ---- what is sent

module _ (Q : ℕ → Msg → Type 0) where
  -- Q is true of each message that the cell may send, with its target
  pub record Says (h : Here) (t : Division) (e : ℕ) (s : AtCell) (i : Option Msg) : Type 0 where
    pub sets : (j x beat : ℕ) (c : GhostCopy) → j < cell_count → Q j (GhostSet x beat c)
    pub drops : (j x beat : ℕ) → j < cell_count → Q j (GhostDrop x beat)
    pub hands : (u : AtCell) (r q : RealView) (changed : Bool) (j : ℕ) → s.slot.real ≡ Some r → Acts h e s i r u q changed
        → home_after h t q.state.pos ≡ j
        → Q j (Hand (settled_to q (haunts_at h t q.state.pos j (set.insert q.haunts h.me)) (q.beat + 1) (q.generation + 1)) None)
    pub calls : (c : CallData) (n : NextPlace) → i ≡ Some (Call c) → s.slot.next ≡ Some n → Q n.cell (Call c)
    pub routes : (r : RealView) (bs : Option Boundaries) (j : ℕ) → i ≡ Some (Hand r bs) → cell_count ≤ j → j < cell_count + h.settings.bases
        → Q j (Current r.entity h.me r.generation)
    pub updates : (x : ℕ) (u : UpdateData) → Q (base_of h x) (Update u)

  one : (k : ℕ) (m : Msg) (p : ℕ × Msg) → Some (k, m) ≡ Some p → Q k m → Q p.0 p.1
  one k m p is x = let same : (k, m) ≡ p = cc in subst (λ y. Q y.0 y.1) same x

  cons_all : (o : Option (ℕ × Msg)) (ps : List (ℕ × Msg)) → ((p : ℕ × Msg) → o ≡ Some p → Q p.0 p.1) → AllSent Q ps →
      AllSent Q (cons_option o ps)
  cons_all None ps x more = more
  cons_all (Some p) ps x more = (x p refl, more)

  chosen_all : (g : ℕ → Option (ℕ × Msg)) (a len : ℕ) → ((k : ℕ) (p : ℕ × Msg) → k < a + len → g k ≡ Some p → Q p.0 p.1) →
      AllSent Q (filter_map g (range_with_len a len))
  chosen_all g a zero x = tt
  chosen_all g a (suc len) x =
      cons_all (g a) (filter_map g (range_with_len (a + 1) len)) (λ p is. x a p (omega arith) is)
      (chosen_all g (a + 1) len (λ k p lt is. x k p (omega (arith, lt)) is))

  module _ {h : Here} {t : Division} {e : ℕ} {s : AtCell} {i : Option Msg} (says : Says h t e s i) where
    told_by : (k x beat : ℕ) (c : GhostCopy) → k < cell_count → (now was changed : Bool) (p : ℕ × Msg) →
        told_unless false k (told x beat c now was changed) ≡ Some p → Q p.0 p.1
    told_by k x beat c low true false changed p is = one k (GhostSet x beat c) p is (says.sets k x beat c low)
    told_by k x beat c low true true true p is = one k (GhostSet x beat c) p is (says.sets k x beat c low)
    told_by k x beat c low true true false p is = cc
    told_by k x beat c low false true changed p is = one k (GhostDrop x beat) p is (says.drops k x beat low)
    told_by k x beat c low false false changed p is = cc

    ghost_by : (b : Bool) (k x beat : ℕ) (c : GhostCopy) → k < cell_count → (now was changed : Bool) (p : ℕ × Msg) →
        told_unless b k (told x beat c now was changed) ≡ Some p → Q p.0 p.1
    ghost_by true k x beat c low now was changed p is = cc
    ghost_by false k x beat c low now was changed p is = told_by k x beat c low now was changed p is

    drop_by : (b : Bool) (k x beat : ℕ) → k < cell_count → (p : ℕ × Msg) → drop_if b k (GhostDrop x beat) ≡ Some p → Q p.0 p.1
    drop_by true k x beat low p is = one k (GhostDrop x beat) p is (says.drops k x beat low)
    drop_by false k x beat low p is = cc

    ghosts_all : (q : RealView) (j : ℕ) (haunts : Cells) (changed : Bool) → AllSent Q (ghost_messages h q j haunts changed)
    ghosts_all q j haunts changed =
        chosen_all (ghost_message h q j haunts changed) 0 cell_count
        (λ k p lt is. ghost_by ((k == h.me) || (k == j)) k q.entity (q.beat + 1) (copy_of_real h q) (omega (arith, lt))
        (set.contains haunts k) (set.contains q.haunts k) changed p is)

    drops_all : (r : RealView) → AllSent Q (drops r)
    drops_all r =
        chosen_all (drop_at r) 0 cell_count
        (λ k p lt is. drop_by (set.contains r.haunts k) k r.entity (r.beat + 1) (omega (arith, lt)) p is)

    numbered_all : (x n : ℕ) (ss : List Shown) → AllSent Q (numbered (base_of h x) x n ss)
    numbered_all x n [] = tt
    numbered_all x n (u ∷ us) = (says.updates x _, numbered_all x (n + 1) us)

    is_sent : {sent : List (ℕ × Msg)} (l : List (ℕ × Msg)) → sent ≡ l → AllSent Q l → AllSent Q sent
    is_sent l is all = subst (AllSent Q) (sym is) all

    pub cell_says : {v : AtCell} {sent : List (ℕ × Msg)} → CellDeeds h t e s i v sent → AllSent Q sent
    cell_says (idles same none) = is_sent _ none tt
    cell_says (stays u r q changed has own acts at d) =
        is_sent _ d.sends (ghosts_all q h.me (haunts_at h t q.state.pos h.me q.haunts) changed)
    cell_says (goes u r q changed j has own acts at n d) =
        is_sent _ d.sends
        (all_append (λ p. Q p.0 p.1) (ghost_messages h q j (haunts_at h t q.state.pos j (set.insert q.haunts h.me)) changed) _
        (ghosts_all q j _ changed) (says.hands u r q changed j has acts at, tt))
    cell_says (holds c r n own has mine may lt d) = is_sent _ d.sends tt
    cell_says (passes c p n own has at d) = is_sent _ d.sends (says.calls c p n at, tt)
    cell_says (lands r bs n own has may d) =
        is_sent _ d.sends (mapped_all Q (current_to h r) cell_count h.settings.bases (λ b le lt. says.routes r bs b n le lt))
    cell_says (reaped r n has own may d) = is_sent _ d.sends (drops_all r)
    cell_says (looks n r w known is at has own seen small d) = is_sent _ d.sends (numbered_all r.entity w.sent (shown_of h r w known))

-- eyes that see nothing but calls, and whether they see those
pub plain_says : {L : Type 0} (mine : Msg → Option L) (h : Here) (t : Division) (e : ℕ) (s : AtCell) (i : Option Msg) →
    ((x beat : ℕ) (c : GhostCopy) → mine (GhostSet x beat c) ≡ None) → ((x beat : ℕ) → mine (GhostDrop x beat) ≡ None) →
    ((r : RealView) → mine (Hand r None) ≡ None) → ((c : CallData) → mine (Call c) ≡ None) → ((x j g : ℕ) → mine (Current x j g) ≡ None) →
    ((u : UpdateData) → mine (Update u) ≡ None) → Says (λ j m. mine m ≡ None) h t e s i
plain_says mine h t e s i sets drops hands calls routes updates = record {
  sets = λ j x beat c low. sets x beat c;
  drops = λ j x beat low. drops x beat;
  hands = λ u r q changed j has acts at. hands _;
  calls = λ c n is at. calls c;
  routes = λ r bs j is le lt. routes r.entity h.me r.generation;
  updates = λ x u. updates u;
}
