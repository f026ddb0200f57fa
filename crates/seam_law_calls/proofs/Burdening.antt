-- No move raises what is yet to do.
use Rattle.seam_law_calls.proofs.Prelude.{◌≡◌, ℕ, ◌+◌, ◌*◌, ◌≤◌, Bool, List, [], ◌∷◌, map, Option, None, Some, refl, ap, ◌∙◌, arith}
use Rattle.seam_law_calls.proofs.Prelude.{range_with_len, Division, rank_of, total, RealView, Msg, Hand, Reap, base_numbers, base_of}
use Rattle.seam_law_calls.proofs.Prelude.{SlotStep, slot_after, haunts_at, ghost_messages, beat_after, settled_to, current_to, shown_of}
use Rattle.seam_law_calls.proofs.Prelude.{looks_with, tick_to, IsSilent, Frame, here_at, Has, AtCell, unlisted_if, Does, Acts, surveys}
use Rattle.seam_law_calls.proofs.Prelude.{calls, readies, BaseMoves, Moves, at_a_cell, at_a_base, held_in, real_burden, order_burden}
use Rattle.seam_law_calls.proofs.Prelude.{letter_burden, has_burden, weight_or}
use Rattle.std.specs.FinSet as set
use Rattle.seam_machine.proofs.Totals.{total-push}
use Rattle.seam_entity.specs.declared.message.Msg.TheVariants.{Call}
use Rattle.seam_node_steps.specs.Settle as settle
use Rattle.seam_law_calls.proofs.CellDeeds as deed
use Rattle.seam_law_calls.proofs.CellDeeds.{CellDeeds, cell_deeds}
use Rattle.seam_law_calls.proofs.Plain.{SeesNoGhost, ghosts_silent, drops_silent, mapped_silent, numbered_silent}
use Rattle.seam_law_calls.proofs.Paying.{OrdersPay, base_paid}
use Rattle.seam_law_calls.proofs.HeldCounts.{turn_counts, early_counts, taken_counts}
use Rattle.seam_node_steps.specs.Prelude.{at_start}

-- eyes that see what weighs something
abbrev heavy : Msg → Option ℕ
heavy (Call c) = Some 0
heavy (Hand r bs) = Some 0
heavy (Reap e) = Some 0
heavy _ = None

light : (m : Msg) → heavy m ≡ None → letter_burden m ≡ 0
light (Call c) h = cc
light (Hand r bs) h = cc
light (Reap e) h = cc
light _ h = refl

abbrev pub sent_burden : List (ℕ × Msg) → ℕ
sent_burden ps = total (λ p. letter_burden p.1) ps

light_sent : (ps : List (ℕ × Msg)) → IsSilent heavy ps → sent_burden ps ≡ 0
light_sent [] h = refl
light_sent (p ∷ ps) h = let one = light p.1 h.0 in let more = light_sent ps h.1 in omega (arith, one, more)

no_ghosts : SeesNoGhost heavy
no_ghosts = record { sets = λ e n c. refl; drops = λ e n. refl }

beat_rises : (l : List (ℕ × Msg)) (beat : ℕ) → beat_after l beat ≤ beat + 1
beat_rises [] beat = omega arith
beat_rises (m ∷ ms) beat = omega arith

abbrev came : Option Msg → ℕ
came i = weight_or letter_burden i

module _ (f : Frame) (e k : ℕ) (s : Has) (i : Option Msg) (t : Has) (sent : List (ℕ × Msg)) where
  abbrev pub Eased : Type 0
  Eased = has_burden t + sent_burden sent ≤ has_burden s + came i

  abbrev orders_of : Has → ℕ
  orders_of x = total order_burden x.base.orders

  -- why a real settles has paid for a call and for a settling
  record Pays (u : AtCell) (r q : RealView) : Type 0 where
    beat : q.beat ≡ r.beat
    generation : q.generation ≡ r.generation
    paid : q.version + (3 * held_in q.orders + 2 * u.survey) + 2 ≤ r.version + (3 * held_in r.orders + 2 * s.cell.survey) + came i

  pays : (u : AtCell) (r q : RealView) (changed : Bool) → Acts (here_at f k) e s.cell i r u q changed → Pays u r q
  pays u r q changed (surveys n a b c) = record { beat = refl; generation = refl; paid = omega (arith, b) }
  pays u r q changed (calls c a b d g) =
      let same = turn_counts r.orders (rank_of c.sender) c.number c g in
      let pay = ap came a in
      record { beat = refl; generation = refl; paid = omega (arith, same, pay) }
  pays u r q changed (readies o c a b d g) =
      let less = taken_counts r.orders o c d g in
      record { beat = refl; generation = refl; paid = omega (arith, less) }

  module _ (x : SlotStep) (u : AtCell) (d : Does u x t.cell sent) where
    real_is : weight_or real_burden t.cell.slot.real ≡ weight_or real_burden (slot_after x.slot u.slot).real
    real_is = ap (λ a. weight_or real_burden a.slot.real) d.state

    survey_is : t.cell.survey ≡ unlisted_if x.unlisted u.survey
    survey_is = ap (λ a. a.survey) d.state

    sent_is : IsSilent heavy x.sent → sent_burden sent ≡ 0
    sent_is h = ap sent_burden d.sends ∙ light_sent x.sent h

  had : (r : RealView) → s.cell.slot.real ≡ Some r → weight_or real_burden s.cell.slot.real ≡ real_burden r
  had r has = ap (weight_or real_burden) has

  base_is : t.base ≡ s.base → orders_of t ≡ orders_of s
  base_is h = ap (λ b. total order_burden b.orders) h

  stays_eased : (tree : Division) (u : AtCell) (r q : RealView) (changed : Bool) → s.cell.slot.real ≡ Some r →
      Acts (here_at f k) e s.cell i r u q changed →
      Does u (settle.stays (here_at f k) tree s.cell.slot q changed) t.cell sent → t.base ≡ s.base → Eased
  stays_eased tree u r q changed has acts d same =
      let haunts = haunts_at (here_at f k) tree q.state.pos k q.haunts in
      let told = ghost_messages (here_at f k) q k haunts changed in
      let a = real_is (settle.stays (here_at f k) tree s.cell.slot q changed) u d in
      let b = survey_is (settle.stays (here_at f k) tree s.cell.slot q changed) u d in
      let c = sent_is (settle.stays (here_at f k) tree s.cell.slot q changed) u d
      (ghosts_silent heavy no_ghosts (here_at f k) q k haunts changed) in
      let z = base_is same in
      let p = pays u r q changed acts in
      let pb = p.beat in
      let pg = p.generation in
      let pp = p.paid in
      let up = beat_rises told q.beat in
      let was = had r has in
      omega (arith, a, b, c, z, pb, pg, pp, up, was)

  goes_eased : (tree : Division) (u : AtCell) (r q : RealView) (changed : Bool) (j : ℕ) → s.cell.slot.real ≡ Some r →
      Acts (here_at f k) e s.cell i r u q changed → Does u (settle.goes (here_at f k) (at_start tree) s.cell.slot q changed j) t.cell sent →
      t.base ≡ s.base → Eased
  goes_eased tree u r q changed j has acts d same =
      let haunts = haunts_at (here_at f k) tree q.state.pos j (set.insert q.haunts k) in
      let told = ghost_messages (here_at f k) q j haunts changed in
      let gone = settled_to q haunts (q.beat + 1) (q.generation + 1) in
      let a = real_is (settle.goes (here_at f k) (at_start tree) s.cell.slot q changed j) u d in
      let b = survey_is (settle.goes (here_at f k) (at_start tree) s.cell.slot q changed j) u d in
      let c : sent_burden sent ≡ sent_burden told + real_burden gone =
      ap sent_burden d.sends ∙ total-push (λ p. letter_burden p.1) told (j, Hand gone None) in
      let none = light_sent told (ghosts_silent heavy no_ghosts (here_at f k) q j haunts changed) in
      let z = base_is same in
      let p = pays u r q changed acts in
      let pb = p.beat in
      let pg = p.generation in
      let pp = p.paid in
      let was = had r has in
      omega (arith, a, b, c, none, z, pb, pg, pp, was)

  cell_eased : {tree : Division} → CellDeeds (here_at f k) tree e s.cell i t.cell sent → t.base ≡ s.base → Eased
  cell_eased (deed.idles x none) same =
      let a = ap (weight_or real_burden) x.real in
      let b = x.survey in
      let g = ap sent_burden none in
      let z = base_is same in
      omega (arith, a, b, g, z)
  cell_eased {tree} (deed.stays u r q changed has own acts at d) same = stays_eased tree u r q changed has acts d same
  cell_eased {tree} (deed.goes u r q changed j has own acts at n d) same = goes_eased tree u r q changed j has acts d same
  cell_eased (deed.holds c r n is has own may lt d) same =
      let a = real_is _ s.cell d in
      let b = survey_is _ s.cell d in
      let g = sent_is _ s.cell d tt in
      let z = base_is same in
      let was = had r has in
      let more = early_counts r.orders (rank_of c.sender) c.number c lt in
      let pay = ap came n in
      omega (arith, a, b, g, z, was, more, pay)
  cell_eased (deed.passes c p n is has at d) same =
      let a = real_is _ s.cell d in
      let b = survey_is _ s.cell d in
      let g = ap sent_burden d.sends in
      let z = base_is same in
      let pay = ap came n in
      omega (arith, a, b, g, z, pay)
  cell_eased (deed.lands r bs n is has may d) same =
      let a = real_is _ s.cell d in
      let b = survey_is _ s.cell d in
      let g = sent_is _ s.cell d (mapped_silent heavy (current_to (here_at f k) r) (λ b. refl) (base_numbers (here_at f k))) in
      let z = base_is same in
      let pay = ap came n in
      omega (arith, a, b, g, z, pay)
  cell_eased (deed.reaped r n has own may d) same =
      let a = real_is _ s.cell d in
      let b = survey_is _ s.cell d in
      let g = sent_is _ s.cell d (drops_silent heavy no_ghosts r) in
      let z = base_is same in
      omega (arith, a, b, g, z)
  cell_eased (deed.looks n r w known h at has own is small d) same =
      let x = looks_with (here_at f k) s.cell.slot r w known (shown_of (here_at f k) r w known) in
      let a = real_is x _ d in
      let b = survey_is x _ d in
      let g = sent_is x _ d (numbered_silent heavy (base_of (here_at f k) r.entity) r.entity w.sent _ (λ u. refl)) in
      let z = base_is same in
      let was = had r has in
      omega (arith, a, b, g, z, was)

  -- ---- a base node: orders may go, and what was ordered is sent

  base_eased : (cells : ℕ) → BaseMoves (here_at f k) cells e s.base i t.base sent → t.cell ≡ s.cell → Eased
  base_eased cells m same =
      let none =
      light_sent (map tick_to (range_with_len 0 cells)) (mapped_silent heavy tick_to (λ j. refl) (range_with_len 0 cells)) in
      let pays : OrdersPay order_burden letter_burden cells = record {
        calls = λ c. omega arith;
        base_calls = λ c. omega arith;
        ticks = omega (arith, none);
        reaps = λ e. omega arith;
      } in
      let paid = base_paid order_burden letter_burden cells pays (here_at f k) e s.base i t.base sent m in
      let a = ap (λ c. weight_or real_burden c.slot.real) same in
      let b = ap (λ c. c.survey) same in
      omega (arith, a, b, paid)

  -- no move raises it
  pub eased : Moves f e k s i t sent → Eased
  eased (at_a_cell tree of low m same) = cell_eased (cell_deeds m) same
  eased (at_a_base high m same) = base_eased _ m same
