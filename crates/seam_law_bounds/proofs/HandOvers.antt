-- A real is handed over at most once for each of its calls, and once more.
use Rattle.seam_law_bounds.proofs.Prelude.{◌≡◌, ℕ, ◌+◌, ◌≤◌, Bool, true, false, cond, ◌&&◌, List, [], ◌∷◌, map, Option, None, Some, refl}
use Rattle.seam_law_bounds.proofs.Prelude.{ap, ◌∙◌, arith, is_some, is_none, range_with_len, Division, happens, AllEnabled, Occurs, total}
use Rattle.seam_law_bounds.proofs.Prelude.{Event, rank_of, RealView, Msg, Hand, Reap, base_numbers, base_of, settled_to, SlotStep}
use Rattle.seam_law_bounds.proofs.Prelude.{slot_after, haunts_at, ghost_messages, current_to, shown_of, looks_with, tick_to, NodeView}
use Rattle.seam_law_bounds.proofs.Prelude.{World, node_steps, node_has_work, letter_in, slot_at, IsSilent, Frame, here_at, IsInFrame, Has}
use Rattle.seam_law_bounds.proofs.Prelude.{AtCell, AtBase, mine, concerning, has_of, has_none, unlisted_if, Does, Acts, calls, readies}
use Rattle.seam_law_bounds.proofs.Prelude.{CellMoves, BaseMoves, Moves, at_a_cell, at_a_base, held_in, real_in, IsSpared, real_at}
use Rattle.seam_law_bounds.proofs.Prelude.{hands_over, hand_overs, one_if_cell, occurs, node_here, total-push, weight_or, weight}
use Rattle.seam_law_bounds.proofs.Prelude.{sound_sends, weight_moves, node_laws, node_moves, frame_happens, sent_is as all_sent, input_is}
use Rattle.seam_law_bounds.proofs.Prelude.{SeesNoGhost, ghosts_silent, mapped_silent, numbered_silent, turn_counts, early_counts}
use Rattle.seam_law_bounds.proofs.Prelude.{taken_counts, calm_of, spared_happens}
use Rattle.std.specs.FinSet as set
use Rattle.seam_law_calls.specs.Prelude.{surveys}
use Rattle.seam_entity.specs.declared.message.Msg.TheVariants.{Call}
use Rattle.seam_node_steps.specs.Settle as settle
use Rattle.seam_law_calls.proofs.CellDeeds as deed
use Rattle.seam_law_calls.proofs.CellDeeds.{CellDeeds, cell_deeds}
use Rattle.seam_law_calls.proofs.Paying.{OrdersPay, base_paid}
use Rattle.seam_law_calls.proofs.Classify.{fed_plain}
use Rattle.seam_node_steps.specs.Prelude.{at_start}

-- eyes that see what may bring a settling
abbrev heavy : Msg → Option ℕ
heavy (Call c) = Some 0
heavy (Hand r bs) = Some 0
heavy _ = None

abbrev pub letter_left : Msg → ℕ
letter_left (Call c) = 1
letter_left (Hand r bs) = held_in r.orders
letter_left _ = 0

light : (m : Msg) → heavy m ≡ None → letter_left m ≡ 0
light (Call c) h = cc
light (Hand r bs) h = cc
light _ h = refl

-- the calls that a real holds
abbrev pub real_left : RealView → ℕ
real_left r = held_in r.orders

-- how often the entity may yet settle by what a node has of it
abbrev pub has_left : Has → ℕ
has_left s = weight_or real_left s.cell.slot.real + (s.cell.survey + total one_if_cell s.base.orders)

abbrev sent_left : List (ℕ × Msg) → ℕ
sent_left ps = total (λ p. letter_left p.1) ps

light_sent : (ps : List (ℕ × Msg)) → IsSilent heavy ps → sent_left ps ≡ 0
light_sent [] h = refl
light_sent (p ∷ ps) h = let one = light p.1 h.0 in let more = light_sent ps h.1 in omega (arith, one, more)

no_ghosts : SeesNoGhost heavy
no_ghosts = record { sets = λ e n c. refl; drops = λ e n. refl }

abbrev came : Option Msg → ℕ
came i = weight_or letter_left i

-- 1 where the real was there and is not any more
abbrev gone_by : Option RealView → Option RealView → ℕ
gone_by s t = cond {A = ℕ} (is_some s && is_none t) 1 0

gone_most : (b : Bool) → cond {A = ℕ} b 1 0 ≤ 1
gone_most true = omega arith
gone_most false = omega arith

gone_same : (o : Option RealView) → gone_by o o ≡ 0
gone_same None = refl
gone_same (Some r) = refl

gone_some : (s t : Option RealView) (q : RealView) → t ≡ Some q → gone_by s t ≡ 0
gone_some None t q is = refl
gone_some (Some r) None q is = cc
gone_some (Some r) (Some x) q is = refl

module _ (f : Frame) (e k : ℕ) (s : Has) (i : Option Msg) (t : Has) (sent : List (ℕ × Msg)) (calm : i ≡ Some (Reap e) → ⊥) where
  abbrev gone : ℕ
  gone = gone_by (real_in s) (real_in t)

  abbrev Lowers : Type 0
  Lowers = has_left t + sent_left sent + gone ≤ has_left s + came i

  abbrev orders_left : Has → ℕ
  orders_left x = total one_if_cell x.base.orders

  -- why a real settles has been paid for
  pays : (u : AtCell) (r q : RealView) (changed : Bool) → Acts (here_at f k) e s.cell i r u q changed →
      real_left q + u.survey + 1 ≤ real_left r + s.cell.survey + came i
  pays u r q changed (surveys n a b c) = omega (arith, b)
  pays u r q changed (calls c a b d g) =
      let same = turn_counts r.orders (rank_of c.sender) c.number c g in
      let pay = ap came a in
      omega (arith, same, pay)
  pays u r q changed (readies o c a b d g) = let less = taken_counts r.orders o c d g in omega (arith, less)

  fewer : (b : Bool) (n : ℕ) → unlisted_if b n ≤ n
  fewer true n = omega arith
  fewer false n = omega arith

  had : (r : RealView) → s.cell.slot.real ≡ Some r → weight_or real_left s.cell.slot.real ≡ real_left r
  had r has = ap (weight_or real_left) has

  base_is : t.base ≡ s.base → orders_left t ≡ orders_left s
  base_is h = ap (λ (b : AtBase). total one_if_cell b.orders) h

  module _ (x : SlotStep) (u : AtCell) (d : Does u x t.cell sent) where
    real_is : weight_or real_left t.cell.slot.real ≡ weight_or real_left (slot_after x.slot u.slot).real
    real_is = ap (λ (a : AtCell). weight_or real_left a.slot.real) d.state

    now : real_in t ≡ (slot_after x.slot u.slot).real
    now = ap (λ (a : AtCell). a.slot.real) d.state

    survey_is : t.cell.survey ≤ u.survey
    survey_is = let a = ap (λ (a : AtCell). a.survey) d.state in let b = fewer x.unlisted u.survey in omega (arith, a, b)

    sent_is : IsSilent heavy x.sent → sent_left sent ≡ 0
    sent_is h = ap sent_left d.sends ∙ light_sent x.sent h

  stays_lowers : (tree : Division) (u : AtCell) (r q : RealView) (changed : Bool) → s.cell.slot.real ≡ Some r →
      Acts (here_at f k) e s.cell i r u q changed →
      Does u (settle.stays (here_at f k) tree s.cell.slot q changed) t.cell sent → t.base ≡ s.base → Lowers
  stays_lowers tree u r q changed has acts d base =
      let x = settle.stays (here_at f k) tree s.cell.slot q changed in
      let haunts = haunts_at (here_at f k) tree q.state.pos k q.haunts in
      let a = real_is x u d in
      let b = survey_is x u d in
      let c = sent_is x u d (ghosts_silent heavy no_ghosts (here_at f k) q k haunts changed) in
      let z = base_is base in
      let g = gone_some (real_in s) (real_in t) _ (now x u d) in
      let p = pays u r q changed acts in
      let was = had r has in
      omega (arith, a, b, c, z, g, p, was)

  goes_lowers : (tree : Division) (u : AtCell) (r q : RealView) (changed : Bool) (j : ℕ) → s.cell.slot.real ≡ Some r →
      Acts (here_at f k) e s.cell i r u q changed → Does u (settle.goes (here_at f k) (at_start tree) s.cell.slot q changed j) t.cell sent →
      t.base ≡ s.base → Lowers
  goes_lowers tree u r q changed j has acts d base =
      let x = settle.goes (here_at f k) (at_start tree) s.cell.slot q changed j in
      let haunts = haunts_at (here_at f k) tree q.state.pos j (set.insert q.haunts k) in
      let told = ghost_messages (here_at f k) q j haunts changed in
      let left = settled_to q haunts (q.beat + 1) (q.generation + 1) in
      let a = real_is x u d in
      let b = survey_is x u d in
      let c : sent_left sent ≡ sent_left told + real_left left =
      ap sent_left d.sends ∙ total-push (λ p. letter_left p.1) told (j, Hand left None) in
      let none = light_sent told (ghosts_silent heavy no_ghosts (here_at f k) q j haunts changed) in
      let z = base_is base in
      let g = gone_most (is_some (real_in s) && is_none (real_in t)) in
      let p = pays u r q changed acts in
      let was = had r has in
      omega (arith, a, b, c, none, z, g, p, was)

  cell_lowers : {tree : Division} → CellDeeds (here_at f k) tree e s.cell i t.cell sent → t.base ≡ s.base → Lowers
  cell_lowers (deed.idles x none) base =
      let a = ap (weight_or real_left) x.real in
      let b = x.survey in
      let c = ap sent_left none in
      let z = base_is base in
      let g = ap (gone_by (real_in s)) x.real ∙ gone_same (real_in s) in
      omega (arith, a, b, c, z, g)
  cell_lowers {tree} (deed.stays u r q changed has own acts at d) base = stays_lowers tree u r q changed has acts d base
  cell_lowers {tree} (deed.goes u r q changed j has own acts at n d) base = goes_lowers tree u r q changed j has acts d base
  cell_lowers (deed.holds c r n is has own may lt d) base =
      let a = real_is _ s.cell d in
      let b = survey_is _ s.cell d in
      let x = sent_is _ s.cell d tt in
      let z = base_is base in
      let g = gone_some (real_in s) (real_in t) _ (now _ s.cell d) in
      let was = had r has in
      let more = early_counts r.orders (rank_of c.sender) c.number c lt in
      let pay = ap came n in
      omega (arith, a, b, x, z, g, was, more, pay)
  cell_lowers (deed.passes c p n is has at d) base =
      let a = real_is _ s.cell d in
      let b = survey_is _ s.cell d in
      let x = ap sent_left d.sends in
      let z = base_is base in
      let g = ap (gone_by (real_in s)) (now _ s.cell d) ∙ gone_same (real_in s) in
      let pay = ap came n in
      omega (arith, a, b, x, z, g, pay)
  cell_lowers (deed.lands r bs n is has may d) base =
      let a = real_is _ s.cell d in
      let b = survey_is _ s.cell d in
      let x = sent_is _ s.cell d (mapped_silent heavy (current_to (here_at f k) r) (λ b. refl) (base_numbers (here_at f k))) in
      let z = base_is base in
      let g = gone_some (real_in s) (real_in t) _ (now _ s.cell d) in
      let pay = ap came n in
      omega (arith, a, b, x, z, g, pay)
  cell_lowers (deed.reaped r n has own may d) base = absurd (calm n)
  cell_lowers (deed.looks n r w known h at has own is small d) base =
      let x = looks_with (here_at f k) s.cell.slot r w known (shown_of (here_at f k) r w known) in
      let u : AtCell = record { slot = s.cell.slot; survey = s.cell.survey; looks = n } in
      let a = real_is x u d in
      let b = survey_is x u d in
      let y = sent_is x u d (numbered_silent heavy (base_of (here_at f k) r.entity) r.entity w.sent _ (λ u. refl)) in
      let z = base_is base in
      let g = gone_some (real_in s) (real_in t) _ (now x u d) in
      let was = had r has in
      omega (arith, a, b, y, z, g, was)

  -- ---- a base node: orders may go, and what was ordered is sent

  base_lowers : (cells : ℕ) → BaseMoves (here_at f k) cells e s.base i t.base sent → t.cell ≡ s.cell → Lowers
  base_lowers cells m same =
      let none =
      light_sent (map tick_to (range_with_len 0 cells)) (mapped_silent heavy tick_to (λ j. refl) (range_with_len 0 cells)) in
      let pays : OrdersPay one_if_cell letter_left cells = record {
        calls = λ c. omega arith;
        base_calls = λ c. omega arith;
        ticks = omega (arith, none);
        reaps = λ e. omega arith;
      } in
      let paid = base_paid one_if_cell letter_left cells pays (here_at f k) e s.base i t.base sent m in
      let a = ap (λ (c : AtCell). weight_or real_left c.slot.real) same in
      let b = ap (λ (c : AtCell). c.survey) same in
      let g = ap (gone_by (real_in s)) (ap (λ (c : AtCell). c.slot.real) same) ∙ gone_same (real_in s) in
      omega (arith, a, b, g, paid)

  pub move_lowers : Moves f e k s i t sent → Lowers
  move_lowers (at_a_cell tree of low m same) = cell_lowers (cell_deeds m) same
  move_lowers (at_a_base high m same) = base_lowers _ m same

-- ---- a world

module _ (e : ℕ) where
  abbrev pub node_left : NodeView → ℕ
  node_left n = has_left (has_of e n)

  abbrev pub mine_left : ℕ → Msg → ℕ
  mine_left k m = weight_or letter_left (mine e m)

  -- how often the entity may yet settle
  abbrev pub left : World → ℕ
  left w = weight node_left mine_left w

  -- an event that hands the real over lowers it, and none raises it
  hands_lower : (f : Frame) (w : World) (v : Event) (o : Occurs w v) → IsInFrame f w → IsSpared e w →
      left (happens node_steps w v) + cond {A = ℕ} (hands_over e w v) 1 0 ≤ left w
  hands_lower f w v o q spared =
      let a = weight_moves node_left mine_left node_steps w v o q.sound.square (sound_sends node_laws w v o q.sound) in
      let b = all_sent letter_left e (node_steps o.node o.input).sent in
      let c = input_is letter_left e v.node o.input in
      let low =
      move_lowers f e v.node (has_of e o.node) (letter_in (mine e) o.input) (has_of e (node_steps o.node o.input).state)
      (concerning e (node_steps o.node o.input).sent) (calm_of f e w v o q spared)
      (node_moves f e v.node o.node o.input (q.sound.states v.node o.node o.is_node) (q.nodes v.node o.node o.is_node)
      (fed_plain f w v o q)) in
      let was = ap (λ x. real_in (slot_at (has_of e) has_none x)) o.is_node in
      let now = ap (λ x. real_in (slot_at (has_of e) has_none x)) (node_here node_steps w v o) in
      let g = ap (λ x. gone_by x (real_at e (happens node_steps w v) v.node)) was
      ∙ ap (gone_by (real_in (has_of e o.node))) now in
      omega (arith, a, b, c, low, g)

  pub hands_few : (f : Frame) (w : World) (es : List Event) → IsInFrame f w → IsSpared e w → AllEnabled node_has_work node_steps w es →
      hand_overs e w es ≤ left w
  hands_few f w [] q spared on = omega arith
  hands_few f w (v ∷ es) q spared on =
      let o = occurs node_has_work w v on.0 in
      let one = hands_lower f w v o q spared in
      let more = hands_few f (happens node_steps w v) es (frame_happens f w v o q) (spared_happens f e w v o q spared) on.1 in
      omega (arith, one, more)
