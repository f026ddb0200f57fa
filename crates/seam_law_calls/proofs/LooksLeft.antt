-- How often a witness may look never rises, and falls where it looks.
use Rattle.seam_law_calls.proofs.Prelude.{◌≡◌, ℕ, ◌+◌, ◌≤◌, Bool, true, false, List, [], ◌∷◌, map, length, cond, Option, None, refl, ap}
use Rattle.seam_law_calls.proofs.Prelude.{◌∙◌, arith, inl, inr, range_with_len, Division, cells_of, happens, total, Occurs, Event, Shown}
use Rattle.seam_law_calls.proofs.Prelude.{RealView, Msg, Tick, Here, cell_count, SlotStep, tick_to, Known, numbered, World, node_steps}
use Rattle.seam_law_calls.proofs.Prelude.{letter_in, IsSilent, Frame, here_at, IsInFrame, Has, AtCell, AtBase, mine, concerning, has_of}
use Rattle.seam_law_calls.proofs.Prelude.{unlisted_if, Does, Acts, surveys, CellMoves, BaseMoves, Moves, at_a_cell, at_a_base, tick_in}
use Rattle.seam_law_calls.proofs.Prelude.{order_looks, node_looks, mine_looks, looks_left, weight_or, sound_sends, weight_moves}
use Rattle.std.proofs.lemmas.List.FromFn.{length-range_with_len}
use Rattle.seam_law_calls.specs.Prelude.{has_witness}
use Rattle.seam_law_calls.proofs.CellDeeds as deed
use Rattle.seam_law_calls.proofs.CellDeeds.{CellDeeds, cell_deeds}
use Rattle.seam_law_calls.proofs.Classify.{node_laws, node_moves}
use Rattle.seam_law_calls.proofs.Easing.{sent_is, event_eases}
use Rattle.seam_law_calls.proofs.Paying.{OrdersPay, base_paid}
use Rattle.seam_law_calls.proofs.NoLooks.{ticks_silent}
use Rattle.seam_law_calls.specs.Telling.{letter_looks, has_looks}
use Rattle.seam_law_calls.proofs.Looking.{LooksAt}
use Rattle.seam_law_calls.proofs.Classify.{fed_plain}

-- ---- what is sent

abbrev sent_looks : List (ℕ × Msg) → ℕ
sent_looks ps = total (λ p. letter_looks p.1) ps

light_by : (m : Msg) → tick_in m ≡ None → letter_looks m ≡ 0
light_by Tick h = cc
light_by _ h = refl

light : (ps : List (ℕ × Msg)) → IsSilent tick_in ps → sent_looks ps ≡ 0
light [] h = refl
light (p ∷ ps) h = let one = light_by p.1 h.0 in let more = light ps h.1 in omega (arith, one, more)

numbered_light : (b e n : ℕ) (us : List Shown) → sent_looks (numbered b e n us) ≡ 0
numbered_light b e n [] = refl
numbered_light b e n (u ∷ us) = let more = numbered_light b e (n + 1) us in omega (arith, more)

ticks_weigh : (js : List ℕ) → sent_looks (map tick_to js) ≡ length js
ticks_weigh [] = refl
ticks_weigh (j ∷ js) = let more = ticks_weigh js in omega (arith, more)

-- ---- a move

module _ (f : Frame) (e k : ℕ) (s : Has) (i : Option Msg) (t : Has) (sent : List (ℕ × Msg)) where
  abbrev came : ℕ
  came = weight_or letter_looks i

  abbrev Eased : Type 0
  Eased = has_looks t + sent_looks sent ≤ has_looks s + came

  unlisted_less : (b : Bool) (n : ℕ) → unlisted_if b n ≤ n
  unlisted_less true n = omega arith
  unlisted_less false n = omega arith

  module _ (same : t.base ≡ s.base) where
    cell_by : t.cell.looks + sent_looks sent ≤ s.cell.looks + came → Eased
    cell_by less = let orders = ap (λ (b : AtBase). total order_looks b.orders) same in omega (arith, less, orders)

    acts_keep : (u : AtCell) (r q : RealView) (changed : Bool) → Acts (here_at f k) e s.cell i r u q changed → u.looks ≤ s.cell.looks
    acts_keep u r q changed (surveys n a b c) = omega arith
    acts_keep u r q changed _ = omega arith

    module _ {tree : Division} (m : CellMoves (here_at f k) tree e s.cell i t.cell sent) where
      cell_step : t.cell.looks ≤ s.cell.looks → Eased
      cell_step less = let none = light sent (ticks_silent m) in cell_by (omega (arith, less, none))

      now : (x : SlotStep) (u : AtCell) → Does u x t.cell sent → u.looks ≤ s.cell.looks → Eased
      now x u d few =
          let is = ap (λ (c : AtCell). c.looks) d.state in
          let less = unlisted_less x.unlisted u.looks in
          cell_step (omega (arith, is, less, few))

      once : (b : Bool) → cond {A = ℕ} b 1 0 ≤ 1
      once true = omega arith
      once false = omega arith

      eases : CellDeeds (here_at f k) tree e s.cell i t.cell sent → Eased
      eases (deed.idles a z) = elim a.looks [
        | inl le ↦ cell_step le
        | inr tick ↦
            let is = tick.1 in
            let one = once (has_witness s.cell.slot.real) in
            let pay = ap (weight_or letter_looks) tick.0 in
            let none = ap sent_looks z in
            cell_by (omega (arith, is, one, pay, none))
      ]
      eases (deed.stays u r q changed has own acts at d) = now _ u d (acts_keep u r q changed acts)
      eases (deed.goes u r q changed j has own acts at n d) = now _ u d (acts_keep u r q changed acts)
      eases (deed.holds c r n own has mine may lt d) = now _ s.cell d (omega arith)
      eases (deed.passes c p n own has at d) = now _ s.cell d (omega arith)
      eases (deed.lands r bs n own has may d) = now _ s.cell d (omega arith)
      eases (deed.reaped r n has own may d) = now _ s.cell d (omega arith)
      eases (deed.looks n r w known h at has own v small d) = now _ _ d (omega (arith, at))

      cell_eases : Eased
      cell_eases = eases (cell_deeds m)

  base_eases : (cells : ℕ) → cells ≤ cell_count → t.cell ≡ s.cell → BaseMoves (here_at f k) cells e s.base i t.base sent → Eased
  base_eases cells most same m =
      let many = ticks_weigh (range_with_len 0 cells) in
      let len = length-range_with_len 0 cells in
      let pays : OrdersPay order_looks letter_looks cells = record {
        calls = λ c. omega arith;
        base_calls = λ c. omega arith;
        ticks = omega (arith, many, len, most);
        reaps = λ e. omega arith;
      } in
      let paid = base_paid order_looks letter_looks cells pays (here_at f k) e s.base i t.base sent m in
      let looks = ap (λ (c : AtCell). c.looks) same in
      omega (arith, looks, paid)

  move_eases : cells_of f.tree ≤ cell_count → Moves f e k s i t sent → Eased
  move_eases most (at_a_cell tree of low m same) = cell_eases same m
  move_eases most (at_a_base high m same) = base_eases _ most same m

-- ---- an event

module _ (f : Frame) (most : cells_of f.tree ≤ cell_count) (e : ℕ) (w : World) (v : Event) (o : Occurs w v) (q : IsInFrame f w) where
  abbrev s : Has
  s = has_of e o.node

  abbrev t : Has
  t = has_of e (node_steps o.node o.input).state

  abbrev sent : List (ℕ × Msg)
  sent = concerning e (node_steps o.node o.input).sent

  -- it never rises
  pub looks_left_happens : looks_left e (happens node_steps w v) ≤ looks_left e w
  looks_left_happens =
      event_eases has_looks letter_looks e f w v o q
      (move_eases f e v.node s (letter_in (mine e) o.input) t sent most
      (node_moves f e v.node o.node o.input (q.sound.states v.node o.node o.is_node) (q.nodes v.node o.node o.is_node)
      (fed_plain f w v o q)))

  -- and falls where the witness looks
  pub looks_left_falls : (b : ℕ) (h : Here) (known : List Known) → s.base.orders ≡ [] → t.base.orders ≡ [] →
      LooksAt b e h known s.cell t.cell sent → looks_left e (happens node_steps w v) + 1 ≤ looks_left e w
  looks_left_falls b h known none_was none_is l =
      let a = weight_moves (node_looks e) (mine_looks e) node_steps w v o q.sound.square (sound_sends node_laws w v o q.sound) in
      let sends = sent_is letter_looks e (node_steps o.node o.input).sent in
      let nothing = ap sent_looks l.tells ∙ numbered_light b e l.witness.sent _ in
      let taken = l.taken in
      let was = ap (total order_looks) none_was in
      let is = ap (total order_looks) none_is in
      omega (arith, a, sends, nothing, taken, was, is)
