-- No move raises what the base part has yet to do.
use Rattle.seam_law_calls.proofs.Prelude.{◌≡◌, ℕ, ◌+◌, ◌≤◌, List, [], ◌∷◌, length, Option, None, Some, refl, ap, arith, happens, Occurs}
use Rattle.seam_law_calls.proofs.Prelude.{total, Event, Call as CallData, rank_of, Msg, PartView, Here, World, node_steps, letter_in}
use Rattle.seam_law_calls.proofs.Prelude.{IsSilent, one_if, Frame, here_at, IsInFrame, AtBase, mine, concerning, has_of, base_call_in}
use Rattle.seam_law_calls.proofs.Prelude.{calls_ordered, called, Offered, now, early, late, PartMoves, rests, refuses, offers, sends}
use Rattle.seam_law_calls.proofs.Prelude.{serves, executes, misses, updates, shows, ends, part_burden, base_burden, weight_or}
use Rattle.seam_law_calls.proofs.Prelude.{has_base_burden, asks}
use Rattle.seam_law_calls.proofs.Classify.{node_moves}
use Rattle.seam_law_calls.proofs.Easing.{event_eases}
use Rattle.seam_law_calls.proofs.HeldCounts.{turn_counts, early_counts, taken_counts}
use Rattle.seam_law_calls.proofs.PartSteps.{part_moves}
use Rattle.seam_law_calls.proofs.Classify.{fed_plain}

abbrev sent_asks : List (ℕ × Msg) → ℕ
sent_asks ps = total (λ p. asks p.1) ps

light_sent : (ps : List (ℕ × Msg)) → IsSilent base_call_in ps → sent_asks ps ≡ 0
light_sent [] h = refl
light_sent (p ∷ ps) h = let one = ap one_if h.0 in let more = light_sent ps h.1 in omega (arith, one, more)

-- an offer pays with the call
offered_eases : (h : Here) (p : PartView) (c : CallData) (q : PartView) → Offered h p c q → part_burden q ≤ part_burden p + 1
offered_eases h p c q (now at is) =
    let same = turn_counts p.orders (rank_of c.sender) c.number c at in
    let a = ap part_burden is in
    omega (arith, same, a)
offered_eases h p c q (early lt is) =
    let more = early_counts p.orders (rank_of c.sender) c.number c lt in
    let a = ap part_burden is in
    omega (arith, more, a)
offered_eases h p c q (late lt is) = let a = ap part_burden is in omega (arith, a)

module _ (h : Here) (e : ℕ) (s : AtBase) (i : Option Msg) (t : AtBase) (sent : List (ℕ × Msg)) where
  abbrev came : ℕ
  came = one_if (called i)

  abbrev Eased : Type 0
  Eased = has_base_burden t + sent_asks sent ≤ has_base_burden s + came

  part_is : (o : Option PartView) → s.part ≡ o → weight_or part_burden s.part ≡ weight_or part_burden o
  part_is o is = ap (weight_or part_burden) is

  same_part : (p q : PartView) → s.part ≡ Some p → t.part ≡ Some q → calls_ordered t ≡ calls_ordered s → IsSilent base_call_in sent →
      part_burden q ≤ part_burden p → Eased
  same_part p q a b same z less =
      let was = part_is (Some p) a in
      let is = ap (weight_or part_burden) b in
      let few = ap length same in
      let none = light_sent sent z in
      omega (arith, was, is, few, none, less)

  part_eases : PartMoves h e s i t sent → Eased
  part_eases (rests n m same part z) =
      let a = ap length same in
      let b = ap (weight_or part_burden) part in
      let none = light_sent sent z in
      omega (arith, a, b, none)
  part_eases (refuses c n stray same z) = let a = ap has_base_burden same in let none = light_sent sent z in omega (arith, a, none)
  part_eases (offers c p q n has may o same after z) =
      let was = part_is (Some p) has in
      let is = ap (weight_or part_burden) after in
      let few = ap length same in
      let none = light_sent sent z in
      let less = offered_eases h p c q o in
      let pay = ap (λ x. one_if (called x)) n in
      omega (arith, was, is, few, none, less, pay)
  part_eases (sends c cs n at left part z) =
      let a = ap length at in
      let b = ap length left in
      let d = ap (weight_or part_burden) part in
      let one = ap sent_asks z in
      omega (arith, a, b, d, one)
  part_eases (serves c cs p q n at has own may o left after z) =
      let a = ap length at in
      let b = ap length left in
      let was = part_is (Some p) has in
      let is = ap (weight_or part_burden) after in
      let none = light_sent sent z in
      let less = offered_eases h p c q o in
      omega (arith, a, b, was, is, none, less)
  part_eases (executes p o c n has at item same after z) =
      let less = taken_counts p.orders o c at item in
      same_part p _ has after same z (omega (arith, less))
  part_eases (misses u n why same part z) =
      let a = ap length same in
      let b = ap (weight_or part_burden) part in
      let none = light_sent sent z in
      omega (arith, a, b, none)
  part_eases (updates u p x n has is same after z) = same_part p _ has after same z (omega arith)
  part_eases (shows p x n has is ready same after z) = same_part p _ has after same z (omega arith)
  part_eases (ends os n at same after z) =
      let a = ap length same in
      let b = ap (weight_or part_burden) after in
      let none = light_sent sent z in
      omega (arith, a, b, none)

-- ---- an event

came_by : (o : Option Msg) → weight_or asks o ≡ one_if (called o)
came_by None = refl
came_by (Some m) = refl

module _ (f : Frame) (e : ℕ) (w : World) (v : Event) (o : Occurs w v) where
  pub base_burden_happens : IsInFrame f w → base_burden e (happens node_steps w v) ≤ base_burden e w
  base_burden_happens q =
      let s = has_of e o.node in
      let i = letter_in (mine e) o.input in
      let t = has_of e (node_steps o.node o.input).state in
      let sent = concerning e (node_steps o.node o.input).sent in
      let m = node_moves f e v.node o.node o.input (q.sound.states v.node o.node o.is_node) (q.nodes v.node o.node o.is_node)
      (fed_plain f w v o q) in
      let less = part_eases (here_at f v.node) e s.base i t.base sent (part_moves f e v.node s i t sent m) in
      let came = came_by i in
      event_eases (λ h. has_base_burden h.base) asks e f w v o q (omega (arith, less, came))
