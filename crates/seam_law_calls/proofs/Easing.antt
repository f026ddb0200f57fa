-- What no step raises no event raises; so what is yet to do, and a hand-over that comes has small numbers.
use Rattle.seam_law_calls.proofs.Prelude.{◌≡◌, ℕ, ◌+◌, ◌<◌, ◌≤◌, Bool, true, false, cond, List, [], ◌∷◌, Option, Some, refl, ap, arith}
use Rattle.seam_law_calls.proofs.Prelude.{happens, Occurs, total, Input, Task, From, Event, RealView, Boundaries, Msg, Hand, Reap, limit}
use Rattle.seam_law_calls.proofs.Prelude.{NodeView, World}
use Rattle.seam_law_calls.proofs.Prelude.{node_steps, letter_in, Frame, IsInFrame, Has, concerns, kept_if, mine, concerning, has_of}
use Rattle.seam_law_calls.proofs.Prelude.{real_burden, letter_burden, has_burden, node_burden, mine_burden, burden, RunsTo, weight_or}
use Rattle.seam_law_calls.proofs.Prelude.{weight, input_weight, sent_weight, sound_sends, weight_moves, weight_bounds}
use Rattle.seam_law_calls.proofs.Classify.{node_laws, node_moves}
use Rattle.seam_law_calls.proofs.Burdening.{eased}
use Rattle.seam_law_calls.proofs.Keeping.{run_keeps}
use Rattle.seam_law_calls.proofs.Classify.{fed_plain}

-- ---- numbers of what a node has of an entity and of messages about it, in a world

module _ (G : Msg → ℕ) (e : ℕ) where
  abbrev mine_weight : ℕ → Msg → ℕ
  mine_weight k m = weight_or G (mine e m)

  abbrev sent_weighs : List (ℕ × Msg) → ℕ
  sent_weighs ps = total (λ p. G p.1) ps

  sent_by : (p : ℕ × Msg) (ps : List (ℕ × Msg)) (b : Bool) → total (λ p. mine_weight p.0 p.1) ps ≡ sent_weighs (concerning e ps) →
      weight_or G (kept_if b p.1) + total (λ p. mine_weight p.0 p.1) ps ≡ sent_weighs (cond b (p ∷ concerning e ps) (concerning e ps))
  sent_by p ps true h = omega (arith, h)
  sent_by p ps false h = omega (arith, h)

  -- what is sent weighs what of it concerns the entity does
  pub sent_is : (ps : List (ℕ × Msg)) → sent_weight mine_weight ps ≡ sent_weighs (concerning e ps)
  sent_is [] = refl
  sent_is (p ∷ ps) = sent_by p ps (concerns e p.1) (sent_is ps)

  -- and so does what is fed
  pub input_is : (k : ℕ) (i : Input Msg) → input_weight mine_weight k i ≡ weight_or G (letter_in (mine e) i)
  input_is k Task = refl
  input_is k (From a m) = refl

module _ (F : Has → ℕ) (G : Msg → ℕ) (e : ℕ) where
  abbrev node_weight : NodeView → ℕ
  node_weight n = F (has_of e n)

  -- where a step does not raise them, the event does not
  pub event_eases : (f : Frame) (w : World) (v : Event) (o : Occurs w v) → IsInFrame f w →
      F (has_of e (node_steps o.node o.input).state) + sent_weighs G e (concerning e (node_steps o.node o.input).sent)
      ≤ F (has_of e o.node) + weight_or G (letter_in (mine e) o.input) →
      weight node_weight (mine_weight G e) (happens node_steps w v) ≤ weight node_weight (mine_weight G e) w
  event_eases f w v o q less =
      let a = weight_moves node_weight (mine_weight G e) node_steps w v o q.sound.square (sound_sends node_laws w v o q.sound) in
      let b = sent_is G e (node_steps o.node o.input).sent in
      let c = input_is G e v.node o.input in
      omega (arith, a, b, c, less)

-- what no event raises, no list of events does
module _ (f : Frame) (n : World → ℕ) (falls : (w : World) (v : Event) (o : Occurs w v) → IsInFrame f w → n (happens node_steps w v) ≤ n w)
  where
    pub falls_lead : (w v : World) (es : List Event) → IsInFrame f w → RunsTo w es v → n v ≤ n w
    falls_lead w v es q run =
        run_keeps f (λ x. n x ≤ n w) (λ x a o frame few. let less = falls x a o frame in omega (arith, less, few)) w v es q
        (omega arith) run

-- ---- what is yet to do

module _ (f : Frame) (e : ℕ) (w : World) (v : Event) (o : Occurs w v) (q : IsInFrame f w) where
  pub burden_happens : burden e (happens node_steps w v) ≤ burden e w
  burden_happens =
      event_eases has_burden letter_burden e f w v o q
      (eased f e v.node (has_of e o.node) (letter_in (mine e) o.input) (has_of e (node_steps o.node o.input).state)
      (concerning e (node_steps o.node o.input).sent)
      (node_moves f e v.node o.node o.input (q.sound.states v.node o.node o.is_node) (q.nodes v.node o.node o.is_node)
      (fed_plain f w v o q)))

  -- the numbers of a real that comes are below what the world's are
  pub came_small : burden e w < limit → (r : RealView) (bs : Option Boundaries) → letter_in (mine e) o.input ≡ Some (Hand r bs) →
      real_burden r < limit
  came_small few r bs is =
      let a = weight_bounds (node_burden e) (mine_burden e) w v o in
      let b = input_is letter_burden e v.node o.input in
      let c = ap (weight_or letter_burden) is in
      omega (arith, a, b, c, few)

  -- and those of a real that a Reap finds leave room for one more
  pub reaped_small : burden e w < limit → (r : RealView) → (has_of e o.node).cell.slot.real ≡ Some r →
      letter_in (mine e) o.input ≡ Some (Reap e) → real_burden r + 1 < limit
  reaped_small few r has is =
      let a = weight_bounds (node_burden e) (mine_burden e) w v o in
      let b = input_is letter_burden e v.node o.input in
      let c = ap (weight_or letter_burden) is in
      let d = ap (weight_or real_burden) has in
      omega (arith, a, b, c, d, few)

-- after every list of events
pub burden_leads : (f : Frame) (e : ℕ) (w v : World) (es : List Event) → IsInFrame f w → RunsTo w es v → burden e v ≤ burden e w
burden_leads f e w v es q run = falls_lead f (burden e) (burden_happens f e) w v es q run
