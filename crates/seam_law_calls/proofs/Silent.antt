-- Where no look is left, or the entity has no witness, its client is told nothing.
use Rattle.seam_law_calls.proofs.Prelude.{◌≡◌, ℕ, ◌+◌, ◌≤◌, false, is_some, List, Option, None, Some, refl, sym, ap, ◌∙◌, subst, arith}
use Rattle.seam_law_calls.proofs.Prelude.{cells_of, happens, Occurs, Event, RealView, WitnessView, Msg, cell_count, World, node_steps}
use Rattle.seam_law_calls.proofs.Prelude.{letter_in, slot_at, IsSilent, Frame, here_at, IsInFrame, Has, AtCell, mine, concerning, has_of}
use Rattle.seam_law_calls.proofs.Prelude.{has_none, Moves, at_a_cell, at_a_base, real_in, update_in, WitnessMoves, EachReal, node_looks}
use Rattle.seam_law_calls.proofs.Prelude.{mine_looks, looks_left, NoUpdateComes, RunsTo, weight_bounds, all_append, sent_kept}
use Rattle.seam_law_calls.proofs.Classify.{node_moves, fed_plain}
use Rattle.seam_law_calls.specs.WitnessMoves as witness
use Rattle.seam_law_calls.proofs.BaseSilent.{sees_no_update, base_silent}
use Rattle.seam_law_calls.proofs.WitnessKept.{IsSeen, each_happens}
use Rattle.seam_law_calls.proofs.WitnessSteps.{witness_moves}
use Rattle.seam_law_calls.proofs.LooksLeft.{looks_left_happens}
use Rattle.seam_law_calls.proofs.Telling.{event_fact}
use Rattle.seam_law_calls.proofs.Keeping.{run_keeps}

-- the node's real has no witness that is to look
abbrev NeverLooks : AtCell → Type 0
NeverLooks s = (n : ℕ) (r : RealView) (w : WitnessView) → s.looks ≡ n + 1 → s.slot.real ≡ Some r → r.witness ≡ Some w → ⊥

module _ (f : Frame) (e k : ℕ) (s : Has) (i : Option Msg) (t : Has) (sent : List (ℕ × Msg)) (never : NeverLooks s.cell) where
  cell_silent : WitnessMoves (here_at f k) e s.cell i (real_in t) sent → IsSilent update_in sent
  cell_silent (witness.rests keeps a b) = a
  cell_silent (witness.lands r bs n now a b) = a
  cell_silent (witness.leaves r q to told has gone same z a b) =
      subst (IsSilent update_in) (sym z) (all_append (λ p. update_in p.1 ≡ None) told _ a (refl, tt))
  cell_silent (witness.looks n r q w v shown at has wit now wit' sum small z) = absurd (never n r w at has wit)

  moves_silent : Moves f e k s i t sent → IsSilent update_in sent
  moves_silent (at_a_cell tree of low m same) = cell_silent (witness_moves f e k s i t sent m)
  moves_silent (at_a_base high m same) = base_silent update_in sees_no_update _ _ e _ i _ sent m

-- ---- an event

module _ (f : Frame) (e : ℕ) (w : World) (v : Event) (o : Occurs w v) (q : IsInFrame f w) (never : NeverLooks (has_of e o.node).cell)
    (none : NoUpdateComes e w) where
  abbrev Silent : Has → Option Msg → Has → List (ℕ × Msg) → Type 0
  Silent s i t sent = IsSilent update_in sent

  silent_happens : NoUpdateComes e (happens node_steps w v)
  silent_happens =
      let g = event_fact f e w v o q Silent
      (moves_silent f e v.node (has_of e o.node) (letter_in (mine e) o.input) (has_of e (node_steps o.node o.input).state)
      (concerning e (node_steps o.node o.input).sent) never
      (node_moves f e v.node o.node o.input (q.sound.states v.node o.node o.is_node) (q.nodes v.node o.node o.is_node)
      (fed_plain f w v o q))) in
      sent_kept (λ a k m. update_in m ≡ None) g g.moves.0.sent g.moves.0.items none g.moves.1

-- ---- no look is left

module _ (f : Frame) (most : cells_of f.tree ≤ cell_count) (e : ℕ) where
  pub tells_none : (w v : World) (es : List Event) → IsInFrame f w → looks_left e w ≡ 0 → NoUpdateComes e w →
      RunsTo w es v → NoUpdateComes e v
  tells_none w v es frame left none run =
      (run_keeps f (λ x. (looks_left e x ≡ 0) × NoUpdateComes e x) (λ x a o q h.
      let less = looks_left_happens f most e x a o q in
      let left = h.0 in
      let bound = weight_bounds (node_looks e) (mine_looks e) x a o in
      (omega (arith, less, left), silent_happens f e x a o q (λ n r y at has seen. omega (arith, at, bound, left)) h.1)) w v es frame
      (left, none) run).1

-- ---- there is no witness

module _ (f : Frame) (e : ℕ) where
  pub unseen_told_none : (w v : World) (es : List Event) → IsInFrame f w → EachReal e (IsSeen f e false) w → NoUpdateComes e w →
      RunsTo w es v → NoUpdateComes e v
  unseen_told_none w v es frame each none run =
      (run_keeps f (λ x. EachReal e (IsSeen f e false) x × NoUpdateComes e x) (λ x a o q h. (
        each_happens (IsSeen f e false) (λ r q same is. ap is_some same ∙ is) f e x a o q
            (λ k n r q y z shown at wit wit' sum is. ap is_some wit' ∙ (sym (ap is_some wit) ∙ is)) h.0,
        silent_happens f e x a o q
            (λ n r y at has seen.
            let is = h.0.cells a.node r (ap (λ z. real_in (slot_at (has_of e) has_none z)) o.is_node ∙ has) in
            absurd (let z = sym (ap is_some seen) ∙ is in cc)) h.1,
      )) w v es frame (each, none) run).1
