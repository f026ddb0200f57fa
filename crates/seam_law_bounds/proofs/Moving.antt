-- In a round in which boundaries move an enabled event lowers the weight too, or passes a call on and keeps it.
use Rattle.std.proofs.Common.{◌≡◌, ℕ, ◌+◌, ◌≤◌, true, List, [], ◌∷◌, ◌++◌, length, ap}
use Rattle.seam_machine.proofs.Occurring.{occurs}
use Rattle.seam_net_runs.specs.Weights.{Lowers}
use Rattle.seam_net_runs.proofs.Runs.{leads_end, leads_extend, leads_nowhere}
use Rattle.seam_node_steps.specs.Prelude.{Base, Cell, Event, From, Input, IsNode, NodeView, Occurs, Task, World, boundaries_of}
use Rattle.seam_node_steps.specs.Prelude.{bounds_in, enabled, happens, node_has_work, node_steps, renewed}
use Rattle.seam_law_calls.specs.Prelude.{Frame, IsFrame, RunsTo}
use Rattle.seam_law_slides.specs.Prelude.{BringsOfRound, DivideTheSpace, GoesByRound, IsNodeOf}
use Rattle.seam_law_slides.proofs.Facts.{fed}
use Rattle.seam_law_slides.proofs.Rounds.{Fed, renewed_bounds, round_leads}
use Rattle.seam_law_slides.proofs.Taking.{at_most_last, none_later}
use Rattle.seam_law_bounds.specs.Prelude.{AllCan, NodeCan, Sizes, all_passes, is_pass}
use Rattle.seam_law_bounds.specs.Weights.{moving_weight}
use Rattle.seam_law_bounds.proofs.NetWeights.{AreOfRound, KnowsMe, event_lowers_by}

module _ (z : Sizes) (f : Frame) (frame : IsFrame f) (space : DivideTheSpace f) where
  abbrev last : ℕ
  last = length f.later

  of_round : (k : ℕ) (s : NodeView) (i : Input _) → IsNode s → IsNodeOf f k s → Fed f k i → AreOfRound z last s i
  of_round k (Cell c) Task valid is came = tt
  of_round k (Cell c) (From a m) valid is came = (
    none_later f frame space k c (bounds_in m) is.here came,
    at_most_last f frame space (boundaries_of (renewed c (bounds_in m))) (renewed_bounds f k c (From a m) is.bounds came),
  )
  of_round k (Base b) i valid is came = valid.cells

  knows_me : (k : ℕ) (s : NodeView) → IsNodeOf f k s → KnowsMe z last k s
  knows_me k (Cell c) is = ap (λ h. h.me) is.here
  knows_me k (Base b) is = ap (λ h. h.me) is.here

  pub moving_lowers : (w : World) (v : Event) (o : Occurs w v) → GoesByRound f w → NodeCan z o.node o.input →
      enabled node_has_work w v ≡ true → Lowers node_steps is_pass (moving_weight z last) w v
  moving_lowers w v o round can on =
      let at = round.nodes v.node o.node o.is_node in
      let came : Fed f v.node o.input =
      fed (IsNodeOf f) (λ k. BringsOfRound f) w v o (record { sound = round.sound; nodes = round.nodes; letters = round.letters }) in
      event_lowers_by z last w v o round.sound (knows_me v.node o.node at)
      (of_round v.node o.node o.input (round.sound.states v.node o.node o.is_node) at came) can on

  -- ---- a run

  module _ (w : World) (round : GoesByRound f w) (can : AllCan z w) where
    record Reached (v : World) : Type 0 where
      events : List Event
      run : RunsTo w events v

    lowers_more : (v : World) (x : Event) → Reached v → enabled node_has_work v x ≡ true →
        Reached (happens node_steps v x) × Lowers node_steps is_pass (moving_weight z last) v x
    lowers_more v x r on =
        let o = occurs node_has_work v x on in (
          record {
            events = r.events ++ x ∷ [];
            run = leads_extend node_has_work node_steps w v r.events x r.run on;
          },
          moving_lowers v x o (round_leads f w v r.events round r.run) (can v r.events r.run x o) on,
        )

    pub moving_ends : (v : World) (es : List Event) → RunsTo w es v →
        length es + moving_weight z last v ≤ moving_weight z last w + all_passes w es
    moving_ends v es run =
        leads_end node_has_work node_steps is_pass (moving_weight z last) Reached lowers_more w v es
        (record { events = []; run = leads_nowhere node_has_work node_steps w }) run
