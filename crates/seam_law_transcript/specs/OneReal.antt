-- One real: each live entity has exactly one, at every step of a round.
use Rattle.std.specs.Prelude.{◌≡◌, ℕ, List, Some, if◌then◌else◌}
use Rattle.std.specs.List.{AllByRecursion}
use Rattle.seam_node_steps.specs.Prelude.{Event, Create, holders, loaded, reaps_loaded, look_loaded, World}
use Rattle.seam_rule_rounds.specs.Prelude.{Header, live_as, Standing}
use Rattle.seam_law_rounds.specs.Prelude.{reap_comes}
use Rattle.seam_law_book.specs.Prelude.{IsPresent}
use Rattle.seam_accept.specs.Batches.{batch_of}
use Rattle.seam_law_calls.specs.Prelude.{RunsTo}
use Rattle.seam_law_transcript.specs.Phases.{dying, EndCalls, EndReaps}

-- whatever events happen from the world w on, entity e has so many reals: in a cell, or in the hand-over that carries it
abbrev pub KeepsReals : World → ℕ → ℕ → Type 0
KeepsReals w many e = (es : List Event) (v : World) → RunsTo w es v → holders v e ≡ many

-- However far the round of the standing s is played from the world w, each live entity has one real: as the calls happen, each that lived
-- when the round began or that it makes; as the dead are reaped and the witnesses look, each that lives on. One that dies has it until its
-- Reap comes, and none from then on. So it is after each event of the round, and would be in any other order of events.
pub record HasOneReal (h : Header) (s : Standing) (w : World) : Type 0 where
  pub calls : (e : ℕ) (made : Create) → IsPresent s.book e made → KeepsReals (loaded w (batch_of h s.book)) 1 e
  pub reaps : (u : World) → EndCalls h s w u → (e : ℕ) (made : Create) → live_as s.book e ≡ Some made →
      KeepsReals (reaps_loaded u (dying h s)) 1 e
  pub until : (u : World) → EndCalls h s w u → (e : ℕ) (made : Create) → IsPresent s.book e made → (es : List Event) (v : World) →
      RunsTo (reaps_loaded u (dying h s)) es v →
      holders v e ≡ (if reap_comes e (reaps_loaded u (dying h s)) es then 0 else 1)
  pub gone : (v : World) → EndReaps h s w v → AllByRecursion (KeepsReals (look_loaded v) 0) (dying h s)
  pub looks : (v : World) → EndReaps h s w v → (e : ℕ) (made : Create) → live_as s.book e ≡ Some made → KeepsReals (look_loaded v) 1 e
