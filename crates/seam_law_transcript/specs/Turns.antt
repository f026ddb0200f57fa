-- In turn: at every step of a round each part has executed, of the calls that were accepted for it from each sender, the first ones.
use Rattle.std.specs.Prelude.{◌≡◌, ℕ, List, ◌++◌, Contains, slice_get, Option, Some}
use Rattle.seam_node_steps.specs.Prelude.{Event, Part, Call, Create, RealView, PartView, Hand, Boundaries, loaded, reaps_loaded, World}
use Rattle.seam_node_steps.specs.Prelude.{look_loaded}
use Rattle.seam_rule_lines.specs.Orders.{IsLegal}
use Rattle.seam_rule_rounds.specs.Prelude.{Header, accepted, live_as, Standing}
use Rattle.seam_machine.specs.Nets.{link}
use Rattle.seam_law_calls.specs.Prelude.{RunsTo}
use Rattle.seam_law_ghosts.specs.Prelude.{GoesThroughRound}
use Rattle.seam_law_book.specs.Prelude.{IsPresent, real_here, part_here}
use Rattle.seam_defs.specs.declared.flags.Part.TheVariants as part
use Rattle.seam_accept.specs.Batches.{batch_of}
use Rattle.seam_law_transcript.specs.Phases.{dying, EndCalls, EndReaps}

-- The part of entity e executed these calls in the open round, after those of the rounds before: of the calls that were accepted for it
-- from each sender these are the first ones, in their order and each once.
abbrev pub AreFirstCalls : Standing → Part → ℕ → List Call → Type 0
AreFirstCalls s p e done = IsLegal (accepted s.book p e) (s.orders p e ++ done)

-- so it is with the cell part of entity e, in a cell or in the hand-over that carries it, and with its base part, at whichever node
pub record HasFirstCalls (s : Standing) (e : ℕ) (u : World) : Type 0 where
  pub cell : (k : ℕ) (r : RealView) → real_here e (slice_get u.nodes k) ≡ Some r → AreFirstCalls s part.Cell e r.done
  pub hand : (a k : ℕ) (r : RealView) (bs : Option Boundaries) → Contains (link u.rows a k) (Hand r bs) → r.entity ≡ e →
      AreFirstCalls s part.Cell e r.done
  pub base : (k : ℕ) (p : PartView) → part_here e (slice_get u.nodes k) ≡ Some p → AreFirstCalls s part.Base e p.done

-- whatever events happen from the world w on
abbrev pub KeepsFirstCalls : Standing → World → ℕ → Type 0
KeepsFirstCalls s w e = (es : List Event) (u : World) → RunsTo w es u → HasFirstCalls s e u

-- However far the round of the standing s is played from the world w, each part executes each sender's calls in turn: as the calls happen
-- and as the dead are reaped, of each entity that lived when the round began or that it makes; as the witnesses look, of each that lives
-- on. So it is after each event of the round, and would be in any other order of events.
pub record ExecutesInTurn (h : Header) (s : Standing) (w : World) : Type 0 where
  pub calls : (e : ℕ) (made : Create) → IsPresent s.book e made → KeepsFirstCalls s (loaded w (batch_of h s.book)) e
  pub reaps : (u : World) → EndCalls h s w u → (e : ℕ) (made : Create) → IsPresent s.book e made →
      KeepsFirstCalls s (reaps_loaded u (dying h s)) e
  pub looks : (v : World) → EndReaps h s w v → (e : ℕ) (made : Create) → live_as s.book e ≡ Some made → KeepsFirstCalls s (look_loaded v) e
