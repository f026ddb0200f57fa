-- How far the open round of a standing is played: where its calls end, and where its reaps do.
use Rattle.std.specs.Prelude.{ℕ, List}
use Rattle.seam_node_steps.specs.Prelude.{IsQuiet, LeadsTo, Event, loaded, reaps_loaded, World, node_steps, node_has_work}
use Rattle.seam_rule_rounds.specs.Prelude.{Header, Standing}
use Rattle.seam_accept.specs.Batches.{batch_of}

-- a phase that began in the world u ended in v: these events led there, each enabled, and nothing is left to do
pub record Ends (u : World) (es : List Event) (v : World) : Type 0 where
  pub leads : LeadsTo node_has_work node_steps u es v
  pub quiet : IsQuiet node_has_work v

-- those that the round destroys
abbrev pub dying : Header → Standing → List ℕ
dying h s = (batch_of h s.book).destroys

-- the calls of the round, which was begun in the world w, ended in u
abbrev pub EndCalls : Header → Standing → World → World → Type 0
EndCalls h s w u = (es : List Event) × Ends (loaded w (batch_of h s.book)) es u

-- and then its reaps ended in v
pub record EndReaps (h : Header) (s : Standing) (w v : World) : Type 0 where
  pub settled : World
  pub calls : EndCalls h s w settled
  pub events : List Event
  pub reaps : Ends (reaps_loaded settled (dying h s)) events v
