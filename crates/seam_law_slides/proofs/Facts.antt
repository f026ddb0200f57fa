-- A law over lists of events from one over steps: P is true of each node, Q of each message by the node to which it goes, and each step
-- keeps both.
use Rattle.std.proofs.Common.{◌≡◌, ℕ, List, [], ◌∷◌, Option, None, Some, subst, drop}
use Rattle.std.specs.List.{AllByRecursion}
use Rattle.seam_machine.specs.Events.{EachLink}
use Rattle.seam_machine.specs.Nets.{letter}
use Rattle.seam_net_runs.specs.Kept.{StaysTrue}
use Rattle.seam_net_runs.specs.Sound.{IsSound}
use Rattle.seam_net_runs.proofs.Keeping.{each_node, each_link}
use Rattle.seam_net_runs.proofs.Soundness.{sound_happens}
use Rattle.seam_node_steps.specs.Prelude.{EachNode, Event, Input, Task, From, Msg, NodeView, World, Occurs, IsNode, input_from, link}
use Rattle.seam_node_steps.specs.Prelude.{node_steps, node_peers}
use Rattle.seam_law_flow.proofs.Following.{all_append}
use Rattle.seam_law_calls.proofs.Keeping.{EachKeeps, RunsKeep, runs_keep}
use Rattle.seam_law_calls.proofs.Classify.{node_laws}

module _ (P : ℕ → NodeView → Type 0) (Q : ℕ → Msg → Type 0) where
  abbrev pub OnLink : ℕ → ℕ → List Msg → Type 0
  OnLink a k ms = AllByRecursion (Q k) ms

  pub record AllAre (w : World) : Type 0 where
    pub sound : IsSound node_peers IsNode w
    pub nodes : EachNode P w.nodes
    pub letters : EachLink OnLink w.rows

  -- what is true of the message that node k is fed
  abbrev pub IsFed : ℕ → Input Msg → Type 0
  IsFed k Task = Unit {0}
  IsFed k (From a m) = Q k m

  abbrev pub AllSent : List (ℕ × Msg) → Type 0
  AllSent ps = AllByRecursion (λ p. Q p.0 p.1) ps

  abbrev pub StepsKeep : Type 0
  StepsKeep = (k : ℕ) (s : NodeView) (i : Input Msg) → IsNode s → P k s → IsFed k i →
      P k (node_steps s i).state × AllSent (node_steps s i).sent

  dropped : (k : ℕ) (ms : List Msg) → AllByRecursion (Q k) ms → AllByRecursion (Q k) (drop 1 ms)
  dropped k [] h = tt
  dropped k (m ∷ ms) h = h.1

  stay : (k : ℕ) (ps : List (ℕ × Msg)) → AllSent ps → StaysTrue OnLink k ps
  stay k [] h = tt
  stay k (p ∷ ps) h = (λ l all. all_append (Q p.0) l (p.1 ∷ []) all (h.0, tt), stay k ps h.1)

  first_is : (a k : ℕ) (ms : List Msg) (i : Input Msg) → letter a ms ≡ Some i → AllByRecursion (Q k) ms → IsFed k i
  first_is a k [] i is h = cc
  first_is a k (m ∷ ms) Task is h = tt
  first_is a k (m ∷ ms) (From b x) is h = let same : m ≡ x = cc in subst (Q k) same h.0

  fed_by : (w : World) (k : ℕ) (from : Option ℕ) (i : Input Msg) → EachLink OnLink w.rows → input_from w.rows k from ≡ Some i → IsFed k i
  fed_by w k None Task links is = tt
  fed_by w k None (From a m) links is = cc
  fed_by w k (Some a) i links is = first_is a k (link w.rows a k) i is (links a k)

  pub fed : (w : World) (v : Event) (o : Occurs w v) → AllAre w → IsFed v.node o.input
  fed w v o h = fed_by w v.node v.from o.input h.letters o.is_fed

  pub all_happen : StepsKeep → EachKeeps AllAre
  all_happen keep w v o h =
      let two = keep v.node o.node o.input (h.sound.states v.node o.node o.is_node) (h.nodes v.node o.node o.is_node) (fed w v o h) in
      record {
        sound = sound_happens node_laws w v o h.sound;
        nodes = each_node P node_steps w v o h.nodes two.0;
        letters =
            each_link OnLink node_steps w v o h.letters (λ a is. dropped v.node (link w.rows a v.node) (h.letters a v.node))
            (stay v.node (node_steps o.node o.input).sent two.1);
      }

  pub all_lead : StepsKeep → RunsKeep AllAre
  all_lead keep = runs_keep AllAre (all_happen keep)
