-- For callers: a step of a node is, for each entity, one of the moves, and so is an event of a world.
use Rattle.seam_law_calls.proofs.Prelude.{ℕ, Option, None, Some, List, [], ◌∷◌, ◌≡◌, AllByRecursion, all_append, refl, sym, ◌∙◌, subst}
use Rattle.seam_law_calls.proofs.Prelude.{cells_of, happens, Occurs, items_to, Input, Task, From, Event}
use Rattle.seam_law_calls.proofs.Prelude.{Msg, cell_steps, BaseView, base_steps, NodeView, World, node_steps, node_has_work, node_peers}
use Rattle.seam_law_calls.proofs.Prelude.{Cell, Base, IsNode, Goes, letter_in, letters_of, Frame, IsAt, IsInFrame, IsTreeOf, Has, mine}
use Rattle.seam_law_calls.proofs.Prelude.{concerning, at_cell, at_base, has_of, has_none, entity_flow, CellMoves, BaseMoves, Moves}
use Rattle.seam_law_calls.proofs.Prelude.{at_a_cell, at_a_base, MovesTo, sound_sends, sound_happens, event_goes}
use Rattle.seam_net_runs.specs.Sound.{MachineLaws}
use Rattle.std.proofs.Common.{drop}
use Rattle.seam_machine.specs.Events.{EachLink}
use Rattle.seam_machine.specs.Nets.{letter}
use Rattle.seam_net_runs.specs.Kept.{StaysTrue}
use Rattle.seam_net_runs.proofs.Keeping.{each_node, each_link}
use Rattle.seam_node_steps.proofs.Peers.{peers_stay, node_stays_valid, cell_here}
use Rattle.seam_node_steps.proofs.Plain.{plain_sent, plain_state, plain_tree}
use Rattle.seam_node_steps.specs.Prelude.{BringsNone, IsPlain, IsPlainInput, TellsNone, input_from, link}
use Rattle.seam_law_calls.specs.Frames.{BringNone}
use Rattle.seam_node_steps.proofs.Targets.{node_targets}
use Rattle.seam_node_steps.proofs.ValidBases.{base_frame}
use Rattle.seam_law_calls.proofs.Lists.{letters_are}
use Rattle.seam_law_calls.proofs.CellSteps.{cell_moves}
use Rattle.seam_law_calls.proofs.BaseSteps.{message_moves}
use Rattle.seam_law_calls.proofs.BaseTasks.{task_moves}

-- nodes as machines
abbrev pub node_laws : MachineLaws NodeView Msg
node_laws = record {
  has_work = node_has_work;
  peer_count = node_peers;
  valid = IsNode;
  steps = node_steps;
  targets = node_targets;
  keeps_peers = λ s i is. peers_stay s i;
  stays_valid = node_stays_valid;
}

base_moves : (e : ℕ) (b : BaseView) (i : Input Msg) → AllByRecursion TellsNone b.orders →
    BaseMoves b.here b.cells e (at_base e b) (letter_in (mine e) i) (at_base e (base_steps b i).state) (concerning e (base_steps b i).sent)
base_moves e b Task none = task_moves e b none
base_moves e b (From a m) none = message_moves e b a m

module _ (f : Frame) (e k : ℕ) where
  pub node_moves : (s : NodeView) (i : Input Msg) → IsNode s → IsAt f k s → IsPlainInput i →
      Moves f e k (has_of e s) (letter_in (mine e) i) (has_of e (node_steps s i).state) (concerning e (node_steps s i).sent)
  node_moves (Cell c) i is at fed =
      at_a_cell c.tree at.tree at.low
      (subst (λ h. CellMoves h c.tree e (at_cell e c) (letter_in (mine e) i) (at_cell e (cell_steps c i).state)
      (concerning e (cell_steps c i).sent)) at.here (cell_moves c is.keys e at.number i fed)) refl
  node_moves (Base b) i is at fed =
      at_a_base at.high
      (subst (λ h. BaseMoves h (cells_of f.tree) e (at_base e b) (letter_in (mine e) i) (at_base e (base_steps b i).state)
      (concerning e (base_steps b i).sent)) at.here
      (subst (λ n. BaseMoves b.here n e (at_base e b) (letter_in (mine e) i) (at_base e (base_steps b i).state)
      (concerning e (base_steps b i).sent)) at.cells (base_moves e b i at.orders))) refl

-- ---- messages that bring no boundaries

dropped : (ms : List Msg) → AllByRecursion BringsNone ms → AllByRecursion BringsNone (drop 1 ms)
dropped [] h = tt
dropped (m ∷ ms) h = h.1

stay_none : (k : ℕ) (ps : List (ℕ × Msg)) → AllByRecursion (λ p. BringsNone p.1) ps → StaysTrue BringNone k ps
stay_none k [] h = tt
stay_none k (p ∷ ps) h = (λ l none. all_append BringsNone l (p.1 ∷ []) none (h.0, tt), stay_none k ps h.1)

first_none : (a : ℕ) (ms : List Msg) (i : Input Msg) → letter a ms ≡ Some i → AllByRecursion BringsNone ms → IsPlainInput i
first_none a [] i is h = cc
first_none a (m ∷ ms) Task is h = tt
first_none a (m ∷ ms) (From b x) is h = let same : m ≡ x = cc in subst BringsNone same h.0

fed_by : (w : World) (k : ℕ) (from : Option ℕ) (i : Input Msg) → EachLink BringNone w.rows → input_from w.rows k from ≡ Some i →
    IsPlainInput i
fed_by w k None Task links is = tt
fed_by w k None (From a m) links is = cc
fed_by w k (Some a) i links is = first_none a (link w.rows a k) i is (links a k)

-- ---- the frame

pub plain_at : (f : Frame) (k : ℕ) (s : NodeView) → IsAt f k s → IsPlain s
plain_at f k (Cell c) at = at.number
plain_at f k (Base b) at = at.orders

-- a step keeps the node in the frame
stays_at : (f : Frame) (k : ℕ) (s : NodeView) (i : Input Msg) → IsAt f k s → IsPlainInput i → IsAt f k (node_steps s i).state
stays_at f k (Cell c) i at fed =
    record {
      low = at.low;
      here = cell_here c i ∙ at.here;
      tree = subst (IsTreeOf f) (sym (plain_tree c i fed)) at.tree;
      number = plain_state (Cell c) i at.number fed;
    }
stays_at f k (Base b) i at fed =
    let s = base_frame b i in
    record { high = at.high; here = s.here ∙ at.here; cells = s.cells ∙ at.cells; orders = plain_state (Base b) i at.orders fed }

module _ (f : Frame) (w : World) (v : Event) (o : Occurs w v) (q : IsInFrame f w) where
  -- what the node is fed brings no boundaries
  pub fed_plain : IsPlainInput o.input
  fed_plain = fed_by w v.node v.from o.input q.letters o.is_fed

  pub frame_happens : IsInFrame f (happens node_steps w v)
  frame_happens = record {
    sound = sound_happens node_laws w v o q.sound;
    nodes = each_node (IsAt f) node_steps w v o q.nodes (stays_at f v.node o.node o.input (q.nodes v.node o.node o.is_node) fed_plain);
    letters =
        each_link BringNone node_steps w v o q.letters (λ a is. dropped (link w.rows a v.node) (q.letters a v.node))
        (stay_none v.node (node_steps o.node o.input).sent
        (plain_sent o.node o.input (plain_at f v.node o.node (q.nodes v.node o.node o.is_node)) fed_plain));
  }

  node_moves_to : (e : ℕ) → MovesTo f e v.node (has_of e o.node) (letter_in (mine e) o.input) (has_of e (node_steps o.node o.input).state)
      (λ j. letters_of (mine e) (items_to j (node_steps o.node o.input).sent))
  node_moves_to e = record {
    sent = concerning e (node_steps o.node o.input).sent;
    moves = node_moves f e v.node o.node o.input (q.sound.states v.node o.node o.is_node) (q.nodes v.node o.node o.is_node)
        fed_plain;
    items = λ j. letters_are e j (node_steps o.node o.input).sent;
  }

  pub event_moves : (e : ℕ) → Goes (MovesTo f e) (entity_flow e w) (entity_flow e (happens node_steps w v))
  event_moves e =
      event_goes (mine e) (has_of e) has_none (MovesTo f e) node_steps w v o q.sound.square (sound_sends node_laws w v o q.sound)
      (node_moves_to e)

  -- the same with a fact about what the node has and the letter that comes
  pub event_moves_with : (e : ℕ) (Fact : Has → Option Msg → Type 0) → Fact (has_of e o.node) (letter_in (mine e) o.input) →
      Goes (λ k s i t out. MovesTo f e k s i t out × Fact s i) (entity_flow e w) (entity_flow e (happens node_steps w v))
  event_moves_with e Fact fact =
      event_goes (mine e) (has_of e) has_none (λ k s i t out. MovesTo f e k s i t out × Fact s i) node_steps w v o q.sound.square
      (sound_sends node_laws w v o q.sound) (node_moves_to e, fact)
