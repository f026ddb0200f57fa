-- What an event keeps of a world; and a world as it is opened.
use Rattle.std.proofs.Common.{◌≡◌, ℕ, zero, suc, ◌+◌, ◌<◌, ◌≤◌, ◌++◌, ◌∷◌, [], List, length, replicate, true, refl, ap, ◌∙◌, subst, sym}
use Rattle.std.proofs.Common.{arith}
use Rattle.seam_node_steps.specs.Prelude.{IsProper, IsTree, area, Settings, TypeDef, AreDefs, AreLegal, enabled, happens, Event, cell_count}
use Rattle.seam_node_steps.specs.Prelude.{holders, NodeView, World, node_steps, node_has_work, one_cell, opened}
use Rattle.seam_node_steps.specs.Prelude.{Input, Msg, Cell, Base}
use Rattle.seam_law_calls.specs.Prelude.{Frame, HasOneTree, IsAt, IsFrame}
use Rattle.seam_law_rounds.specs.Prelude.{IsBetweenRounds, first_frame}
use Rattle.seam_machine.proofs.Occurring.{occurs, length-happens}
use Rattle.seam_net_runs.proofs.Keeping.{each_node}
use Rattle.seam_net_runs.proofs.Soundness.{sound_happens}
use Rattle.seam_net_runs.proofs.Runs.{leads_extend}
use Rattle.seam_law_calls.proofs.Trees.{of_only}
use Rattle.seam_law_calls.proofs.Classify.{node_laws}
use Rattle.seam_law_rounds.proofs.Opened.{opened_between}
use Rattle.seam_node_steps.proofs.Peers.{cell_here, cell_space}
use Rattle.seam_node_steps.proofs.ValidBases.{base_frame}
use Rattle.seam_core.specs.Worlds.{GoesBy, IsWorld, Leads, KeepsLaws, Lives, in_calls, in_reaps, in_looks}

-- a step keeps what a node goes by
pub goes_on : (defs : List TypeDef) (settings : Settings) (k : ℕ) (s : NodeView) (i : Input Msg) → GoesBy defs settings k s →
    GoesBy defs settings k (node_steps s i).state
goes_on defs settings k (Cell c) i is =
    let here = cell_here c i in
    let was = is.1.1 in (
      (is.0.0, here ∙ is.0.1),
      (cell_space c i (is.1.0 ∙ sym was) ∙ was, ap (λ h. h.settings.size) here ∙ was),
    )
goes_on defs settings k (Base b) i is = ((is.0.0, (base_frame b i).here ∙ is.0.1), tt)

abbrev pub still_world : (w : World) (e : Event) → IsWorld w → enabled node_has_work w e ≡ true → IsWorld (happens node_steps w e)
still_world w e is can =
    let o = occurs node_has_work w e can in
    record {
      defs = is.defs;
      settings = is.settings;
      sound = sound_happens node_laws w e o is.sound;
      nodes =
          each_node (GoesBy is.defs is.settings) node_steps w e o is.nodes
          (goes_on is.defs is.settings e.node o.node o.input (is.nodes e.node o.node o.is_node));
      many = length-happens node_steps w e o ∙ is.many;
    }

pub leads_on : (start w v : World) (es : List Event) (e : Event) → enabled node_has_work w e ≡ true → v ≡ happens node_steps w e →
    Leads start es w → Leads start (es ++ e ∷ []) v
leads_on start w v es e can is leads =
    subst (Leads start (es ++ e ∷ [])) (sym is) (leads_extend node_has_work node_steps start w es e leads can)

-- an entity that lives has one holder
pub lives_once : (e : ℕ) (v : World) → KeepsLaws v → Lives e v → holders v e ≡ 1
lives_once e v laws (in_calls f clients w b from one) = (laws.calls f clients w b from).one_real e one
lives_once e v laws (in_reaps f clients u es from one spared) = (laws.reaps f clients u es from).one_real e one spared
lives_once e v laws (in_looks f clients u from one) = (laws.looks f clients u from).one_real e one

-- no event leads to the same world
pub leads_none : (u v : World) → v ≡ u → Leads u [] v
leads_none u v same = record { each = tt; is_run = same }

-- ---- a world as it is opened

-- the tree of one cell is a tree
one_is_tree : (size : ℕ) → 1 ≤ size → size ≤ 1000000 → IsTree (one_cell size)
one_is_tree size from to = record {
  size_from = from;
  size_to = to;
  cells_to = omega arith;
  cell_was_there = λ n h. absurd (omega (arith, h));
  none_empty = proper;
}
  where
    proper : (c : ℕ) → c < 1 → IsProper (area (one_cell size) c)
    proper zero h = record { wide = omega (arith, from); deep = omega (arith, from) }
    proper (suc c) h = absurd (omega (arith, h))

-- a node of a frame with one tree, which is of the settings' space
pub goes_by : (f : Frame) → HasOneTree f → f.tree.size ≡ f.settings.size → (k : ℕ) (s : NodeView) → IsAt f k s →
    GoesBy f.defs f.settings k s
goes_by f one size k (Cell c) at =
    ((at.low, at.here), (of_only f (λ t. t.size ≡ f.settings.size) one size c.tree at.tree, ap (λ h. h.settings.size) at.here))
goes_by f one size k (Base b) at = ((at.high, at.here), tt)

module _ (defs : List TypeDef) (settings : Settings) (are : AreDefs defs) (legal : AreLegal settings) where
  pub frame_opened : IsFrame (first_frame defs settings)
  frame_opened = record { defs = are; tree = one_is_tree settings.size legal.in_range.some_size legal.in_range.size; later = tt }

  abbrev between : IsBetweenRounds (first_frame defs settings) (opened defs settings)
  between = opened_between defs settings frame_opened legal.in_range.some_bases

  pub many_opened : length (opened defs settings).nodes ≡ cell_count + settings.bases
  many_opened = between.many

  pub world_opened : IsWorld (opened defs settings)
  world_opened = record {
    defs = defs;
    settings = settings;
    sound = between.nodes.sound;
    nodes = λ k s at. goes_by (first_frame defs settings) refl refl k s (between.nodes.nodes k s at);
    many = between.many;
  }

  -- a net of its nodes with empty links is such a world
  pub is_opened : (ns : List NodeView) (net : World) → ns ≡ (opened defs settings).nodes →
      net ≡ record { nodes = ns; rows = replicate (length ns) (replicate (length ns) []) } → net ≡ opened defs settings
  is_opened ns net nodes is =
      let many = ap length nodes ∙ many_opened in
      is ∙ ap (λ (xs : List NodeView). net_of xs (length ns)) nodes ∙ ap (net_of (opened defs settings).nodes) many
    where
      net_of : List NodeView → ℕ → World
      net_of xs n = record { nodes = xs; rows = replicate n (replicate n []) }
