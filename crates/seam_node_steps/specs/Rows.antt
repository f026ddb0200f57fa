-- Worked rows: a world, events, and the world after each.
use Rattle.std.specs.Prelude.{◌≡◌, ℕ, ◌-◌, pos, true, List, [], ◌∷◌, ◌++◌, length, map, fold, replicate, slice_get, slice_set}
use Rattle.std.specs.Prelude.{slice_index_or, Option, None, Some, option_map, codes}
use Rattle.std.specs.List.{range_with_len}
use Rattle.std.specs.FinMap as table
use Rattle.seam_geo.specs.declared.pos.Pos.{Pos}
use Rattle.seam_value.specs.declared.values.Value.{Value}
use Rattle.seam_value.specs.declared.values.Value.TheVariants.{Number, Text}
use Rattle.seam_tree.specs.declared.boundary.Axis.{Axis}
use Rattle.seam_tree.specs.declared.cut.Cut.{Cut}
use Rattle.seam_tree.specs.Division.{Division}
use Rattle.seam_tree.specs.Cells.{Cells}
use Rattle.seam_defs.specs.declared.flags.Part.TheVariants as part
use Rattle.seam_defs.specs.declared.states.Deed.{Deed}
use Rattle.seam_defs.specs.declared.states.Deed.TheVariants.{Method}
use Rattle.seam_defs.specs.Builtin.{builtin, avatar_methods, method_named}
use Rattle.seam_defs.specs.Settings.{standard}
use Rattle.seam_ghosts.specs.declared.Ghost.{Ghost}
use Rattle.seam_ghosts.specs.Book.{copy_in}
use Rattle.seam_order.specs.Held.{OrderView}
use Rattle.seam_machine.specs.declared.machines.Event.{Event}
use Rattle.seam_machine.specs.Nets.{enabled, happens}
use Rattle.seam_call.specs.declared.sender.Sender.TheVariants as sender
use Rattle.seam_call.specs.declared.call.Call.{Call}
use Rattle.seam_call.specs.declared.create.Create.{Create}
use Rattle.seam_call.specs.declared.shown.GhostCopy.{GhostCopy}
use Rattle.seam_call.specs.declared.shown.Line.{Line}
use Rattle.seam_entity.specs.Orders.{Orders}
use Rattle.seam_entity.specs.Reals.{RealView}
use Rattle.seam_entity.specs.declared.message.Msg.{Msg}
use Rattle.seam_node_steps.specs.Maps.{Map}
use Rattle.seam_entity.specs.Here.{Here, cell_count}
use Rattle.seam_node_steps.specs.Slots.{NextPlace}
use Rattle.seam_node_steps.specs.Cells.{CellView}
use Rattle.seam_node_steps.specs.Bases.{PartView}
use Rattle.seam_node_steps.specs.Nodes.{NodeView, World, node_has_work, node_steps}
use Rattle.seam_node_steps.specs.Nodes.NodeView.{Cell, Base}
use Rattle.seam_node_steps.specs.Loads.{here_of, opened}
use Rattle.seam_node_steps.specs.Holders.{holders}

-- from the world each event is enabled at its place and leads to the world beside it, in which so many hold the entity's real
abbrev pub IsRow : ℕ → ℕ → World → List (Event × World) → Type 0
IsRow e n w [] = Unit {0}
IsRow e n w (s ∷ ss) = (enabled node_has_work w s.0 ≡ true) × (happens node_steps w s.0 ≡ s.1) × (holders s.1 e ≡ n) × IsRow e n s.1 ss

-- node k takes its task, or the first message from node a
abbrev pub task : ℕ → Event
task k = record { node = k; from = None }

abbrev pub mail : ℕ → ℕ → Event
mail k a = record { node = k; from = Some a }

-- ---- positions, calls and values

abbrev pub at : ℕ → ℕ → Pos
at x z = record { x = x; z = z }

abbrev pub cut : ℕ → Axis → ℕ → Cut
cut cell axis place = record { cell = cell; boundary = record { axis = axis; at = place } }

-- base sender b's n-th call to the cell part of entity 1
abbrev pub call : ℕ → ℕ → Deed → Call
call b n d = record { entity = 1; part = part.Cell; sender = sender.Base b; number = n; deed = d }

-- an avatar's method `hit`
abbrev pub hit : ℕ → Deed
hit n = Method (method_named (codes "hit") avatar_methods) (Number (pos n) ∷ [])

-- entity 1, an avatar
abbrev pub avatar_at : ℕ → ℕ → Create
avatar_at x z = record { entity = 1; ty = 0; pos = at x z }

-- an avatar's values with that hp, in a real and in a ghost
abbrev pub values_of : ℕ → List Value
values_of hp = Number (pos hp) ∷ Number (pos 50) ∷ Number (pos 0) ∷ Text [] ∷ Number (pos 0) ∷ Number (pos 0) ∷ []

abbrev pub copy_at : ℕ → ℕ → ℕ → GhostCopy
copy_at version x z = record {
  ty = 0;
  version = version;
  state = record { pos = at x z; props = Number (pos 100) ∷ Number (pos 50) ∷ Number (pos 0) ∷ Number (pos 0) ∷ [] };
}

-- ---- maps of entity 1

abbrev pub no : {X : Type 0} → Map X
no = table.empty

abbrev pub one : {X : Type 0} → X → Map X
one x = table.insert table.empty 1 x

abbrev pub next_place : ℕ → ℕ → NextPlace
next_place cell generation = record { cell = cell; generation = generation }

abbrev pub ghost : ℕ → Option GhostCopy → Ghost GhostCopy
ghost beat copy = record { beat = beat; copy = copy }

abbrev pub order : {T : Type 0} → ℕ → List (ℕ × T) → OrderView T
order next held = record { next = next; held = held }

-- the orders of the base senders 1 and 2
abbrev pub orders : OrderView Call → OrderView Call → Orders
orders a b = table.insert (table.insert table.empty 2 b) 1 a

-- the real of entity 1, an avatar without a client
abbrev pub real : (hp version public : ℕ) → Pos → Orders → List Call → Cells → (beat generation : ℕ) → RealView
real hp version public p os done haunts beat generation =
    record {
      entity = 1;
      ty = 0;
      state = record { pos = p; props = values_of hp };
      version = version;
      public = public;
      orders = os;
      done = done;
      haunts = haunts;
      beat = beat;
      generation = generation;
      witness = None;
    }

-- ---- worlds of the built-in types and the standard settings

abbrev pub here : ℕ → Here
here k = here_of builtin standard k

abbrev pub empty_world : World
empty_world = opened builtin standard

abbrev pub cell : Division → ℕ → Map RealView → Map NextPlace → Map (Ghost GhostCopy) → List ℕ → List ℕ → CellView
cell t k reals nexts ghosts survey looks =
    record { here = here k; tree = t; number = 0; reals = reals; nexts = nexts; ghosts = ghosts; survey = survey; looks = looks }

abbrev pub idle : Division → ℕ → NodeView
idle t k = Cell (cell t k no no no [] [])

-- messages on their way from a node to a node
abbrev pub Way : Type 0
Way = ℕ × ℕ × List Msg

abbrev pub with_way : List (List (List Msg)) → Way → List (List (List Msg))
with_way rows w = slice_set rows w.0 (slice_set (slice_index_or rows w.0 []) w.1 w.2)

-- these cells and as many idle ones as there are further, two base nodes, and what is on its way
abbrev pub world : Division → List NodeView → NodeView → NodeView → List Way → World
world t cells b16 b17 ways = record {
  nodes = cells ++ map (idle t) (range_with_len (length cells) (cell_count - length cells)) ++ b16 ∷ b17 ∷ [];
  rows = fold with_way (replicate 18 (replicate 18 [])) ways;
}

-- ---- what is told of a world

abbrev pub done_of : Option NodeView → ℕ → Option (List Call)
done_of (Some (Cell c)) e = option_map (λ r. r.done) (table.get c.reals e)
done_of (Some (Base b)) e = None
done_of None e = None

-- the calls that the entity's real in cell k executed in this round
abbrev pub done_in_cell : World → ℕ → ℕ → Option (List Call)
done_in_cell w k e = done_of (slice_get w.nodes k) e

abbrev pub copy_of_node : Option NodeView → ℕ → Option GhostCopy
copy_of_node (Some (Cell c)) e = copy_in (table.get c.ghosts e)
copy_of_node (Some (Base b)) e = None
copy_of_node None e = None

-- the entity's copy in cell k
abbrev pub copy_in_cell : World → ℕ → ℕ → Option GhostCopy
copy_in_cell w k e = copy_of_node (slice_get w.nodes k) e

abbrev pub lines_of_part : Option PartView → Option (List Line)
lines_of_part (Some p) = option_map (λ x. x.lines) p.proxy
lines_of_part None = None

abbrev pub lines_of_node : Option NodeView → ℕ → Option (List Line)
lines_of_node (Some (Base b)) e = lines_of_part (table.get b.parts e)
lines_of_node (Some (Cell c)) e = None
lines_of_node None e = None

-- the lines that the entity's client at node k was shown in this round
abbrev pub lines_of_client : World → ℕ → ℕ → Option (List Line)
lines_of_client w k e = lines_of_node (slice_get w.nodes k) e
