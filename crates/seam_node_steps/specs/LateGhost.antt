-- "A late ghost message": words of a lower beat come after one of a greater beat. Then the entity is reaped.
use Rattle.std.specs.Prelude.{ℕ, false, List, [], ◌∷◌, None, Some}
use Rattle.std.specs.FinSet as set
use Rattle.seam_machine.specs.declared.machines.Event.{Event}
use Rattle.seam_tree.specs.declared.boundary.Axis.TheVariants.{X, Z}
use Rattle.seam_tree.specs.Division.{Division}
use Rattle.seam_defs.specs.declared.states.Deed.TheVariants.{Move}
use Rattle.seam_ghosts.specs.declared.Ghost.{Ghost}
use Rattle.seam_call.specs.declared.call.Call.{Call as CallData}
use Rattle.seam_call.specs.declared.shown.GhostCopy.{GhostCopy}
use Rattle.seam_call.specs.declared.order.Order.{Order}
use Rattle.seam_call.specs.declared.order.Order.TheVariants as order
use Rattle.seam_call.specs.declared.order.Batch.{Batch}
use Rattle.seam_entity.specs.Reals.{RealView}
use Rattle.seam_entity.specs.declared.message.Msg.{Msg}
use Rattle.seam_entity.specs.declared.message.Msg.TheVariants.{Call, Hand, Current, GhostSet, GhostDrop, Reap}
use Rattle.seam_node_steps.specs.Maps.{Map}
use Rattle.seam_entity.specs.Executing.{created}
use Rattle.seam_node_steps.specs.Bases.{PartView}
use Rattle.seam_node_steps.specs.Nodes.{NodeView, World}
use Rattle.seam_node_steps.specs.Nodes.NodeView.{Cell, Base}
use Rattle.seam_node_steps.specs.Loads.{new_part}
use Rattle.seam_node_steps.specs.Rows.{at, cut, call, avatar_at, copy_at, no, one, next_place, ghost, real, here, cell, idle, Way, world}
use Rattle.seam_node_steps.specs.Rows.{task}
use Rattle.seam_node_steps.specs.Rows.{mail}
use Rattle.seam_node_steps.specs.Rows.{order as in_order}

abbrev pub three_cells : Division
three_cells = record { size = 10000; cuts = cut 0 X 5000 ∷ cut 1 Z 5000 ∷ [] }

abbrev pub move_1 : CallData
move_1 = call 1 1 (Move (at 5100 4900))

abbrev pub move_2 : CallData
move_2 = call 1 2 (Move (at 5100 4000))

abbrev pub batch : Batch
batch = record {
  tree = three_cells;
  creates = avatar_at 4900 4900 ∷ [];
  clients = [];
  destroys = [];
  balance = false;
  orders = (16, order.Cell move_1) ∷ (16, order.Cell move_2) ∷ [];
}

abbrev pub made : RealView
made = created (here 0) 1 0 (at 4900 4900)

-- it was surveyed
abbrev pub surveyed : RealView
surveyed = record made { haunts = set.from_list (1 ∷ 2 ∷ []); beat = 1 }

-- it moved, and was handed over
abbrev pub moved : RealView
moved = real 100 1 1 (at 5100 4900) (one (in_order 2 [])) (move_1 ∷ []) (set.from_list (0 ∷ 2 ∷ [])) 2 1

-- it moved on
abbrev pub moved_on : RealView
moved_on = real 100 2 2 (at 5100 4000) (one (in_order 3 [])) (move_1 ∷ move_2 ∷ []) (set.from_list (0 ∷ [])) 3 1

-- what the cells are told, with the beats 1, 2 and 3
abbrev pub set_1 : Msg
set_1 = GhostSet 1 1 (copy_at 0 4900 4900)

abbrev pub set_2 : Msg
set_2 = GhostSet 1 2 (copy_at 1 5100 4900)

abbrev pub set_3 : Msg
set_3 = GhostSet 1 3 (copy_at 2 5100 4000)

-- cell 0 with the real, and after it left
abbrev pub at_home : RealView → List ℕ → NodeView
at_home r survey = Cell (cell three_cells 0 (one r) no no survey [])

abbrev pub left : Ghost GhostCopy → NodeView
left g = Cell (cell three_cells 0 no (one (next_place 1 1)) (one g) [] [])

-- a cell with the real, and one that heard of its ghost alone
abbrev pub away : RealView → NodeView
away r = Cell (cell three_cells 1 (one r) no (one (ghost 2 None)) [] [])

abbrev pub heard : ℕ → Ghost GhostCopy → NodeView
heard k g = Cell (cell three_cells k no no (one g) [] [])

-- a base node with these entities reaped
abbrev pub base_with : ℕ → List Order → (ℕ × ℕ) → Map PartView → List ℕ → NodeView
base_with k os to parts gone = Base (record {
  here = here k;
  cells = 3;
  orders = os;
  routes = one (record { cell = to.0; generation = to.1 });
  parts = parts;
  gone = gone;
})

abbrev pub base_16 : List Order → (ℕ × ℕ) → NodeView
base_16 os to = base_with 16 os to no []

abbrev pub base_17 : List Order → (ℕ × ℕ) → Map PartView → NodeView
base_17 os to parts = base_with 17 os to parts []

-- the base nodes once entity 1 was reaped
abbrev pub after_16 : NodeView
after_16 = base_with 16 [] (1, 1) no (1 ∷ [])

abbrev pub after_17 : List Order → Map PartView → NodeView
after_17 os parts = base_with 17 os (1, 1) parts (1 ∷ [])

abbrev pub new_parts : Map PartView
new_parts = one (new_part (here 17) 0)

abbrev pub with_cells : NodeView → NodeView → NodeView → NodeView → NodeView → List Way → World
with_cells c0 c1 c2 b16 b17 ways = world three_cells (c0 ∷ c1 ∷ c2 ∷ []) b16 b17 ways

unfoldable pub world_0 : World
world_0 = with_cells (at_home made (1 ∷ [])) (idle three_cells 1) (idle three_cells 2)
    (base_16 (order.Cell move_1 ∷ order.Cell move_2 ∷ []) (0, 0)) (base_17 [] (0, 0) new_parts) []

-- survey: sets with beat 1
unfoldable pub world_1 : World
world_1 = with_cells (at_home surveyed []) (idle three_cells 1) (idle three_cells 2)
    (base_16 (order.Cell move_1 ∷ order.Cell move_2 ∷ []) (0, 0)) (base_17 [] (0, 0) new_parts)
    ((0, 1, set_1 ∷ []) ∷ (0, 2, set_1 ∷ []) ∷ [])

unfoldable pub world_2 : World
world_2 = with_cells (at_home surveyed []) (idle three_cells 1) (idle three_cells 2) (base_16 (order.Cell move_2 ∷ []) (0, 0))
    (base_17 [] (0, 0) new_parts) ((0, 1, set_1 ∷ []) ∷ (0, 2, set_1 ∷ []) ∷ (16, 0, Call move_1 ∷ []) ∷ [])

unfoldable pub world_3 : World
world_3 = with_cells (at_home surveyed []) (idle three_cells 1) (idle three_cells 2) (base_16 [] (0, 0)) (base_17 [] (0, 0) new_parts)
    ((0, 1, set_1 ∷ []) ∷ (0, 2, set_1 ∷ []) ∷ (16, 0, Call move_1 ∷ Call move_2 ∷ []) ∷ [])

-- first move: a set with beat 2 to cell 2, an own copy, and the hand-over to cell 1
unfoldable pub world_4 : World
world_4 = with_cells (left (ghost 2 (Some (copy_at 1 5100 4900)))) (idle three_cells 1) (idle three_cells 2) (base_16 [] (0, 0))
    (base_17 [] (0, 0) new_parts) ((0, 1, set_1 ∷ Hand moved None ∷ []) ∷ (0, 2, set_1 ∷ set_2 ∷ []) ∷ (16, 0, Call move_2 ∷ []) ∷ [])

-- the second move is passed on
unfoldable pub world_5 : World
world_5 = with_cells (left (ghost 2 (Some (copy_at 1 5100 4900)))) (idle three_cells 1) (idle three_cells 2) (base_16 [] (0, 0))
    (base_17 [] (0, 0) new_parts) ((0, 1, set_1 ∷ Hand moved None ∷ Call move_2 ∷ []) ∷ (0, 2, set_1 ∷ set_2 ∷ []) ∷ [])

-- a copy in cell 1
unfoldable pub world_6 : World
world_6 = with_cells (left (ghost 2 (Some (copy_at 1 5100 4900)))) (heard 1 (ghost 1 (Some (copy_at 0 4900 4900)))) (idle three_cells 2)
    (base_16 [] (0, 0)) (base_17 [] (0, 0) new_parts) ((0, 1, Hand moved None ∷ Call move_2 ∷ []) ∷ (0, 2, set_1 ∷ set_2 ∷ []) ∷ [])

-- the real comes there, and the copy goes
unfoldable pub world_7 : World
world_7 = with_cells (left (ghost 2 (Some (copy_at 1 5100 4900)))) (away moved) (idle three_cells 2) (base_16 [] (0, 0))
    (base_17 [] (0, 0) new_parts) ((0, 1, Call move_2 ∷ []) ∷ (0, 2, set_1 ∷ set_2 ∷ []) ∷ (1, 16, Current 1 1 1 ∷ []) ∷
    (1, 17, Current 1 1 1 ∷ []) ∷ [])

-- second move: a set with beat 3 to cell 0, a drop with beat 3 to cell 2
unfoldable pub world_8 : World
world_8 = with_cells (left (ghost 2 (Some (copy_at 1 5100 4900)))) (away moved_on) (idle three_cells 2) (base_16 [] (0, 0))
    (base_17 [] (0, 0) new_parts) ((0, 2, set_1 ∷ set_2 ∷ []) ∷ (1, 16, Current 1 1 1 ∷ []) ∷ (1, 17, Current 1 1 1 ∷ []) ∷
    (1, 0, set_3 ∷ []) ∷ (1, 2, GhostDrop 1 3 ∷ []) ∷ [])

-- the drop comes before what was sent earlier
unfoldable pub world_9 : World
world_9 = with_cells (left (ghost 2 (Some (copy_at 1 5100 4900)))) (away moved_on) (heard 2 (ghost 3 None)) (base_16 [] (0, 0))
    (base_17 [] (0, 0) new_parts) ((0, 2, set_1 ∷ set_2 ∷ []) ∷ (1, 16, Current 1 1 1 ∷ []) ∷ (1, 17, Current 1 1 1 ∷ []) ∷
    (1, 0, set_3 ∷ []) ∷ [])

-- which is ignored
unfoldable pub world_10 : World
world_10 = with_cells (left (ghost 2 (Some (copy_at 1 5100 4900)))) (away moved_on) (heard 2 (ghost 3 None)) (base_16 [] (0, 0))
    (base_17 [] (0, 0) new_parts) ((0, 2, set_2 ∷ []) ∷ (1, 16, Current 1 1 1 ∷ []) ∷ (1, 17, Current 1 1 1 ∷ []) ∷ (1, 0, set_3 ∷ []) ∷ [])

unfoldable pub world_11 : World
world_11 = with_cells (left (ghost 2 (Some (copy_at 1 5100 4900)))) (away moved_on) (heard 2 (ghost 3 None)) (base_16 [] (0, 0))
    (base_17 [] (0, 0) new_parts) ((1, 16, Current 1 1 1 ∷ []) ∷ (1, 17, Current 1 1 1 ∷ []) ∷ (1, 0, set_3 ∷ []) ∷ [])

unfoldable pub world_12 : World
world_12 = with_cells (left (ghost 3 (Some (copy_at 2 5100 4000)))) (away moved_on) (heard 2 (ghost 3 None)) (base_16 [] (0, 0))
    (base_17 [] (0, 0) new_parts) ((1, 16, Current 1 1 1 ∷ []) ∷ (1, 17, Current 1 1 1 ∷ []) ∷ [])

unfoldable pub world_13 : World
world_13 = with_cells (left (ghost 3 (Some (copy_at 2 5100 4000)))) (away moved_on) (heard 2 (ghost 3 None)) (base_16 [] (1, 1))
    (base_17 [] (0, 0) new_parts) ((1, 17, Current 1 1 1 ∷ []) ∷ [])

unfoldable pub world_14 : World
world_14 = with_cells (left (ghost 3 (Some (copy_at 2 5100 4000)))) (away moved_on) (heard 2 (ghost 3 None)) (base_16 [] (1, 1))
    (base_17 [] (1, 1) new_parts) []

abbrev pub steps : List (Event × World)
steps = (task 0, world_1) ∷ (task 16, world_2) ∷ (task 16, world_3) ∷ (mail 0 16, world_4) ∷ (mail 0 16, world_5) ∷ (mail 1 0, world_6) ∷
    (mail 1 0, world_7) ∷ (mail 1 0, world_8) ∷ (mail 2 1, world_9) ∷ (mail 2 0, world_10) ∷ (mail 2 0, world_11) ∷ (mail 0 1, world_12) ∷
    (mail 16 1, world_13) ∷ (mail 17 1, world_14) ∷ []

-- ---- a reap, with its load

unfoldable pub reap_0 : World
reap_0 = with_cells (left (ghost 3 (Some (copy_at 2 5100 4000)))) (away moved_on) (heard 2 (ghost 3 None)) after_16
    (after_17 (order.Reap 1 ∷ []) new_parts) []

-- the base part goes, and the route's cell is told
unfoldable pub reap_1 : World
reap_1 = with_cells (left (ghost 3 (Some (copy_at 2 5100 4000)))) (away moved_on) (heard 2 (ghost 3 None)) after_16
    (after_17 [] no) ((17, 1, Reap 1 ∷ []) ∷ [])

-- the real goes, and its haunt is told
unfoldable pub reap_2 : World
reap_2 = with_cells (left (ghost 3 (Some (copy_at 2 5100 4000)))) (heard 1 (ghost 4 None)) (heard 2 (ghost 3 None)) after_16
    (after_17 [] no) ((1, 0, GhostDrop 1 4 ∷ []) ∷ [])

unfoldable pub reap_3 : World
reap_3 = with_cells (left (ghost 4 None)) (heard 1 (ghost 4 None)) (heard 2 (ghost 3 None)) after_16 (after_17 [] no) []

abbrev pub until_reaped : List (Event × World)
until_reaped = (task 17, reap_1) ∷ []

abbrev pub from_reaped : List (Event × World)
from_reaped = (mail 1 17, reap_2) ∷ (mail 0 1, reap_3) ∷ []
