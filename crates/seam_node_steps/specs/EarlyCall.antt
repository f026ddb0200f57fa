-- "An early call is held": a call comes to a real before the one that its sender made first.
use Rattle.std.specs.Prelude.{ℕ, false, List, [], ◌∷◌, None}
use Rattle.std.specs.FinMap as table
use Rattle.std.specs.FinSet as set
use Rattle.seam_machine.specs.declared.machines.Event.{Event}
use Rattle.seam_tree.specs.declared.boundary.Axis.TheVariants.{X}
use Rattle.seam_tree.specs.Division.{Division}
use Rattle.seam_defs.specs.declared.states.Deed.TheVariants.{Move}
use Rattle.seam_call.specs.declared.call.Call.{Call as CallData}
use Rattle.seam_call.specs.declared.order.Order.{Order}
use Rattle.seam_call.specs.declared.order.Order.TheVariants as order
use Rattle.seam_call.specs.declared.order.Batch.{Batch}
use Rattle.seam_entity.specs.Reals.{RealView}
use Rattle.seam_entity.specs.declared.message.Msg.TheVariants.{Call, Hand, Current}
use Rattle.seam_entity.specs.Executing.{created}
use Rattle.seam_node_steps.specs.Nodes.{NodeView, World}
use Rattle.seam_node_steps.specs.Nodes.NodeView.{Cell, Base}
use Rattle.seam_node_steps.specs.Loads.{new_part}
use Rattle.seam_node_steps.specs.Rows.{at, cut, call, hit, avatar_at, no, one, next_place, ghost, orders, real, here, cell, idle, Way}
use Rattle.seam_node_steps.specs.Rows.{world}
use Rattle.seam_node_steps.specs.Rows.{task, mail}
use Rattle.seam_node_steps.specs.Rows.{order as in_order}

abbrev pub two_cells : Division
two_cells = record { size = 10000; cuts = cut 0 X 5000 ∷ [] }

abbrev pub the_move : CallData
the_move = call 1 1 (Move (at 6000 100))

abbrev pub hit_1 : CallData
hit_1 = call 2 1 (hit 1)

abbrev pub hit_2 : CallData
hit_2 = call 2 2 (hit 1)

abbrev pub batch : Batch
batch = record {
  tree = two_cells;
  creates = avatar_at 4000 100 ∷ [];
  clients = [];
  destroys = [];
  balance = false;
  orders = (16, order.Cell the_move) ∷ (17, order.Cell hit_1) ∷ (17, order.Cell hit_2) ∷ [];
}

abbrev pub made : RealView
made = created (here 0) 1 0 (at 4000 100)

-- it moved, and was handed over
abbrev pub moved : RealView
moved = real 100 1 1 (at 6000 100) (table.insert table.empty 1 (in_order 2 [])) (the_move ∷ []) set.empty 1 1

-- it holds the early call
abbrev pub holding : RealView
holding = record moved { orders = orders (in_order 2 []) (in_order 1 ((2, hit_2) ∷ [])) }

-- it executed the call before that
abbrev pub hit_once : RealView
hit_once = real 99 2 2 (at 6000 100) (orders (in_order 2 []) (in_order 2 ((2, hit_2) ∷ []))) (the_move ∷ hit_1 ∷ []) set.empty 1 1

abbrev pub hit_twice : RealView
hit_twice = real 98 3 3 (at 6000 100) (orders (in_order 2 []) (in_order 3 [])) (the_move ∷ hit_1 ∷ hit_2 ∷ []) set.empty 1 1

-- cell 0 with the real, and after it left; cell 1 with the real
abbrev pub at_home : RealView → List ℕ → NodeView
at_home r survey = Cell (cell two_cells 0 (one r) no no survey [])

abbrev pub left : NodeView
left = Cell (cell two_cells 0 no (one (next_place 1 1)) (one (ghost 1 None)) [] [])

abbrev pub away : RealView → NodeView
away r = Cell (cell two_cells 1 (one r) no (one (ghost 1 None)) [] [])

-- the base nodes with their orders and their routes
abbrev pub base_16 : List Order → (ℕ × ℕ) → NodeView
base_16 os to = Base (record {
  here = here 16;
  cells = 2;
  orders = os;
  routes = one (record { cell = to.0; generation = to.1 });
  parts = table.empty;
  gone = [];
})

abbrev pub base_17 : List Order → (ℕ × ℕ) → NodeView
base_17 os to = Base (record {
  here = here 17;
  cells = 2;
  orders = os;
  routes = one (record { cell = to.0; generation = to.1 });
  parts = one (new_part (here 17) 0);
  gone = [];
})

abbrev pub with_cells : NodeView → NodeView → NodeView → NodeView → List Way → World
with_cells c0 c1 b16 b17 ways = world two_cells (c0 ∷ c1 ∷ []) b16 b17 ways

unfoldable pub world_0 : World
world_0 = with_cells (at_home made (1 ∷ [])) (idle two_cells 1) (base_16 (order.Cell the_move ∷ []) (0, 0))
    (base_17 (order.Cell hit_1 ∷ order.Cell hit_2 ∷ []) (0, 0)) []

-- survey: nothing is sent
unfoldable pub world_1 : World
world_1 = with_cells (at_home made []) (idle two_cells 1) (base_16 (order.Cell the_move ∷ []) (0, 0))
    (base_17 (order.Cell hit_1 ∷ order.Cell hit_2 ∷ []) (0, 0)) []

unfoldable pub world_2 : World
world_2 = with_cells (at_home made []) (idle two_cells 1) (base_16 [] (0, 0)) (base_17 (order.Cell hit_1 ∷ order.Cell hit_2 ∷ []) (0, 0))
    ((16, 0, Call the_move ∷ []) ∷ [])

unfoldable pub world_3 : World
world_3 = with_cells (at_home made []) (idle two_cells 1) (base_16 [] (0, 0)) (base_17 (order.Cell hit_2 ∷ []) (0, 0))
    ((16, 0, Call the_move ∷ []) ∷ (17, 0, Call hit_1 ∷ []) ∷ [])

-- the move is executed, and the real handed over without a ghost
unfoldable pub world_4 : World
world_4 = with_cells left (idle two_cells 1) (base_16 [] (0, 0)) (base_17 (order.Cell hit_2 ∷ []) (0, 0))
    ((17, 0, Call hit_1 ∷ []) ∷ (0, 1, Hand moved None ∷ []) ∷ [])

unfoldable pub world_5 : World
world_5 = with_cells left (away moved) (base_16 [] (0, 0)) (base_17 (order.Cell hit_2 ∷ []) (0, 0))
    ((17, 0, Call hit_1 ∷ []) ∷ (1, 16, Current 1 1 1 ∷ []) ∷ (1, 17, Current 1 1 1 ∷ []) ∷ [])

unfoldable pub world_6 : World
world_6 = with_cells left (away moved) (base_16 [] (0, 0)) (base_17 (order.Cell hit_2 ∷ []) (1, 1))
    ((17, 0, Call hit_1 ∷ []) ∷ (1, 16, Current 1 1 1 ∷ []) ∷ [])

unfoldable pub world_7 : World
world_7 = with_cells left (away moved) (base_16 [] (0, 0)) (base_17 [] (1, 1))
    ((17, 0, Call hit_1 ∷ []) ∷ (1, 16, Current 1 1 1 ∷ []) ∷ (17, 1, Call hit_2 ∷ []) ∷ [])

-- call 2 is held
unfoldable pub world_8 : World
world_8 = with_cells left (away holding) (base_16 [] (0, 0)) (base_17 [] (1, 1))
    ((17, 0, Call hit_1 ∷ []) ∷ (1, 16, Current 1 1 1 ∷ []) ∷ [])

-- call 1 is passed on
unfoldable pub world_9 : World
world_9 = with_cells left (away holding) (base_16 [] (0, 0)) (base_17 [] (1, 1))
    ((0, 1, Call hit_1 ∷ []) ∷ (1, 16, Current 1 1 1 ∷ []) ∷ [])

unfoldable pub world_10 : World
world_10 = with_cells left (away hit_once) (base_16 [] (0, 0)) (base_17 [] (1, 1)) ((1, 16, Current 1 1 1 ∷ []) ∷ [])

unfoldable pub world_11 : World
world_11 = with_cells left (away hit_twice) (base_16 [] (0, 0)) (base_17 [] (1, 1)) ((1, 16, Current 1 1 1 ∷ []) ∷ [])

unfoldable pub world_12 : World
world_12 = with_cells left (away hit_twice) (base_16 [] (1, 1)) (base_17 [] (1, 1)) []

abbrev pub steps : List (Event × World)
steps = (task 0, world_1) ∷ (task 16, world_2) ∷ (task 17, world_3) ∷ (mail 0 16, world_4) ∷ (mail 1 0, world_5) ∷ (mail 17 1, world_6) ∷
    (task 17, world_7) ∷ (mail 1 17, world_8) ∷ (mail 0 17, world_9) ∷ (mail 1 0, world_10) ∷ (task 1, world_11) ∷ (mail 16 1, world_12) ∷
    []

-- ---- "Passing on": another run of the same batch

-- it executed the first hit at home
abbrev pub hit_at_home : RealView
hit_at_home = real 99 1 1 (at 4000 100) (table.insert table.empty 2 (in_order 2 [])) (hit_1 ∷ []) set.empty 0 0

-- it moved, and was handed over
abbrev pub hit_and_moved : RealView
hit_and_moved = real 99 2 2 (at 6000 100) (orders (in_order 2 []) (in_order 2 [])) (hit_1 ∷ the_move ∷ []) set.empty 1 1

abbrev pub hit_again : RealView
hit_again = real 98 3 3 (at 6000 100) (orders (in_order 2 []) (in_order 3 [])) (hit_1 ∷ the_move ∷ hit_2 ∷ []) set.empty 1 1

unfoldable pub passing_2 : World
passing_2 = with_cells (at_home made []) (idle two_cells 1) (base_16 (order.Cell the_move ∷ []) (0, 0))
    (base_17 (order.Cell hit_2 ∷ []) (0, 0)) ((17, 0, Call hit_1 ∷ []) ∷ [])

unfoldable pub passing_3 : World
passing_3 = with_cells (at_home hit_at_home []) (idle two_cells 1) (base_16 (order.Cell the_move ∷ []) (0, 0))
    (base_17 (order.Cell hit_2 ∷ []) (0, 0)) []

unfoldable pub passing_4 : World
passing_4 = with_cells (at_home hit_at_home []) (idle two_cells 1) (base_16 [] (0, 0)) (base_17 (order.Cell hit_2 ∷ []) (0, 0))
    ((16, 0, Call the_move ∷ []) ∷ [])

unfoldable pub passing_5 : World
passing_5 = with_cells (at_home hit_at_home []) (idle two_cells 1) (base_16 [] (0, 0)) (base_17 [] (0, 0))
    ((16, 0, Call the_move ∷ []) ∷ (17, 0, Call hit_2 ∷ []) ∷ [])

-- the real is handed over
unfoldable pub passing_6 : World
passing_6 = with_cells left (idle two_cells 1) (base_16 [] (0, 0)) (base_17 [] (0, 0))
    ((17, 0, Call hit_2 ∷ []) ∷ (0, 1, Hand hit_and_moved None ∷ []) ∷ [])

-- the second hit is passed on after it
unfoldable pub passing_7 : World
passing_7 = with_cells left (idle two_cells 1) (base_16 [] (0, 0)) (base_17 [] (0, 0))
    ((0, 1, Hand hit_and_moved None ∷ Call hit_2 ∷ []) ∷ [])

unfoldable pub passing_8 : World
passing_8 = with_cells left (away hit_and_moved) (base_16 [] (0, 0)) (base_17 [] (0, 0))
    ((0, 1, Call hit_2 ∷ []) ∷ (1, 16, Current 1 1 1 ∷ []) ∷ (1, 17, Current 1 1 1 ∷ []) ∷ [])

unfoldable pub passing_9 : World
passing_9 = with_cells left (away hit_again) (base_16 [] (0, 0)) (base_17 [] (0, 0))
    ((1, 16, Current 1 1 1 ∷ []) ∷ (1, 17, Current 1 1 1 ∷ []) ∷ [])

unfoldable pub passing_10 : World
passing_10 = with_cells left (away hit_again) (base_16 [] (1, 1)) (base_17 [] (0, 0)) ((1, 17, Current 1 1 1 ∷ []) ∷ [])

unfoldable pub passing_11 : World
passing_11 = with_cells left (away hit_again) (base_16 [] (1, 1)) (base_17 [] (1, 1)) []

abbrev pub passing_steps : List (Event × World)
passing_steps = (task 0, world_1) ∷ (task 17, passing_2) ∷ (mail 0 17, passing_3) ∷ (task 16, passing_4) ∷ (task 17, passing_5) ∷
    (mail 0 16, passing_6) ∷ (mail 0 17, passing_7) ∷ (mail 1 0, passing_8) ∷ (mail 1 0, passing_9) ∷ (mail 16 1, passing_10) ∷
    (mail 17 1, passing_11) ∷ []
