-- Two witnesses on either side of a boundary between two cells, and an entity between them that crosses it.
use Rattle.std.specs.Prelude.{ℕ, pos, false, List, [], ◌∷◌, None, Some}
use Rattle.std.specs.FinMap as table
use Rattle.std.specs.FinSet as set
use Rattle.seam_node_steps.specs.Prelude.{Event, Number, Move, Ghost, Call as CallData, GhostCopy, Line, Shown, Own, Enter, Order, Batch}
use Rattle.seam_node_steps.specs.Prelude.{created, RealView, Msg, Hand, Current, GhostSet, Tick, Update, Map, NextPlace, RouteView}
use Rattle.seam_node_steps.specs.Prelude.{PartView, NodeView, World, Cell, Base, new_part, with_proxy, at, no, here, cell, copy_at, ghost}
use Rattle.seam_node_steps.specs.Prelude.{next_place, Way, world, task, mail, two_cells, order as in_order, made_at, witness, other_at}
use Rattle.seam_node_steps.specs.Prelude.{base_line, line}
use Rattle.seam_defs.specs.declared.flags.Part.TheVariants as part
use Rattle.seam_call.specs.declared.sender.Sender.TheVariants as sender
use Rattle.seam_call.specs.declared.order.Order.TheVariants as order
use Rattle.seam_entity.specs.WitnessLooks.{with_witness}
use Rattle.seam_entity.specs.declared.message.Msg.TheVariants.{Call}
use Rattle.seam_node_steps.specs.ViewRounds.{moves}

-- maps of some of the entities 1, 2 and 3
abbrev pub only : {X : Type 0} → ℕ → X → Map X
only e x = table.insert table.empty e x

abbrev pub and_third : {X : Type 0} → ℕ → X → X → Map X
and_third e x third = table.insert (only 3 third) e x

abbrev pub three : {X : Type 0} → X → X → X → Map X
three a b c = table.insert (and_third 2 b c) 1 a

-- base sender 1 moves entity 3 over the boundary
abbrev pub the_move : CallData
the_move = record { entity = 3; part = part.Cell; sender = sender.Base 1; number = 1; deed = Move (at 5100 1000) }

abbrev pub batch : Batch
batch = record {
  tree = two_cells;
  creates = made_at 1 4850 ∷ made_at 2 5150 ∷ made_at 3 4900 ∷ [];
  clients = 1 ∷ 2 ∷ [];
  orders = (16, order.Cell the_move) ∷ [];
  destroys = [];
  balance = false;
}

-- ---- the entities

abbrev pub watcher_1 : RealView
watcher_1 = with_witness (here 0) (created (here 0) 1 0 (at 4850 1000))

abbrev pub watcher_2 : RealView
watcher_2 = with_witness (here 1) (created (here 1) 2 0 (at 5150 1000))

abbrev pub walker : RealView
walker = created (here 0) 3 0 (at 4900 1000)

-- once they settled
abbrev pub settled_1 : RealView
settled_1 = record watcher_1 { haunts = set.from_list (1 ∷ []); beat = 1 }

abbrev pub settled_2 : RealView
settled_2 = record watcher_2 { haunts = set.from_list (0 ∷ []); beat = 1 }

-- once it crossed
abbrev pub crossed : RealView
crossed = record (created (here 1) 3 0 (at 5100 1000)) {
  version = 1;
  public = 1;
  orders = moves 2;
  done = the_move ∷ [];
  haunts = set.from_list (0 ∷ []);
  beat = 1;
  generation = 1;
}

-- what other cells hear of them
abbrev pub set_1 : Msg
set_1 = GhostSet 1 1 (copy_at 0 4850 1000)

abbrev pub set_2 : Msg
set_2 = GhostSet 2 1 (copy_at 0 5150 1000)

abbrev pub heard_1 : Ghost GhostCopy
heard_1 = ghost 1 (Some (copy_at 0 4850 1000))

abbrev pub heard_2 : Ghost GhostCopy
heard_2 = ghost 1 (Some (copy_at 0 5150 1000))

abbrev pub heard_3 : Ghost GhostCopy
heard_3 = ghost 1 (Some (copy_at 1 5100 1000))

-- ---- worlds

abbrev pub cell_0 : Map RealView → Map NextPlace → Map (Ghost GhostCopy) → List ℕ → NodeView
cell_0 reals nexts ghosts survey = Cell (cell two_cells 0 reals nexts ghosts survey [])

abbrev pub cell_1 : Map RealView → Map (Ghost GhostCopy) → List ℕ → NodeView
cell_1 reals ghosts survey = Cell (cell two_cells 1 reals no ghosts survey [])

-- the cell where entity 3 was, once that left, and the cell where it is, once it came
abbrev pub left : RealView → Map (Ghost GhostCopy) → List ℕ → NodeView
left r ghosts survey = cell_0 (only 1 r) (only 3 (next_place 1 1)) ghosts survey

abbrev pub come : RealView → Map (Ghost GhostCopy) → List ℕ → NodeView
come r ghosts survey = cell_1 (and_third 2 r crossed) ghosts survey

abbrev pub route : ℕ → ℕ → RouteView
route k generation = record { cell = k; generation = generation }

abbrev pub routes : RouteView → Map RouteView
routes third = three (route 0 0) (route 1 0) third

abbrev pub base_16 : List Order → RouteView → NodeView
base_16 os third = Base (record {
  here = here 16;
  cells = 2;
  orders = os;
  routes = routes third;
  parts = only 2 (with_proxy (here 16) (new_part (here 16) 0));
  gone = [];
})

abbrev pub base_17 : RouteView → NodeView
base_17 third = Base (record {
  here = here 17;
  cells = 2;
  orders = [];
  routes = routes third;
  parts = and_third 1 (with_proxy (here 17) (new_part (here 17) 0)) (new_part (here 17) 0);
  gone = [];
})

abbrev pub with_cells : NodeView → NodeView → NodeView → NodeView → List Way → World
with_cells c0 c1 b16 b17 ways = world two_cells (c0 ∷ c1 ∷ []) b16 b17 ways

-- the batch is loaded
unfoldable pub world_0 : World
world_0 = with_cells (cell_0 (and_third 1 watcher_1 walker) no no (1 ∷ 3 ∷ [])) (cell_1 (only 2 watcher_2) no (2 ∷ []))
    (base_16 (order.Cell the_move ∷ []) (route 0 0)) (base_17 (route 0 0)) []

unfoldable pub world_1 : World
world_1 = with_cells (cell_0 (and_third 1 watcher_1 walker) no no (1 ∷ 3 ∷ [])) (cell_1 (only 2 watcher_2) no (2 ∷ []))
    (base_16 [] (route 0 0)) (base_17 (route 0 0)) ((16, 0, Call the_move ∷ []) ∷ [])

-- entity 3 moves, and is handed over
unfoldable pub world_2 : World
world_2 = with_cells (left watcher_1 (only 3 heard_3) (1 ∷ [])) (cell_1 (only 2 watcher_2) no (2 ∷ []))
    (base_16 [] (route 0 0)) (base_17 (route 0 0)) ((0, 1, Hand crossed None ∷ []) ∷ [])

unfoldable pub world_3 : World
world_3 = with_cells (left watcher_1 (only 3 heard_3) (1 ∷ [])) (come watcher_2 (only 3 (ghost 1 None)) (2 ∷ []))
    (base_16 [] (route 0 0)) (base_17 (route 0 0)) ((1, 16, Current 3 1 1 ∷ []) ∷ (1, 17, Current 3 1 1 ∷ []) ∷ [])

unfoldable pub world_4 : World
world_4 = with_cells (left watcher_1 (only 3 heard_3) (1 ∷ [])) (come watcher_2 (only 3 (ghost 1 None)) (2 ∷ []))
    (base_16 [] (route 1 1)) (base_17 (route 0 0)) ((1, 17, Current 3 1 1 ∷ []) ∷ [])

unfoldable pub world_5 : World
world_5 = with_cells (left watcher_1 (only 3 heard_3) (1 ∷ [])) (come watcher_2 (only 3 (ghost 1 None)) (2 ∷ []))
    (base_16 [] (route 1 1)) (base_17 (route 1 1)) []

-- the witnesses settle, and the other cell hears of them
unfoldable pub world_6 : World
world_6 = with_cells (left settled_1 (only 3 heard_3) []) (come watcher_2 (only 3 (ghost 1 None)) (2 ∷ []))
    (base_16 [] (route 1 1)) (base_17 (route 1 1)) ((0, 1, set_1 ∷ []) ∷ [])

unfoldable pub world_7 : World
world_7 = with_cells (left settled_1 (only 3 heard_3) []) (come watcher_2 (and_third 1 heard_1 (ghost 1 None)) (2 ∷ []))
    (base_16 [] (route 1 1)) (base_17 (route 1 1)) []

unfoldable pub world_8 : World
world_8 = with_cells (left settled_1 (only 3 heard_3) []) (come settled_2 (and_third 1 heard_1 (ghost 1 None)) [])
    (base_16 [] (route 1 1)) (base_17 (route 1 1)) ((1, 0, set_2 ∷ []) ∷ [])

unfoldable pub world_9 : World
world_9 = with_cells (left settled_1 (and_third 2 heard_2 heard_3) []) (come settled_2 (and_third 1 heard_1 (ghost 1 None)) [])
    (base_16 [] (route 1 1)) (base_17 (route 1 1)) []

abbrev pub steps : List (Event × World)
steps = (task 16, world_1) ∷ (mail 0 16, world_2) ∷ (mail 1 0, world_3) ∷ (mail 16 1, world_4) ∷ (mail 17 1, world_5) ∷
    (task 0, world_6) ∷ (mail 1 0, world_7) ∷ (task 1, world_8) ∷ (mail 0 1, world_9) ∷ []

-- ---- the looks

abbrev pub own_at : ℕ → Shown
own_at x = Own 0 (record { pos = at x 1000; props = Number (pos 100) ∷ Number (pos 50) ∷ Number (pos 0) ∷ [] })

-- what each witness tells: where it is, the other one, and the entity that crossed, which one of them sees over the boundary
abbrev pub told_1 : List Shown
told_1 = own_at 4850 ∷ Enter 2 (other_at 0 5150) ∷ Enter 3 (other_at 1 5100) ∷ []

abbrev pub told_2 : List Shown
told_2 = own_at 5150 ∷ Enter 1 (other_at 0 4850) ∷ Enter 3 (other_at 1 5100) ∷ []

abbrev pub update_to : ℕ → ℕ → Shown → Msg
update_to e n s = Update (record { entity = e; number = n; shown = s })

abbrev pub looked_1 : RealView
looked_1 = record settled_1 { witness = Some (witness ((2, 0) ∷ (3, 1) ∷ []) (and_third 2 0 1) (Some 0) 3) }

abbrev pub looked_2 : RealView
looked_2 = record settled_2 { witness = Some (witness ((1, 0) ∷ (3, 1) ∷ []) (and_third 1 0 1) (Some 0) 3) }

abbrev pub looking_0 : RealView → List ℕ → NodeView
looking_0 r looks = Cell (cell two_cells 0 (only 1 r) (only 3 (next_place 1 1)) (and_third 2 heard_2 heard_3) [] looks)

abbrev pub looking_1 : RealView → List ℕ → NodeView
looking_1 r looks = Cell (cell two_cells 1 (and_third 2 r crossed) no (and_third 1 heard_1 (ghost 1 None)) [] looks)

-- a base part whose client waits for this update and was shown these lines
abbrev pub part_at : ℕ → ℕ → List Line → PartView
part_at k next lines =
    record (new_part (here k) 0) { proxy = Some (record { updates = in_order next []; lines = lines; last = next }) }

abbrev pub showing_16 : List Order → ℕ → List Line → NodeView
showing_16 os next lines = Base (record {
  here = here 16;
  cells = 2;
  orders = os;
  routes = routes (route 1 1);
  parts = only 2 (part_at 16 next lines);
  gone = [];
})

abbrev pub showing_17 : ℕ → List Line → NodeView
showing_17 next lines = Base (record {
  here = here 17;
  cells = 2;
  orders = [];
  routes = routes (route 1 1);
  parts = and_third 1 (part_at 17 next lines) (new_part (here 17) 0);
  gone = [];
})

unfoldable pub look_0 : World
look_0 = with_cells (looking_0 settled_1 []) (looking_1 settled_2 [])
    (showing_16 (order.Tick ∷ []) 1 (base_line ∷ []))
    (showing_17 1 (base_line ∷ []))
    []

unfoldable pub look_1 : World
look_1 = with_cells (looking_0 settled_1 []) (looking_1 settled_2 [])
    (showing_16 [] 1 (base_line ∷ []))
    (showing_17 1 (base_line ∷ []))
    ((16, 0, Tick ∷ []) ∷ (16, 1, Tick ∷ []) ∷ [])

unfoldable pub look_2 : World
look_2 = with_cells (looking_0 settled_1 (1 ∷ [])) (looking_1 settled_2 [])
    (showing_16 [] 1 (base_line ∷ []))
    (showing_17 1 (base_line ∷ []))
    ((16, 1, Tick ∷ []) ∷ [])

unfoldable pub look_3 : World
look_3 = with_cells (looking_0 settled_1 (1 ∷ [])) (looking_1 settled_2 (2 ∷ []))
    (showing_16 [] 1 (base_line ∷ []))
    (showing_17 1 (base_line ∷ []))
    []

unfoldable pub look_4 : World
look_4 = with_cells (looking_0 looked_1 []) (looking_1 settled_2 (2 ∷ []))
    (showing_16 [] 1 (base_line ∷ []))
    (showing_17 1 (base_line ∷ []))
    ((
      0,
      17,
      update_to 1 1 (own_at 4850) ∷ update_to 1 2 (Enter 2 (other_at 0 5150)) ∷ update_to 1 3 (Enter 3 (other_at 1 5100)) ∷
          [],
    ) ∷ [])

unfoldable pub look_5 : World
look_5 = with_cells (looking_0 looked_1 []) (looking_1 looked_2 [])
    (showing_16 [] 1 (base_line ∷ []))
    (showing_17 1 (base_line ∷ []))
    ((
      0,
      17,
      update_to 1 1 (own_at 4850) ∷ update_to 1 2 (Enter 2 (other_at 0 5150)) ∷ update_to 1 3 (Enter 3 (other_at 1 5100)) ∷
          [],
    ) ∷ (
      1,
      16,
      update_to 2 1 (own_at 5150) ∷ update_to 2 2 (Enter 1 (other_at 0 4850)) ∷
          update_to 2 3 (Enter 3 (other_at 1 5100)) ∷ [],
    ) ∷ [])

unfoldable pub look_6 : World
look_6 = with_cells (looking_0 looked_1 []) (looking_1 looked_2 [])
    (showing_16 [] 1 (base_line ∷ []))
    (showing_17 2 (base_line ∷ line 2 (own_at 4850) ∷ []))
    ((0, 17, update_to 1 2 (Enter 2 (other_at 0 5150)) ∷ update_to 1 3 (Enter 3 (other_at 1 5100)) ∷ []) ∷ (
      1,
      16,
      update_to 2 1 (own_at 5150) ∷ update_to 2 2 (Enter 1 (other_at 0 4850)) ∷ update_to 2 3 (Enter 3 (other_at 1 5100)) ∷
          [],
    ) ∷ [])

unfoldable pub look_7 : World
look_7 = with_cells (looking_0 looked_1 []) (looking_1 looked_2 [])
    (showing_16 [] 1 (base_line ∷ []))
    (showing_17 3 (base_line ∷ line 2 (own_at 4850) ∷ line 3 (Enter 2 (other_at 0 5150)) ∷ []))
    ((0, 17, update_to 1 3 (Enter 3 (other_at 1 5100)) ∷ []) ∷ (
      1,
      16,
      update_to 2 1 (own_at 5150) ∷
          update_to 2 2 (Enter 1 (other_at 0 4850)) ∷ update_to 2 3 (Enter 3 (other_at 1 5100)) ∷ [],
    ) ∷ [])

unfoldable pub look_8 : World
look_8 = with_cells (looking_0 looked_1 []) (looking_1 looked_2 [])
    (showing_16 [] 1 (base_line ∷ []))
    (showing_17 4 (base_line ∷ line 2 (own_at 4850) ∷ line 3 (Enter 2 (other_at 0 5150)) ∷ line 4 (Enter 3 (other_at 1 5100)) ∷ []))
    ((
      1,
      16,
      update_to 2 1 (own_at 5150) ∷ update_to 2 2 (Enter 1 (other_at 0 4850)) ∷ update_to 2 3 (Enter 3 (other_at 1 5100)) ∷
          [],
    ) ∷ [])

unfoldable pub look_9 : World
look_9 = with_cells (looking_0 looked_1 []) (looking_1 looked_2 [])
    (showing_16 [] 2 (base_line ∷ line 2 (own_at 5150) ∷ []))
    (showing_17 4 (base_line ∷ line 2 (own_at 4850) ∷ line 3 (Enter 2 (other_at 0 5150)) ∷ line 4 (Enter 3 (other_at 1 5100)) ∷ []))
    ((1, 16, update_to 2 2 (Enter 1 (other_at 0 4850)) ∷ update_to 2 3 (Enter 3 (other_at 1 5100)) ∷ []) ∷ [])

unfoldable pub look_10 : World
look_10 = with_cells (looking_0 looked_1 []) (looking_1 looked_2 [])
    (showing_16 [] 3 (base_line ∷ line 2 (own_at 5150) ∷ line 3 (Enter 1 (other_at 0 4850)) ∷ []))
    (showing_17 4 (base_line ∷ line 2 (own_at 4850) ∷ line 3 (Enter 2 (other_at 0 5150)) ∷ line 4 (Enter 3 (other_at 1 5100)) ∷ []))
    ((1, 16, update_to 2 3 (Enter 3 (other_at 1 5100)) ∷ []) ∷ [])

unfoldable pub look_11 : World
look_11 = with_cells (looking_0 looked_1 []) (looking_1 looked_2 [])
    (showing_16 [] 4 (base_line ∷ line 2 (own_at 5150) ∷ line 3 (Enter 1 (other_at 0 4850)) ∷ line 4 (Enter 3 (other_at 1 5100)) ∷ []))
    (showing_17 4 (base_line ∷ line 2 (own_at 4850) ∷ line 3 (Enter 2 (other_at 0 5150)) ∷ line 4 (Enter 3 (other_at 1 5100)) ∷ []))
    []

abbrev pub look_steps : List (Event × World)
look_steps =
    (task 16, look_1) ∷ (mail 0 16, look_2) ∷ (mail 1 16, look_3) ∷ (task 0, look_4) ∷ (task 1, look_5) ∷ (mail 17 0, look_6) ∷
    (mail 17 0, look_7) ∷ (mail 17 0, look_8) ∷ (mail 16 1, look_9) ∷ (mail 16 1, look_10) ∷ (mail 16 1, look_11) ∷ []
