-- "View hysteresis": three rounds of a witness in one cell and of another entity that walks out of its view.
use Rattle.std.specs.Prelude.{ℕ, pos, false, List, [], ◌∷◌, Option, None, Some}
use Rattle.std.specs.FinMap as table
use Rattle.seam_value.specs.declared.values.Value.TheVariants.{Number}
use Rattle.seam_tree.specs.Division.{Division}
use Rattle.seam_defs.specs.declared.flags.Part.TheVariants as part
use Rattle.seam_defs.specs.declared.states.State.{State}
use Rattle.seam_defs.specs.declared.states.Deed.TheVariants.{Move}
use Rattle.seam_machine.specs.declared.machines.Event.{Event}
use Rattle.seam_call.specs.declared.sender.Sender.TheVariants as sender
use Rattle.seam_call.specs.declared.call.Call.{Call as CallData}
use Rattle.seam_call.specs.declared.create.Create.{Create}
use Rattle.seam_call.specs.declared.order.Order.{Order}
use Rattle.seam_call.specs.declared.order.Order.TheVariants as order
use Rattle.seam_call.specs.declared.order.Batch.{Batch}
use Rattle.seam_call.specs.declared.shown.GhostCopy.{GhostCopy}
use Rattle.seam_call.specs.declared.shown.Shown.{Shown}
use Rattle.seam_call.specs.declared.shown.Shown.TheVariants.{Own, Enter, Set, Leave}
use Rattle.seam_call.specs.declared.shown.ClientText.TheVariants as text
use Rattle.seam_call.specs.declared.shown.Line.{Line}
use Rattle.seam_entity.specs.Orders.{Orders}
use Rattle.seam_entity.specs.Reals.{RealView, WitnessView}
use Rattle.seam_entity.specs.declared.message.Msg.{Msg}
use Rattle.seam_entity.specs.declared.message.Msg.TheVariants.{Call, Tick, Update}
use Rattle.seam_node_steps.specs.Maps.{Map}
use Rattle.seam_entity.specs.Executing.{created}
use Rattle.seam_node_steps.specs.Bases.{PartView}
use Rattle.seam_node_steps.specs.Nodes.{NodeView, World}
use Rattle.seam_node_steps.specs.Nodes.NodeView.{Cell, Base}
use Rattle.seam_node_steps.specs.Loads.{one_cell, new_part}
use Rattle.seam_node_steps.specs.Rows.{at, no, one, here, cell, Way, world, task, mail}
use Rattle.seam_node_steps.specs.Rows.{order as in_order}

abbrev pub space : Division
space = one_cell 10000

-- entities 1 and 2
abbrev pub both : {X : Type 0} → X → X → Map X
both a b = table.insert (table.insert table.empty 2 b) 1 a

abbrev pub made_at : ℕ → ℕ → Create
made_at e x = record { entity = e; ty = 0; pos = at x 1000 }

-- base sender 1 moves entity 2
abbrev pub move_to : ℕ → ℕ → CallData
move_to n x = record { entity = 2; part = part.Cell; sender = sender.Base 1; number = n; deed = Move (at x 1000) }

-- the batches of the three rounds
abbrev pub batch_1 : Batch
batch_1 = record {
  tree = space;
  creates = made_at 1 1000 ∷ made_at 2 1300 ∷ [];
  clients = 1 ∷ [];
  orders = [];
  destroys = [];
  balance = false;
}

abbrev pub batch_of : CallData → Batch
batch_of k = record { tree = space; creates = []; clients = []; orders = (16, order.Cell k) ∷ []; destroys = []; balance = false }

-- ---- entity 1, which has a client, and entity 2

abbrev pub witness : List (ℕ × ℕ) → Map ℕ → Option ℕ → ℕ → WitnessView
witness entries shown told sent =
    record { view = record { radius = 300; hysteresis = 10; entries = entries; shown = shown }; told = told; sent = sent }

-- what the client was shown before its first look, and after each of the three
abbrev pub blind : WitnessView
blind = witness [] table.empty None 0

abbrev pub entered : WitnessView
entered = witness ((2, 0) ∷ []) (table.insert table.empty 2 0) (Some 0) 2

abbrev pub changed : WitnessView
changed = witness ((2, 1) ∷ []) (table.insert table.empty 2 1) (Some 0) 3

abbrev pub left : WitnessView
left = witness [] (table.insert table.empty 2 1) (Some 0) 4

abbrev pub watcher : WitnessView → RealView
watcher w = record (created (here 0) 1 0 (at 1000 1000)) { witness = Some w }

-- entity 2 with so many moves behind it, at x, and with these done in this round
abbrev pub walker : ℕ → ℕ → Orders → List CallData → RealView
walker n x os done = record (created (here 0) 2 0 (at x 1000)) { version = n; public = n; orders = os; done = done }

abbrev pub still : RealView
still = created (here 0) 2 0 (at 1300 1000)

abbrev pub moves : ℕ → Orders
moves next = table.insert table.empty 1 (in_order next [])

abbrev pub walked_1 : List CallData → RealView
walked_1 done = walker 1 1310 (moves 2) done

abbrev pub walked_2 : List CallData → RealView
walked_2 done = walker 2 1311 (moves 3) done

-- ---- lines

abbrev pub other_at : ℕ → ℕ → GhostCopy
other_at version x = record {
  ty = 0;
  version = version;
  state = record { pos = at x 1000; props = Number (pos 100) ∷ Number (pos 0) ∷ [] };
}

abbrev pub own_state : State
own_state = record { pos = at 1000 1000; props = Number (pos 100) ∷ Number (pos 50) ∷ Number (pos 0) ∷ [] }

abbrev pub own : Shown
own = Own 0 own_state

abbrev pub enter_2 : Shown
enter_2 = Enter 2 (other_at 0 1300)

abbrev pub set_2 : Shown
set_2 = Set 2 (other_at 1 1310)

abbrev pub leave_2 : Shown
leave_2 = Leave 2

abbrev pub update : ℕ → Shown → Msg
update n s = Update (record { entity = 1; number = n; shown = s })

abbrev pub base_line : Line
base_line = record { number = 1; text = text.Base 0 (Number (pos 1) ∷ []) }

abbrev pub line : ℕ → Shown → Line
line n s = record { number = n; text = text.Shown s }

-- entity 1's base part, whose client waits for this update and was shown these lines in this round
abbrev pub part_of : ℕ → List Line → ℕ → PartView
part_of next lines last = record (new_part (here 17) 0) { proxy = Some (record { updates = in_order next []; lines = lines; last = last }) }

-- ---- worlds

abbrev pub base_16 : List Order → NodeView
base_16 os = Base (record {
  here = here 16;
  cells = 1;
  orders = os;
  routes = both (record { cell = 0; generation = 0 }) (record { cell = 0; generation = 0 });
  parts = table.insert table.empty 2 (new_part (here 16) 0);
  gone = [];
})

abbrev pub base_17 : PartView → NodeView
base_17 p = Base (record {
  here = here 17;
  cells = 1;
  orders = [];
  routes = both (record { cell = 0; generation = 0 }) (record { cell = 0; generation = 0 });
  parts = one p;
  gone = [];
})

abbrev pub with_cell : WitnessView → RealView → List ℕ → List ℕ → List Order → PartView → List Way → World
with_cell w o survey looks os p ways =
    world space (Cell (cell space 0 (both (watcher w) o) no no survey looks) ∷ []) (base_16 os) (base_17 p) ways

-- ---- round 1

unfoldable pub first_0 : World
first_0 = with_cell blind still (1 ∷ 2 ∷ []) [] [] (part_of 1 (base_line ∷ []) 1) []

unfoldable pub first_1 : World
first_1 = with_cell blind still (2 ∷ []) [] [] (part_of 1 (base_line ∷ []) 1) []

unfoldable pub first_2 : World
first_2 = with_cell blind still [] [] [] (part_of 1 (base_line ∷ []) 1) []

abbrev pub first_steps : List (Event × World)
first_steps = (task 0, first_1) ∷ (task 0, first_2) ∷ []

-- a tick is ordered
unfoldable pub first_look_0 : World
first_look_0 = with_cell blind still [] [] (order.Tick ∷ []) (part_of 1 (base_line ∷ []) 1) []

unfoldable pub first_look_1 : World
first_look_1 = with_cell blind still [] [] [] (part_of 1 (base_line ∷ []) 1) ((16, 0, Tick ∷ []) ∷ [])

unfoldable pub first_look_2 : World
first_look_2 = with_cell blind still [] (1 ∷ []) [] (part_of 1 (base_line ∷ []) 1) []

-- the witness looks
unfoldable pub first_look_3 : World
first_look_3 = with_cell entered still [] [] [] (part_of 1 (base_line ∷ []) 1) ((0, 17, update 1 own ∷ update 2 enter_2 ∷ []) ∷ [])

unfoldable pub first_look_4 : World
first_look_4 = with_cell entered still [] [] [] (part_of 2 (base_line ∷ line 2 own ∷ []) 2) ((0, 17, update 2 enter_2 ∷ []) ∷ [])

unfoldable pub first_look_5 : World
first_look_5 = with_cell entered still [] [] [] (part_of 3 (base_line ∷ line 2 own ∷ line 3 enter_2 ∷ []) 3) []

abbrev pub first_looks : List (Event × World)
first_looks = (task 16, first_look_1) ∷ (mail 0 16, first_look_2) ∷ (task 0, first_look_3) ∷ (mail 17 0, first_look_4) ∷
    (mail 17 0, first_look_5) ∷ []

-- ---- round 2

unfoldable pub second_0 : World
second_0 = with_cell entered still (1 ∷ 2 ∷ []) [] (order.Cell (move_to 1 1310) ∷ []) (part_of 3 [] 3) []

unfoldable pub second_1 : World
second_1 = with_cell entered still (2 ∷ []) [] (order.Cell (move_to 1 1310) ∷ []) (part_of 3 [] 3) []

unfoldable pub second_2 : World
second_2 = with_cell entered still [] [] (order.Cell (move_to 1 1310) ∷ []) (part_of 3 [] 3) []

unfoldable pub second_3 : World
second_3 = with_cell entered still [] [] [] (part_of 3 [] 3) ((16, 0, Call (move_to 1 1310) ∷ []) ∷ [])

unfoldable pub second_4 : World
second_4 = with_cell entered (walked_1 (move_to 1 1310 ∷ [])) [] [] [] (part_of 3 [] 3) []

abbrev pub second_steps : List (Event × World)
second_steps = (task 0, second_1) ∷ (task 0, second_2) ∷ (task 16, second_3) ∷ (mail 0 16, second_4) ∷ []

-- a tick is ordered
unfoldable pub second_look_0 : World
second_look_0 = with_cell entered (walked_1 (move_to 1 1310 ∷ [])) [] [] (order.Tick ∷ []) (part_of 3 [] 3) []

unfoldable pub second_look_1 : World
second_look_1 = with_cell entered (walked_1 (move_to 1 1310 ∷ [])) [] [] [] (part_of 3 [] 3) ((16, 0, Tick ∷ []) ∷ [])

unfoldable pub second_look_2 : World
second_look_2 = with_cell entered (walked_1 (move_to 1 1310 ∷ [])) [] (1 ∷ []) [] (part_of 3 [] 3) []

-- the witness looks
unfoldable pub second_look_3 : World
second_look_3 = with_cell changed (walked_1 (move_to 1 1310 ∷ [])) [] [] [] (part_of 3 [] 3) ((0, 17, update 3 set_2 ∷ []) ∷ [])

unfoldable pub second_look_4 : World
second_look_4 = with_cell changed (walked_1 (move_to 1 1310 ∷ [])) [] [] [] (part_of 4 (line 4 set_2 ∷ []) 4) []

abbrev pub second_looks : List (Event × World)
second_looks = (task 16, second_look_1) ∷ (mail 0 16, second_look_2) ∷ (task 0, second_look_3) ∷ (mail 17 0, second_look_4) ∷ []

-- ---- round 3

unfoldable pub third_0 : World
third_0 = with_cell changed (walked_1 []) (1 ∷ 2 ∷ []) [] (order.Cell (move_to 2 1311) ∷ []) (part_of 4 [] 4) []

unfoldable pub third_1 : World
third_1 = with_cell changed (walked_1 []) (2 ∷ []) [] (order.Cell (move_to 2 1311) ∷ []) (part_of 4 [] 4) []

unfoldable pub third_2 : World
third_2 = with_cell changed (walked_1 []) [] [] (order.Cell (move_to 2 1311) ∷ []) (part_of 4 [] 4) []

unfoldable pub third_3 : World
third_3 = with_cell changed (walked_1 []) [] [] [] (part_of 4 [] 4) ((16, 0, Call (move_to 2 1311) ∷ []) ∷ [])

unfoldable pub third_4 : World
third_4 = with_cell changed (walked_2 (move_to 2 1311 ∷ [])) [] [] [] (part_of 4 [] 4) []

abbrev pub third_steps : List (Event × World)
third_steps = (task 0, third_1) ∷ (task 0, third_2) ∷ (task 16, third_3) ∷ (mail 0 16, third_4) ∷ []

-- a tick is ordered
unfoldable pub third_look_0 : World
third_look_0 = with_cell changed (walked_2 (move_to 2 1311 ∷ [])) [] [] (order.Tick ∷ []) (part_of 4 [] 4) []

unfoldable pub third_look_1 : World
third_look_1 = with_cell changed (walked_2 (move_to 2 1311 ∷ [])) [] [] [] (part_of 4 [] 4) ((16, 0, Tick ∷ []) ∷ [])

unfoldable pub third_look_2 : World
third_look_2 = with_cell changed (walked_2 (move_to 2 1311 ∷ [])) [] (1 ∷ []) [] (part_of 4 [] 4) []

-- the witness looks
unfoldable pub third_look_3 : World
third_look_3 = with_cell left (walked_2 (move_to 2 1311 ∷ [])) [] [] [] (part_of 4 [] 4) ((0, 17, update 4 leave_2 ∷ []) ∷ [])

unfoldable pub third_look_4 : World
third_look_4 = with_cell left (walked_2 (move_to 2 1311 ∷ [])) [] [] [] (part_of 5 (line 5 leave_2 ∷ []) 5) []

abbrev pub third_looks : List (Event × World)
third_looks = (task 16, third_look_1) ∷ (mail 0 16, third_look_2) ∷ (task 0, third_look_3) ∷ (mail 17 0, third_look_4) ∷ []
