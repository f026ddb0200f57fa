-- Two rounds of two entities with clients, one in each of two cells. In the first round a base node hits entity 1, all witnesses look, it
-- hits it again, and entity 2 dies. In the second one it hits it a third time.
use Rattle.std.specs.Prelude.{ℕ, ◌+◌, ◌-◌, pos, List, [], ◌∷◌, ◌++◌, None, Some}
use Rattle.std.specs.FinMap as table
use Rattle.std.specs.FinSet as set
use Rattle.seam_node_steps.specs.Prelude.{Event, Number, State, Ghost, Call as CallData, Create, GhostCopy, Line, Shown, Own, Enter, Leave}
use Rattle.seam_node_steps.specs.Prelude.{Order, created, RealView, WitnessView, Msg, GhostSet, GhostDrop, Tick, Reap, Update, Map}
use Rattle.seam_node_steps.specs.Prelude.{PartView, RouteView, NodeView, World, Cell, Base, new_part, at, no, one, here, cell, copy_at}
use Rattle.seam_node_steps.specs.Prelude.{ghost, hit}
use Rattle.seam_node_steps.specs.Prelude.{call, real, Way, world, task, mail, two_cells, order as in_order, made_at, witness, blind, both}
use Rattle.seam_node_steps.specs.Prelude.{other_at, base_line, line}
use Rattle.seam_call.specs.declared.order.Order.TheVariants as order
use Rattle.seam_entity.specs.declared.message.Msg.TheVariants.{Call}
use Rattle.seam_rule_rounds.specs.Prelude.{header, Entry, Standing, after_header}
use Rattle.seam_rule_lines.specs.declared.verdict.Entry.TheVariants as entry
use Rattle.seam_law_calls.specs.Prelude.{events_of}
use Rattle.seam_law_transcript.specs.Steps.{RoundSteps, with_all_accepted, left_by}

-- ---- the entities

abbrev pub new_1 : RealView
new_1 = record (created (here 0) 1 0 (at 4850 1000)) { witness = Some blind }

abbrev pub new_2 : RealView
new_2 = record (created (here 1) 2 0 (at 5150 1000)) { witness = Some blind }

-- once they settled, each with a ghost in the other one's cell
abbrev pub settled_1 : RealView
settled_1 = record new_1 { haunts = set.from_list (1 ∷ []); beat = 1 }

abbrev pub settled_2 : WitnessView → RealView
settled_2 w = record new_2 { haunts = set.from_list (0 ∷ []); beat = 1; witness = Some w }

-- base sender 1's n-th call
abbrev pub the_hit : ℕ → CallData
the_hit n = call 1 n (hit 1)

-- entity 1 after n hits, of which these came in this round
abbrev pub struck : ℕ → List CallData → WitnessView → RealView
struck n done w = record (real (100 - n) n n (at 4850 1000) (one (in_order (n + 1) [])) done (set.from_list (1 ∷ [])) (n + 1) 0) {
  witness = Some w;
}

-- what each client was shown: in the tick, when the other one was gone, and after the last hit
abbrev pub only : {X : Type 0} → ℕ → X → Map X
only e x = table.insert table.empty e x

abbrev pub seeing_2 : WitnessView
seeing_2 = witness ((2, 0) ∷ []) (only 2 0) (Some 1) 2

abbrev pub seeing_1 : WitnessView
seeing_1 = witness ((1, 1) ∷ []) (only 1 1) (Some 0) 2

abbrev pub alone : ℕ → ℕ → WitnessView
alone version sent = witness [] (only 2 0) (Some version) sent

-- ---- what cells hear

abbrev pub copy_1 : ℕ → GhostCopy
copy_1 n = record {
  ty = 0;
  version = n;
  state = record { pos = at 4850 1000; props = Number (pos (100 - n)) ∷ Number (pos 50) ∷ Number (pos 0) ∷ Number (pos 0) ∷ [] };
}

abbrev pub set_1 : ℕ → Msg
set_1 n = GhostSet 1 (n + 1) (copy_1 n)

abbrev pub set_2 : Msg
set_2 = GhostSet 2 1 (copy_at 0 5150 1000)

abbrev pub heard_1 : ℕ → Ghost GhostCopy
heard_1 n = ghost (n + 1) (Some (copy_1 n))

abbrev pub heard_2 : Ghost GhostCopy
heard_2 = ghost 1 (Some (copy_at 0 5150 1000))

-- entity 2 was reaped
abbrev pub gone_2 : Ghost GhostCopy
gone_2 = ghost 2 None

-- ---- what clients are shown

abbrev pub state_of : ℕ → ℕ → State
state_of hp x = record { pos = at x 1000; props = Number (pos hp) ∷ Number (pos 50) ∷ Number (pos 0) ∷ [] }

abbrev pub own_1 : ℕ → Shown
own_1 n = Own n (state_of (100 - n) 4850)

abbrev pub own_2 : Shown
own_2 = Own 0 (state_of 100 5150)

-- each the other one, entity 1 after the first hit
abbrev pub enter_2 : Shown
enter_2 = Enter 2 (other_at 0 5150)

abbrev pub enter_1 : Shown
enter_1 = Enter 1 (record { ty = 0; version = 1; state = record { pos = at 4850 1000; props = Number (pos 99) ∷ Number (pos 0) ∷ [] } })

abbrev pub leave_2 : Shown
leave_2 = Leave 2

abbrev pub update : ℕ → ℕ → Shown → Msg
update e n s = Update (record { entity = e; number = n; shown = s })

-- the lines of the two clients in the first round: of the tick, and of the looks at its end
abbrev pub lines_1 : List Line
lines_1 = base_line ∷ line 2 (own_1 1) ∷ line 3 enter_2 ∷ []

abbrev pub lines_2 : List Line
lines_2 = base_line ∷ line 2 own_2 ∷ line 3 enter_1 ∷ []

abbrev pub last_lines_1 : List Line
last_lines_1 = base_line ∷ line 2 (own_1 1) ∷ line 3 enter_2 ∷ line 4 (own_1 2) ∷ line 5 leave_2 ∷ []

-- ---- nodes

abbrev pub cell_0 : RealView → Map (Ghost GhostCopy) → List ℕ → List ℕ → NodeView
cell_0 r ghosts survey looks = Cell (cell two_cells 0 (one r) no ghosts survey looks)

abbrev pub cell_1 : Map RealView → Map (Ghost GhostCopy) → List ℕ → List ℕ → NodeView
cell_1 reals ghosts survey looks = Cell (cell two_cells 1 reals no ghosts survey looks)

-- a base part whose client waits for this update and was shown these lines, the last of this number
abbrev pub part_at : ℕ → ℕ → List Line → ℕ → PartView
part_at k next lines last =
    record (new_part (here k) 0) { proxy = Some (record { updates = in_order next []; lines = lines; last = last }) }

-- base node k, told that these were reaped
abbrev pub base_with : ℕ → List Order → Map RouteView → Map PartView → List ℕ → NodeView
base_with k os routes parts gone =
    Base (record { here = here k; cells = 2; orders = os; routes = routes; parts = parts; gone = gone })

abbrev pub both_routes : Map RouteView
both_routes = both (record { cell = 0; generation = 0 }) (record { cell = 1; generation = 0 })

abbrev pub base_16 : List Order → Map PartView → NodeView
base_16 os parts = base_with 16 os both_routes parts []

abbrev pub base_17 : PartView → NodeView
base_17 p = base_with 17 [] both_routes (one p) []

-- once entity 2 was reaped
abbrev pub reaped_16 : List Order → Map PartView → NodeView
reaped_16 os parts = base_with 16 os both_routes parts (2 ∷ [])

abbrev pub reaped_17 : PartView → NodeView
reaped_17 p = base_with 17 [] both_routes (one p) (2 ∷ [])

-- and in the round after that
abbrev pub later_16 : List Order → NodeView
later_16 os = base_with 16 os (one (record { cell = 0; generation = 0 })) no []

abbrev pub later_17 : PartView → NodeView
later_17 p = base_with 17 [] (one (record { cell = 0; generation = 0 })) (one p) []

abbrev pub with_cells : NodeView → NodeView → NodeView → NodeView → List Way → World
with_cells c0 c1 b16 b17 ways = world two_cells (c0 ∷ c1 ∷ []) b16 b17 ways

-- the clients before the tick, and after it
abbrev pub waiting_2 : Map PartView
waiting_2 = only 2 (part_at 16 1 (base_line ∷ []) 1)

abbrev pub waiting_1 : PartView
waiting_1 = part_at 17 1 (base_line ∷ []) 1

abbrev pub shown_2 : Map PartView
shown_2 = only 2 (part_at 16 3 lines_2 3)

abbrev pub shown_1 : PartView
shown_1 = part_at 17 3 lines_1 3

-- what base node 16 is to pass on
abbrev pub hits : ℕ → Order
hits n = order.Cell (the_hit n)

-- ---- the calls of the first round

abbrev pub all_orders : List Order
all_orders = hits 1 ∷ order.Tick ∷ hits 2 ∷ []

unfoldable pub call_0 : World
call_0 = with_cells (cell_0 new_1 no (1 ∷ []) []) (cell_1 (only 2 new_2) no (2 ∷ []) []) (base_16 all_orders waiting_2)
    (base_17 waiting_1) []

-- both settle, and each cell hears of the other's entity
unfoldable pub call_1 : World
call_1 = with_cells (cell_0 settled_1 no [] []) (cell_1 (only 2 new_2) no (2 ∷ []) []) (base_16 all_orders waiting_2)
    (base_17 waiting_1) ((0, 1, set_1 0 ∷ []) ∷ [])

unfoldable pub call_2 : World
call_2 = with_cells (cell_0 settled_1 no [] []) (cell_1 (only 2 (settled_2 blind)) no [] []) (base_16 all_orders waiting_2)
    (base_17 waiting_1) ((0, 1, set_1 0 ∷ []) ∷ (1, 0, set_2 ∷ []) ∷ [])

unfoldable pub call_3 : World
call_3 = with_cells (cell_0 settled_1 no [] []) (cell_1 (only 2 (settled_2 blind)) (one (heard_1 0)) [] []) (base_16 all_orders waiting_2)
    (base_17 waiting_1) ((1, 0, set_2 ∷ []) ∷ [])

unfoldable pub call_4 : World
call_4 = with_cells (cell_0 settled_1 (only 2 heard_2) [] []) (cell_1 (only 2 (settled_2 blind)) (one (heard_1 0)) [] [])
    (base_16 all_orders waiting_2) (base_17 waiting_1) []

-- the first hit
unfoldable pub call_5 : World
call_5 = with_cells (cell_0 settled_1 (only 2 heard_2) [] []) (cell_1 (only 2 (settled_2 blind)) (one (heard_1 0)) [] [])
    (base_16 (order.Tick ∷ hits 2 ∷ []) waiting_2) (base_17 waiting_1) ((16, 0, Call (the_hit 1) ∷ []) ∷ [])

abbrev pub hit_once : WitnessView → RealView
hit_once w = struck 1 (the_hit 1 ∷ []) w

unfoldable pub call_6 : World
call_6 = with_cells (cell_0 (hit_once blind) (only 2 heard_2) [] []) (cell_1 (only 2 (settled_2 blind)) (one (heard_1 0)) [] [])
    (base_16 (order.Tick ∷ hits 2 ∷ []) waiting_2) (base_17 waiting_1) ((0, 1, set_1 1 ∷ []) ∷ [])

unfoldable pub call_7 : World
call_7 = with_cells (cell_0 (hit_once blind) (only 2 heard_2) [] []) (cell_1 (only 2 (settled_2 blind)) (one (heard_1 1)) [] [])
    (base_16 (order.Tick ∷ hits 2 ∷ []) waiting_2) (base_17 waiting_1) []

-- the tick: both witnesses look
unfoldable pub call_8 : World
call_8 = with_cells (cell_0 (hit_once blind) (only 2 heard_2) [] []) (cell_1 (only 2 (settled_2 blind)) (one (heard_1 1)) [] [])
    (base_16 (hits 2 ∷ []) waiting_2) (base_17 waiting_1) ((16, 0, Tick ∷ []) ∷ (16, 1, Tick ∷ []) ∷ [])

unfoldable pub call_9 : World
call_9 = with_cells (cell_0 (hit_once blind) (only 2 heard_2) [] (1 ∷ [])) (cell_1 (only 2 (settled_2 blind)) (one (heard_1 1)) [] [])
    (base_16 (hits 2 ∷ []) waiting_2) (base_17 waiting_1) ((16, 1, Tick ∷ []) ∷ [])

unfoldable pub call_10 : World
call_10 = with_cells (cell_0 (hit_once blind) (only 2 heard_2) [] (1 ∷ []))
    (cell_1 (only 2 (settled_2 blind)) (one (heard_1 1)) [] (2 ∷ [])) (base_16 (hits 2 ∷ []) waiting_2) (base_17 waiting_1) []

unfoldable pub call_11 : World
call_11 = with_cells (cell_0 (hit_once seeing_2) (only 2 heard_2) [] [])
    (cell_1 (only 2 (settled_2 blind)) (one (heard_1 1)) [] (2 ∷ [])) (base_16 (hits 2 ∷ []) waiting_2) (base_17 waiting_1)
    ((0, 17, update 1 1 (own_1 1) ∷ update 1 2 enter_2 ∷ []) ∷ [])

unfoldable pub call_12 : World
call_12 = with_cells (cell_0 (hit_once seeing_2) (only 2 heard_2) [] [])
    (cell_1 (only 2 (settled_2 seeing_1)) (one (heard_1 1)) [] []) (base_16 (hits 2 ∷ []) waiting_2) (base_17 waiting_1)
    ((0, 17, update 1 1 (own_1 1) ∷ update 1 2 enter_2 ∷ []) ∷ (1, 16, update 2 1 own_2 ∷ update 2 2 enter_1 ∷ []) ∷ [])

-- and their clients are shown it
unfoldable pub call_13 : World
call_13 = with_cells (cell_0 (hit_once seeing_2) (only 2 heard_2) [] [])
    (cell_1 (only 2 (settled_2 seeing_1)) (one (heard_1 1)) [] []) (base_16 (hits 2 ∷ []) waiting_2)
    (base_17 (part_at 17 2 (base_line ∷ line 2 (own_1 1) ∷ []) 2))
    ((0, 17, update 1 2 enter_2 ∷ []) ∷ (1, 16, update 2 1 own_2 ∷ update 2 2 enter_1 ∷ []) ∷ [])

unfoldable pub call_14 : World
call_14 = with_cells (cell_0 (hit_once seeing_2) (only 2 heard_2) [] [])
    (cell_1 (only 2 (settled_2 seeing_1)) (one (heard_1 1)) [] []) (base_16 (hits 2 ∷ []) waiting_2)
    (base_17 shown_1) ((1, 16, update 2 1 own_2 ∷ update 2 2 enter_1 ∷ []) ∷ [])

unfoldable pub call_15 : World
call_15 = with_cells (cell_0 (hit_once seeing_2) (only 2 heard_2) [] [])
    (cell_1 (only 2 (settled_2 seeing_1)) (one (heard_1 1)) [] [])
    (base_16 (hits 2 ∷ []) (only 2 (part_at 16 2 (base_line ∷ line 2 own_2 ∷ []) 2))) (base_17 shown_1)
    ((1, 16, update 2 2 enter_1 ∷ []) ∷ [])

unfoldable pub call_16 : World
call_16 = with_cells (cell_0 (hit_once seeing_2) (only 2 heard_2) [] [])
    (cell_1 (only 2 (settled_2 seeing_1)) (one (heard_1 1)) [] []) (base_16 (hits 2 ∷ []) shown_2) (base_17 shown_1) []

-- the second hit
unfoldable pub call_17 : World
call_17 = with_cells (cell_0 (hit_once seeing_2) (only 2 heard_2) [] [])
    (cell_1 (only 2 (settled_2 seeing_1)) (one (heard_1 1)) [] []) (base_16 [] shown_2) (base_17 shown_1)
    ((16, 0, Call (the_hit 2) ∷ []) ∷ [])

abbrev pub hit_twice : List CallData → WitnessView → RealView
hit_twice done w = struck 2 done w

abbrev pub two_hits : List CallData
two_hits = the_hit 1 ∷ the_hit 2 ∷ []

unfoldable pub call_18 : World
call_18 = with_cells (cell_0 (hit_twice two_hits seeing_2) (only 2 heard_2) [] [])
    (cell_1 (only 2 (settled_2 seeing_1)) (one (heard_1 1)) [] []) (base_16 [] shown_2) (base_17 shown_1)
    ((0, 1, set_1 2 ∷ []) ∷ [])

unfoldable pub call_19 : World
call_19 = with_cells (cell_0 (hit_twice two_hits seeing_2) (only 2 heard_2) [] [])
    (cell_1 (only 2 (settled_2 seeing_1)) (one (heard_1 2)) [] []) (base_16 [] shown_2) (base_17 shown_1) []

-- until the tick has come to both cells, and from then on
abbrev pub early_calls : List (Event × World)
early_calls = (task 0, call_1) ∷ (task 1, call_2) ∷ (mail 1 0, call_3) ∷ (mail 0 1, call_4) ∷ (task 16, call_5) ∷ (mail 0 16, call_6) ∷
    (mail 1 0, call_7) ∷ (task 16, call_8) ∷ (mail 0 16, call_9) ∷ (mail 1 16, call_10) ∷ []

abbrev pub later_calls : List (Event × World)
later_calls = (task 0, call_11) ∷ (task 1, call_12) ∷ (mail 17 0, call_13) ∷ (mail 17 0, call_14) ∷ (mail 16 1, call_15) ∷
    (mail 16 1, call_16) ∷ (task 16, call_17) ∷ (mail 0 16, call_18) ∷ (mail 1 0, call_19) ∷ []

-- ---- its reaps

unfoldable pub reap_0 : World
reap_0 = with_cells (cell_0 (hit_twice two_hits seeing_2) (only 2 heard_2) [] [])
    (cell_1 (only 2 (settled_2 seeing_1)) (one (heard_1 2)) [] []) (reaped_16 (order.Reap 2 ∷ []) shown_2) (reaped_17 shown_1) []

-- the base part goes, and the client with it
unfoldable pub reap_1 : World
reap_1 = with_cells (cell_0 (hit_twice two_hits seeing_2) (only 2 heard_2) [] [])
    (cell_1 (only 2 (settled_2 seeing_1)) (one (heard_1 2)) [] []) (reaped_16 [] no) (reaped_17 shown_1)
    ((16, 1, Reap 2 ∷ []) ∷ [])

-- then the real, and then the ghost
unfoldable pub reap_2 : World
reap_2 = with_cells (cell_0 (hit_twice two_hits seeing_2) (only 2 heard_2) [] [])
    (cell_1 no (both (heard_1 2) gone_2) [] []) (reaped_16 [] no) (reaped_17 shown_1)
    ((1, 0, GhostDrop 2 2 ∷ []) ∷ [])

unfoldable pub reap_3 : World
reap_3 = with_cells (cell_0 (hit_twice two_hits seeing_2) (only 2 gone_2) [] [])
    (cell_1 no (both (heard_1 2) gone_2) [] []) (reaped_16 [] no) (reaped_17 shown_1) []

abbrev pub reaps : List (Event × World)
reaps = (task 16, reap_1) ∷ (mail 1 16, reap_2) ∷ (mail 0 1, reap_3) ∷ []

-- ---- its looks

abbrev pub empty_cell : NodeView
empty_cell = cell_1 no (both (heard_1 2) gone_2) [] []

unfoldable pub look_0 : World
look_0 = with_cells (cell_0 (hit_twice two_hits seeing_2) (only 2 gone_2) [] []) empty_cell (reaped_16 (order.Tick ∷ []) no)
    (reaped_17 shown_1) []

unfoldable pub look_1 : World
look_1 = with_cells (cell_0 (hit_twice two_hits seeing_2) (only 2 gone_2) [] []) empty_cell (reaped_16 [] no)
    (reaped_17 shown_1) ((16, 0, Tick ∷ []) ∷ (16, 1, Tick ∷ []) ∷ [])

unfoldable pub look_2 : World
look_2 = with_cells (cell_0 (hit_twice two_hits seeing_2) (only 2 gone_2) [] (1 ∷ [])) empty_cell (reaped_16 [] no)
    (reaped_17 shown_1) ((16, 1, Tick ∷ []) ∷ [])

unfoldable pub look_3 : World
look_3 = with_cells (cell_0 (hit_twice two_hits seeing_2) (only 2 gone_2) [] (1 ∷ [])) empty_cell (reaped_16 [] no)
    (reaped_17 shown_1) []

unfoldable pub look_4 : World
look_4 = with_cells (cell_0 (hit_twice two_hits (alone 2 4)) (only 2 gone_2) [] []) empty_cell (reaped_16 [] no)
    (reaped_17 shown_1) ((0, 17, update 1 3 (own_1 2) ∷ update 1 4 leave_2 ∷ []) ∷ [])

unfoldable pub look_5 : World
look_5 = with_cells (cell_0 (hit_twice two_hits (alone 2 4)) (only 2 gone_2) [] []) empty_cell (reaped_16 [] no)
    (reaped_17 (part_at 17 4 (base_line ∷ line 2 (own_1 1) ∷ line 3 enter_2 ∷ line 4 (own_1 2) ∷ []) 4))
    ((0, 17, update 1 4 leave_2 ∷ []) ∷ [])

unfoldable pub look_6 : World
look_6 = with_cells (cell_0 (hit_twice two_hits (alone 2 4)) (only 2 gone_2) [] []) empty_cell (reaped_16 [] no)
    (reaped_17 (part_at 17 5 last_lines_1 5)) []

abbrev pub looks : List (Event × World)
looks = (task 16, look_1) ∷ (mail 0 16, look_2) ∷ (mail 1 16, look_3) ∷ (task 0, look_4) ∷ (mail 17 0, look_5) ∷ (mail 17 0, look_6) ∷ []

-- ---- the second round

abbrev pub quiet_1 : PartView
quiet_1 = part_at 17 5 [] 5

-- its beat of entity 2 is forgotten
abbrev pub emptied_cell : NodeView
emptied_cell = cell_1 no (one (heard_1 2)) [] []

unfoldable pub next_0 : World
next_0 = with_cells (cell_0 (hit_twice [] (alone 2 4)) no (1 ∷ []) []) emptied_cell (later_16 (hits 3 ∷ []))
    (later_17 quiet_1) []

unfoldable pub next_1 : World
next_1 = with_cells (cell_0 (hit_twice [] (alone 2 4)) no [] []) emptied_cell (later_16 (hits 3 ∷ []))
    (later_17 quiet_1) []

-- the third hit
unfoldable pub next_2 : World
next_2 = with_cells (cell_0 (hit_twice [] (alone 2 4)) no [] []) emptied_cell (later_16 [])
    (later_17 quiet_1) ((16, 0, Call (the_hit 3) ∷ []) ∷ [])

abbrev pub hit_thrice : WitnessView → RealView
hit_thrice w = struck 3 (the_hit 3 ∷ []) w

unfoldable pub next_3 : World
next_3 = with_cells (cell_0 (hit_thrice (alone 2 4)) no [] []) emptied_cell (later_16 [])
    (later_17 quiet_1) ((0, 1, set_1 3 ∷ []) ∷ [])

abbrev pub last_cell : NodeView
last_cell = cell_1 no (one (heard_1 3)) [] []

unfoldable pub next_4 : World
next_4 = with_cells (cell_0 (hit_thrice (alone 2 4)) no [] []) last_cell (later_16 []) (later_17 quiet_1) []

abbrev pub next_calls : List (Event × World)
next_calls = (task 0, next_1) ∷ (task 16, next_2) ∷ (mail 0 16, next_3) ∷ (mail 1 0, next_4) ∷ []

-- nobody dies, and the witness looks
unfoldable pub next_look_0 : World
next_look_0 = with_cells (cell_0 (hit_thrice (alone 2 4)) no [] []) last_cell (later_16 (order.Tick ∷ []))
    (later_17 quiet_1) []

unfoldable pub next_look_1 : World
next_look_1 = with_cells (cell_0 (hit_thrice (alone 2 4)) no [] []) last_cell (later_16 [])
    (later_17 quiet_1) ((16, 0, Tick ∷ []) ∷ (16, 1, Tick ∷ []) ∷ [])

unfoldable pub next_look_2 : World
next_look_2 = with_cells (cell_0 (hit_thrice (alone 2 4)) no [] (1 ∷ [])) last_cell (later_16 [])
    (later_17 quiet_1) ((16, 1, Tick ∷ []) ∷ [])

unfoldable pub next_look_3 : World
next_look_3 = with_cells (cell_0 (hit_thrice (alone 2 4)) no [] (1 ∷ [])) last_cell (later_16 [])
    (later_17 quiet_1) []

unfoldable pub next_look_4 : World
next_look_4 = with_cells (cell_0 (hit_thrice (alone 3 5)) no [] []) last_cell (later_16 [])
    (later_17 quiet_1) ((0, 17, update 1 5 (own_1 3) ∷ []) ∷ [])

unfoldable pub next_look_5 : World
next_look_5 = with_cells (cell_0 (hit_thrice (alone 3 5)) no [] []) last_cell (later_16 [])
    (later_17 (part_at 17 6 (line 6 (own_1 3) ∷ []) 6)) []

abbrev pub next_looks : List (Event × World)
next_looks = (task 16, next_look_1) ∷ (mail 0 16, next_look_2) ∷ (mail 1 16, next_look_3) ∷ (task 0, next_look_4) ∷
    (mail 17 0, next_look_5) ∷ []

-- ---- the lines, and what the rounds leave

abbrev pub first_entries : List Entry
first_entries =
    entry.Divided two_cells ∷ entry.Created (made_at 1 4850) ∷ entry.Created (made_at 2 5150) ∷ entry.Joined 1 ∷ entry.Joined 2 ∷
    entry.Called (the_hit 1) ∷ entry.Ticked ∷ entry.Called (the_hit 2) ∷ entry.Destroyed 2 ∷ []

abbrev pub second_entries : List Entry
second_entries = entry.Called (the_hit 3) ∷ []

-- both entities, and the one that lives on
abbrev pub created_both : List Create
created_both = made_at 1 4850 ∷ made_at 2 5150 ∷ []

abbrev pub alive : List Create
alive = made_at 1 4850 ∷ []

-- after a header of one line
abbrev pub begun : Standing
begun = after_header header 1

abbrev pub first : Standing
first = with_all_accepted begun first_entries

abbrev pub first_steps : RoundSteps
first_steps = record {
  calls = events_of (early_calls ++ later_calls);
  called = call_19;
  reaps = events_of reaps;
  reaped = reap_3;
  looks = events_of looks;
  left = look_6;
}

abbrev pub between : Standing
between = left_by header first first_steps created_both alive

abbrev pub second : Standing
second = with_all_accepted between second_entries

abbrev pub second_steps : RoundSteps
second_steps = record {
  calls = events_of next_calls;
  called = next_4;
  reaps = [];
  reaped = next_4;
  looks = events_of next_looks;
  left = next_look_5;
}
