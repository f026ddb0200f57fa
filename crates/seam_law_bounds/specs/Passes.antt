-- How often a call is passed on, and how often its entity is handed over.
use Rattle.std.specs.Prelude.{ℕ, ◌==◌, Bool, false, ◌&&◌, is_some, is_none, List, Option, None, Some}
use Rattle.seam_node_steps.specs.Prelude.{input_from, happens, Input, Task, From, Event, Call as CallData, Msg, World, node_steps}
use Rattle.seam_law_calls.specs.Prelude.{Has, entity_flow, real_in, is_from, real_at}
use Rattle.seam_net_runs.specs.Weights.{counted}
use Rattle.seam_entity.specs.declared.message.Msg.TheVariants.{Call}

-- ---- the call of a sender with a number

abbrev pub has_number : ℕ → ℕ → CallData → Bool
has_number s n c = is_from s c && (c.number == n)

-- the message is a call to a cell part, of that sender and with that number
abbrev pub is_numbered : ℕ → ℕ → Msg → Bool
is_numbered s n (Call c) = has_number s n c
is_numbered s n _ = false

abbrev pub is_to : ℕ → Msg → Bool
is_to e (Call c) = c.entity == e
is_to e _ = false

-- the input is the call of sender s to entity e that has number n
abbrev pub brings_call : ℕ → ℕ → ℕ → Option (Input Msg) → Bool
brings_call e s n None = false
brings_call e s n (Some Task) = false
brings_call e s n (Some (From a m)) = is_to e m && is_numbered s n m

-- the real is not here, and left the next place
abbrev pub was_left : Has → Bool
was_left h = is_none (real_in h) && is_some h.cell.slot.next

-- ---- events

-- the event brings the call to a node that the real left: it is passed on to the next place
abbrev pub passes_on : ℕ → ℕ → ℕ → World → Event → Bool
passes_on e s n w x = brings_call e s n (input_from w.rows x.node x.from) && was_left ((entity_flow e w).slot x.node)

-- the event's node has the entity's real before the event, and not after it
abbrev pub hands_over : ℕ → World → Event → Bool
hands_over e w x =
    is_some (real_at e w x.node) && is_none (real_at e (happens node_steps w x) x.node)

-- how many of the events pass the call on
abbrev pub passes : ℕ → ℕ → ℕ → World → List Event → ℕ
passes e s n w es = counted node_steps (passes_on e s n) w es

-- how many of the events hand the entity's real over
abbrev pub hand_overs : ℕ → World → List Event → ℕ
hand_overs e w es = counted node_steps (hands_over e) w es
