-- What an entity has yet to do, in numbers that no step raises; versions, beats and generations count in it, so they stay small.
use Rattle.std.specs.Prelude.{ℕ, ◌+◌, ◌*◌, length}
use Rattle.seam_node_steps.specs.Prelude.{OrderView, total, Call as CallData, Order, Orders, RealView, Msg, Hand, Reap, NodeView, World}
use Rattle.seam_net_runs.specs.Sums.{map_total, weight_or}
use Rattle.seam_net_runs.specs.Weights.{weight}
use Rattle.seam_call.specs.declared.order.Order.TheVariants as order
use Rattle.seam_entity.specs.declared.message.Msg.TheVariants.{Call}
use Rattle.seam_law_calls.specs.Sights.{Has, mine, has_of}

-- how many calls a real holds
abbrev pub held_of : OrderView CallData → ℕ
held_of o = length o.held

abbrev pub held_in : Orders → ℕ
held_in os = map_total held_of os

-- a call may raise each of the three numbers by one, an entry of the survey list the latter two, and a reap the beat
abbrev pub real_burden : RealView → ℕ
real_burden r = r.version + (r.beat + (r.generation + 3 * held_in r.orders))

abbrev pub order_burden : Order → ℕ
order_burden (order.Cell c) = 3
order_burden (order.Reap e) = 1
order_burden _ = 0

abbrev pub letter_burden : Msg → ℕ
letter_burden (Call c) = 3
letter_burden (Hand r bs) = real_burden r
letter_burden (Reap e) = 1
letter_burden _ = 0

abbrev pub has_burden : Has → ℕ
has_burden s = weight_or real_burden s.cell.slot.real + (2 * s.cell.survey + total order_burden s.base.orders)

abbrev pub mine_burden : ℕ → ℕ → Msg → ℕ
mine_burden e k m = weight_or letter_burden (mine e m)

abbrev pub node_burden : ℕ → NodeView → ℕ
node_burden e s = has_burden (has_of e s)

-- the sum of it over a world
abbrev pub burden : ℕ → World → ℕ
burden e w = weight (node_burden e) (mine_burden e) w
