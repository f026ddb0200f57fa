-- What each item of a net weighs: at least the number of events that it can still cause. A call that is passed on keeps its weight.
use Rattle.std.specs.Prelude.{ℕ, ◌+◌, ◌-◌, ◌*◌, length}
use Rattle.std.specs.List.{range_with_len}
use Rattle.seam_node_steps.specs.Prelude.{total, Order, RealView, Msg, BaseCall, Hand, Tick, Reap, Update}
use Rattle.seam_node_steps.specs.Prelude.{number_in}
use Rattle.seam_node_steps.specs.Prelude.{cell_count, CellView, BaseView, PartView, ProxyView, NodeView, World, Cell, Base}
use Rattle.seam_law_calls.specs.Prelude.{held_in}
use Rattle.seam_net_runs.specs.Sums.{weight_or, map_total}
use Rattle.seam_net_runs.specs.Weights.{weight}
use Rattle.seam_call.specs.declared.order.Order.TheVariants as order
use Rattle.seam_entity.specs.declared.message.Msg.TheVariants.{Call}

-- what is fixed in a phase: the number of base nodes, the most lines that a look has for other entities, and the most witnesses that
-- each cell has
pub record Sizes : Type 0 where
  pub bases : ℕ
  pub lines : ℕ
  pub witnesses : ℕ → ℕ

-- what a settle may send: a message to each of sixteen cells, and a hand-over, which each base node is then told of
abbrev pub settle_weight : Sizes → ℕ
settle_weight z = 17 + z.bases

-- what settles: a held call that will be executed, or an entry of a survey list
abbrev pub settling : Sizes → ℕ
settling z = 1 + settle_weight z

-- an entry of a look list: its task, and an update of weight 2 for each line and for the witness's own state
abbrev pub look_weight : Sizes → ℕ
look_weight z = 3 + 2 * z.lines

-- a tick that comes to cell k: all its witnesses are to look
abbrev pub tick_weight : Sizes → ℕ → ℕ
tick_weight z k = 1 + z.witnesses k * look_weight z

-- a real: the calls that it holds
abbrev pub real_weight : Sizes → RealView → ℕ
real_weight z r = held_in r.orders * settling z

-- a cell: its reals, and its two lists
abbrev pub cell_weight : Sizes → CellView → ℕ
cell_weight z c = map_total (real_weight z) c.reals + (length c.survey * settling z + length c.looks * look_weight z)

-- a client: the updates that it holds
abbrev pub proxy_weight : ProxyView → ℕ
proxy_weight x = length x.updates.held

-- a base part: the calls that it holds, and its client
abbrev pub part_weight : PartView → ℕ
part_weight p = held_in p.orders + weight_or proxy_weight p.proxy

-- an order: one event more than what it sends; a tick goes to every cell
abbrev pub order_weight : Sizes → Order → ℕ
order_weight z (order.Cell k) = 3 + settle_weight z
order_weight z (order.Base k) = 3
order_weight z order.Tick = 1 + total (tick_weight z) (range_with_len 0 cell_count)
order_weight z (order.Reap e) = 18
order_weight z (order.Bounds b) = 17

-- a base node: its orders and its base parts
abbrev pub base_weight : Sizes → BaseView → ℕ
base_weight z b = total (order_weight z) b.orders + map_total part_weight b.parts

abbrev pub node_weight : Sizes → NodeView → ℕ
node_weight z (Cell c) = cell_weight z c
node_weight z (Base b) = base_weight z b

-- a message to node k
abbrev pub letter_weight : Sizes → ℕ → Msg → ℕ
letter_weight z k (Call c) = 2 + settle_weight z
letter_weight z k (BaseCall c) = 2
letter_weight z k (Hand r bs) = 1 + z.bases + real_weight z r
letter_weight z k Tick = tick_weight z k
letter_weight z k (Reap e) = 17
letter_weight z k (Update u) = 2
letter_weight z k _ = 1

-- a world: all its nodes and all messages on their way
abbrev pub world_weight : Sizes → World → ℕ
world_weight z w = weight (node_weight z) (letter_weight z) w

-- ---- a round in which boundaries move, of which the last have the number `last`

-- by so many later trees a real may yet have to settle that goes by one of that number
abbrev pub left_weight : Sizes → (last number : ℕ) → ℕ
left_weight z last number = (last - number) * settling z

-- a real that goes by a tree of that number: the calls that it holds, and a settling by each later tree
abbrev pub moving_real_weight : Sizes → (last number : ℕ) → RealView → ℕ
moving_real_weight z last number r = real_weight z r + left_weight z last number

abbrev pub moving_cell_weight : Sizes → (last : ℕ) → CellView → ℕ
moving_cell_weight z last c =
    map_total (moving_real_weight z last c.number) c.reals + (length c.survey * settling z + length c.looks * look_weight z)

abbrev pub moving_node_weight : Sizes → (last : ℕ) → NodeView → ℕ
moving_node_weight z last (Cell c) = moving_cell_weight z last c
moving_node_weight z last (Base b) = base_weight z b

-- a real on its way goes by the tree that it brings
abbrev pub moving_letter_weight : Sizes → (last to : ℕ) → Msg → ℕ
moving_letter_weight z last k (Hand r bs) = 1 + z.bases + moving_real_weight z last (number_in bs) r
moving_letter_weight z last k m = letter_weight z k m

-- a world in such a round; where no boundaries move it weighs what it does above
abbrev pub moving_weight : Sizes → (last : ℕ) → World → ℕ
moving_weight z last w = weight (moving_node_weight z last) (moving_letter_weight z last) w
