-- What a phase begins with, and how many events it may take.
use Rattle.std.specs.Prelude.{◌≡◌, ℕ, ◌+◌, ◌*◌, length, Some, slice_get}
use Rattle.std.specs.FinMap as table
use Rattle.seam_node_steps.specs.Prelude.{total, Order, Batch, witnesses, BaseView, PartView, NodeView, World, Cell, Base}
use Rattle.seam_call.specs.declared.order.Order.TheVariants as order
use Rattle.seam_law_bounds.specs.Weights.{part_weight}

-- no base part holds a call, and no client an update
abbrev pub HoldsNothing : World → Type 0
HoldsNothing w =
    (k : ℕ) (b : BaseView) → slice_get w.nodes k ≡ Some (Base b) → (e : ℕ) (p : PartView) → table.get b.parts e ≡ Some p → part_weight p ≡ 0

-- ---- what a world has, and what a batch brings

-- how many reals a cell has
abbrev pub reals_at : NodeView → ℕ
reals_at (Cell c) = length (table.entries c.reals)
reals_at (Base b) = 0

-- how many entities a world has whose reals are all in cells, as they are where a round begins
abbrev pub entities : World → ℕ
entities w = total reals_at w.nodes

-- how many of a cell's reals have a witness
abbrev pub witnesses_at : NodeView → ℕ
witnesses_at (Cell c) = length (witnesses c)
witnesses_at (Base b) = 0

-- how many of a world's entities have one
abbrev pub all_witnesses : World → ℕ
all_witnesses w = total witnesses_at w.nodes

abbrev pub one_if_cell : Order → ℕ
one_if_cell (order.Cell k) = 1
one_if_cell _ = 0

abbrev pub one_if_base : Order → ℕ
one_if_base (order.Base k) = 1
one_if_base _ = 0

abbrev pub one_if_tick : Order → ℕ
one_if_tick order.Tick = 1
one_if_tick _ = 0

-- how many of a batch's orders are calls to cell parts, calls to base parts, and ticks
abbrev pub cell_orders : Batch → ℕ
cell_orders b = total (λ o. one_if_cell o.1) b.orders

abbrev pub base_orders : Batch → ℕ
base_orders b = total (λ o. one_if_base o.1) b.orders

abbrev pub tick_orders : Batch → ℕ
tick_orders b = total (λ o. one_if_tick o.1) b.orders

-- the table of a round: at most so many events where a batch with c calls to cell parts, d to base parts and k ticks leaves a world with
-- e entities and w witnesses, and there are so many base nodes
abbrev pub events_of_round : (bases c d k e w : ℕ) → ℕ
events_of_round bases c d k e w =
    c * (c + 4) + (3 * d + (17 * k + (e + ((e + c) * (17 + bases) + 16 * k * w * (3 + 2 * e)))))

-- the table of the phase of looks: n lines for others, and w witnesses
abbrev pub events_of_looks : (n w : ℕ) → ℕ
events_of_looks n w = 17 + w * (3 + 2 * n)
