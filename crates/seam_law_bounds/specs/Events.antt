-- What an event asks of its node, so that it lowers the weight; and which events keep it.
use Rattle.std.specs.Prelude.{◌≡◌, ℕ, ◌≤◌, Bool, true, false, ◌&&◌, is_none, is_some, List, ◌∷◌, length, Option, None, Some, slice_get}
use Rattle.std.specs.FinMap as table
use Rattle.seam_node_steps.specs.Prelude.{input_from, Occurs, Input, Task, From, Event, Order, RealView, WitnessView, has_ready}
use Rattle.seam_node_steps.specs.Prelude.{may_execute, Msg, Tick, Slot, looks_of, CellView, slot_of, known_to, witnesses, BaseView}
use Rattle.seam_node_steps.specs.Prelude.{PartView, stray_order, proxy_is_ready, may_show, NodeView, World, node_steps, Cell, Base}
use Rattle.seam_net_runs.specs.Weights.{counted}
use Rattle.seam_entity.specs.declared.message.Msg.TheVariants.{Call}
use Rattle.seam_node_steps.specs.BaseCases as base
use Rattle.seam_law_bounds.specs.Weights.{Sizes}
use Rattle.seam_law_calls.specs.Prelude.{RunsTo}

-- ---- calls that are passed on

-- the real is not here, and left a next place
abbrev pub is_left : Slot → Bool
is_left s = is_none s.real && is_some s.next

-- the message is a call that the cell passes on
abbrev pub cell_passes : CellView → Msg → Bool
cell_passes c (Call k) = is_left (slot_of c k.entity)
cell_passes c _ = false

abbrev pub node_passes : NodeView → Input Msg → Bool
node_passes (Cell c) Task = false
node_passes (Cell c) (From a m) = cell_passes c m
node_passes (Base b) i = false

abbrev pub passes_by : Option NodeView → Option (Input Msg) → Bool
passes_by None i = false
passes_by (Some s) None = false
passes_by (Some s) (Some i) = node_passes s i

-- the event brings a call to a cell that the real left: it is passed on to the next place
abbrev pub is_pass : World → Event → Bool
is_pass w e = passes_by (slice_get w.nodes e.node) (input_from w.rows e.node e.from)

-- ---- what a node can do

-- what a cell is asked that is fed i: it knows of no more base nodes than there are; a real with a ready call may execute it; a look has
-- no more lines, and a tick finds no more witnesses, than there are
pub record CellCan (z : Sizes) (c : CellView) (i : Input Msg) : Type 0 where
  pub bases : c.here.settings.bases ≤ z.bases
  pub ready : (e : ℕ) (r : RealView) → table.get c.reals e ≡ Some r → has_ready r.orders ≡ true → may_execute r ≡ true
  pub looks : (e : ℕ) (es : List ℕ) (r : RealView) (w : WitnessView) → c.looks ≡ e ∷ es → table.get c.reals e ≡ Some r →
      r.witness ≡ Some w → length (looks_of r w (known_to c e)) ≤ z.lines
  pub ticks : (a : ℕ) → i ≡ From a Tick → length (witnesses c) ≤ z.witnesses c.here.me

-- what a base node is asked: its first order is not stray, a part with a ready call may execute it, and a client with a ready update may
-- be shown it
pub record BaseCan (b : BaseView) : Type 0 where
  pub orders : (o : Order) (os : List Order) → b.orders ≡ o ∷ os → stray_order b o ≡ false
  pub parts : (e : ℕ) (p : PartView) → table.get b.parts e ≡ Some p → has_ready p.orders ≡ true → base.may_execute p ≡ true
  pub clients : (e : ℕ) (p : PartView) → table.get b.parts e ≡ Some p → proxy_is_ready p.proxy ≡ true → may_show p.proxy ≡ true

abbrev pub NodeCan : Sizes → NodeView → Input Msg → Type 0
NodeCan z (Cell c) i = CellCan z c i
NodeCan z (Base b) i = BaseCan b

-- ---- runs

-- over every list of events from w, the node of each event can do what it is to do
abbrev pub AllCan : Sizes → World → Type 0
AllCan z w =
    (v : World) (es : List Event) → RunsTo w es v → (x : Event) (o : Occurs v x) → NodeCan z o.node o.input

-- how many of the events pass a call on
abbrev pub all_passes : World → List Event → ℕ
all_passes w es = counted node_steps is_pass w es
