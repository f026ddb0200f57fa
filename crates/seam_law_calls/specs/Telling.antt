-- What bounds the updates that a witness tells: how many entities there may be, and how often it is to look.
use Rattle.std.specs.Prelude.{◌≡◌, ℕ, ◌+◌, ◌*◌, ◌^◌, ◌<◌, ◌≤◌, None, Some}
use Rattle.std.specs.List.{AllByRecursion}
use Rattle.seam_node_steps.specs.Prelude.{total, copy_in, Order, RealView, WitnessView, Msg, Hand, GhostSet, Tick, cell_count, NodeView}
use Rattle.seam_node_steps.specs.Prelude.{World}
use Rattle.seam_net_runs.specs.Sums.{weight_or}
use Rattle.seam_net_runs.specs.Weights.{weight}
use Rattle.seam_view.specs.Replica.{Replica, IsView}
use Rattle.seam_call.specs.declared.order.Order.TheVariants as order
use Rattle.seam_law_calls.specs.Sights.{Has, mine, has_of, entity_flow}
use Rattle.seam_law_calls.specs.Ones.{real_in}
use Rattle.seam_law_calls.specs.PartMoves.{update_in}

-- ---- how many entities there may be

-- the number of each entity is below this
abbrev pub most_entities : ℕ
most_entities = 2 ^ 32

-- a cell has neither the entity's real nor a copy of it
pub record IsBlank (h : Has) : Type 0 where
  pub real : real_in h ≡ None
  pub copy : copy_in h.cell.slot.ghost ≡ None

-- a message that carries neither the real nor a copy
abbrev pub CarriesNoEntity : Msg → Type 0
CarriesNoEntity (Hand r bs) = ⊥
CarriesNoEntity (GhostSet e n c) = ⊥
CarriesNoEntity _ = Unit {0}

-- the entity is nowhere, and nothing brings it
pub record IsAbsent (e : ℕ) (w : World) : Type 0 where
  pub cells : (k : ℕ) → IsBlank ((entity_flow e w).slot k)
  pub letters : (a k : ℕ) → AllByRecursion CarriesNoEntity ((entity_flow e w).mail a k)

-- each entity that is anywhere has such a number
abbrev pub HasFewEntities : World → Type 0
HasFewEntities w = (e : ℕ) → most_entities ≤ e → IsAbsent e w

-- a view of such entities
pub record IsFewView (v : Replica) : Type 0 where
  pub view : IsView v
  pub below : AllByRecursion (λ p. p.0 < most_entities) v.entries

-- the real's witness, if it has one, has such a view
abbrev pub SeesFew : RealView → Type 0
SeesFew r = (x : WitnessView) → r.witness ≡ Some x → IsFewView x.view

-- ---- how often a witness is to look

-- a tick makes a witness look at most once in each cell
abbrev pub order_looks : Order → ℕ
order_looks order.Tick = cell_count
order_looks _ = 0

abbrev pub letter_looks : Msg → ℕ
letter_looks Tick = 1
letter_looks _ = 0

abbrev pub has_looks : Has → ℕ
has_looks h = h.cell.looks + total order_looks h.base.orders

abbrev pub node_looks : ℕ → NodeView → ℕ
node_looks e n = has_looks (has_of e n)

abbrev pub mine_looks : ℕ → ℕ → Msg → ℕ
mine_looks e k m = weight_or letter_looks (mine e m)

-- how often the entity's witness may look until nothing is left of the ticks that are ordered, on their way, or came
abbrev pub looks_left : ℕ → World → ℕ
looks_left e w = weight (node_looks e) (mine_looks e) w

-- a look tells at most the own state, what leaves and what changes of what is in view, and what enters of what is known
abbrev pub most_shown : ℕ
most_shown = 1 + 3 * most_entities

-- ---- nothing is told

-- no update is on its way to the entity's client
abbrev pub NoUpdateComes : ℕ → World → Type 0
NoUpdateComes e w = (a k : ℕ) → AllByRecursion (λ m. update_in m ≡ None) ((entity_flow e w).mail a k)
