-- The record between rounds: what a quiet world keeps from the end of a round to the load of the next; and a batch that fits it.
use Rattle.std.specs.Prelude.{◌≡◌, ℕ, ◌+◌, ◌^◌, ◌<◌, ◌≤◌, true, eqb, List, [], map, length, slice_get, Option, None, Some}
use Rattle.std.specs.List.{AllByRecursion, IsDistinct}
use Rattle.std.specs.FinMap as table
use Rattle.seam_node_steps.specs.Prelude.{cells_of, IsTree, IsQuiet, items_to, Call as CallData, Create, Order, Batch, order_or, RealView}
use Rattle.seam_node_steps.specs.Prelude.{limit, is_inside, cell_count, fits_cell_part, holders, TellsNone, World, node_has_work, loaded}
use Rattle.seam_node_steps.specs.Prelude.{WitnessView, NodeView, Cell, Base}
use Rattle.seam_law_flow.specs.Prelude.{letters_of, number_from}
use Rattle.seam_law_calls.specs.Prelude.{Frame, here_at, IsInFrame, has_none, order_about, orders_of, entity_flow, RealFits}
use Rattle.seam_law_calls.specs.Prelude.{reaped_by_order, IsFrame, from_sender, cell_order_from, real_at}
use Rattle.seam_call.specs.declared.order.Order.TheVariants as order

-- the number that the next call of the sender is to have
abbrev pub next_from : ℕ → RealView → ℕ
next_from s r = (order_or (table.get r.orders s)).next

-- what a world keeps of an entity whose real, r, is in cell `home`
pub record IsSettled (f : Frame) (e home : ℕ) (r : RealView) (w : World) : Type 0 where
  -- its real is there
  pub here : real_at e w home ≡ Some r
  -- and at no other node
  pub others : (j : ℕ) → (j ≡ home → ⊥) → real_at e w j ≡ None
  -- its type is one of the definitions
  pub type : r.ty < length f.defs
  -- it fits its type, the space and the trees
  pub fits : RealFits f e r.ty home r
  -- its public version is at most its version
  pub public : r.public ≤ r.version
  -- each base node has the route to it
  pub routes : (k : ℕ) → cell_count ≤ k → k < cell_count + f.settings.bases →
      ((entity_flow e w).slot k).base.route ≡ Some (record { cell = home; generation = r.generation })
  -- it holds no call
  pub none_held : (s : ℕ) → (order_or (table.get r.orders s)).held ≡ []
  -- each sender's next number is at least one
  pub from_one : (s : ℕ) → 1 ≤ next_from s r

-- the entity is none whose route the node forgets as the next round begins
abbrev pub KeepsRoute : ℕ → NodeView → Type 0
KeepsRoute e (Cell c) = Unit {0}
KeepsRoute e (Base b) = AllByRecursion (λ x. x ≡ e → ⊥) b.gone

abbrev pub KeepsRoutes : ℕ → World → Type 0
KeepsRoutes e w = (k : ℕ) (s : NodeView) → slice_get w.nodes k ≡ Some s → KeepsRoute e s

-- the record between rounds, by the definitions, the settings and the tree of the round that ended
pub record IsBetweenRounds (f : Frame) (w : World) : Type 0 where
  -- the definitions and the trees are such
  pub frame : IsFrame f
  -- the nodes go by them
  pub nodes : IsInFrame f w
  -- it has all its nodes
  pub many : length w.nodes ≡ cell_count + f.settings.bases
  -- no node has a task, and no link a message
  pub quiet : IsQuiet node_has_work w
  -- each real is the only one of its entity, fits, and is where the routes go
  pub settled : (e k : ℕ) (r : RealView) → real_at e w k ≡ Some r → IsSettled f e k r w
  -- and these routes are kept as the next round begins
  pub kept : (e k : ℕ) (r : RealView) → real_at e w k ≡ Some r → KeepsRoutes e w

-- ---- entities that a batch creates

-- no node has anything of the entity
abbrev pub IsNew : World → ℕ → Type 0
IsNew w e = (k : ℕ) → (entity_flow e w).slot k ≡ has_none

-- no witness has ever shown the entity to its client
abbrev pub NeverShown : World → ℕ → Type 0
NeverShown w x = (e k : ℕ) (r : RealView) → real_at e w k ≡ Some r → (v : WitnessView) → r.witness ≡ Some v →
    table.get v.view.shown x ≡ None

-- the entity may be made: it is new, no client was ever shown one of its number, its type is one of the definitions, and it is in the space
pub record MayBeMade (f : Frame) (w : World) (x : Create) : Type 0 where
  pub new : IsNew w x.entity
  pub unshown : NeverShown w x.entity
  pub type : x.ty < length f.defs
  pub inside : is_inside f.settings.size x.pos ≡ true

abbrev pub created_entity : Create → ℕ
created_entity x = x.entity

-- ---- a batch

-- no real of the entity has a witness
abbrev pub HasNoWitness : World → ℕ → Type 0
HasNoWitness w e = (k : ℕ) (r : RealView) → real_at e w k ≡ Some r → r.witness ≡ None

abbrev pub order_in : ℕ × Order → Order
order_in o = o.1

abbrev pub cell_call_from : ℕ → Order → Option CallData
cell_call_from s (order.Cell c) = from_sender s c
cell_call_from s _ = None

-- of the batch's calls, those of the sender to the entity's cell part, in the order of the list
abbrev pub calls_of : Batch → ℕ → ℕ → List CallData
calls_of b e s = letters_of (cell_call_from s) (orders_of e (map order_in b.orders))

-- those that node k is given, each with its number
abbrev pub calls_at : Batch → ℕ → ℕ → ℕ → List (ℕ × CallData)
calls_at b e s k = letters_of (cell_order_from s) (orders_of e (items_to k b.orders))

-- one base node is given all the calls of the sender to the entity's cell part, numbered from `first` on
pub record AreNumbered (f : Frame) (b : Batch) (e s first : ℕ) : Type 0 where
  pub node : ℕ
  pub is_base : cell_count ≤ node
  pub in_net : node < cell_count + f.settings.bases
  pub calls : calls_at b e s node ≡ number_from first (calls_of b e s)
  pub others : (j : ℕ) → (j ≡ node → ⊥) → calls_at b e s j ≡ []
  pub room : first + length (calls_of b e s) < limit

-- a call to the cell part of entity e, which is of type ty, fits it
abbrev pub IsFitOrder : Frame → ℕ → ℕ → Order → Type 0
IsFitOrder f e ty (order.Cell c) = c.entity ≡ e → fits_cell_part (here_at f 0) e ty c ≡ true
IsFitOrder f e ty _ = Unit {0}

-- what a batch brings to an entity fits its real, r: each call its type, and each sender's calls have the next numbers, which are those
-- from 1 on where it was just created
pub record IsForReal (f : Frame) (b : Batch) (e : ℕ) (r : RealView) : Type 0 where
  pub fit : AllByRecursion (λ o. IsFitOrder f e r.ty o.1) b.orders
  pub numbered : (s : ℕ) → AreNumbered f b e s (next_from s r)

-- a batch has at most so many orders
abbrev pub most_orders : ℕ
most_orders = 2 ^ 17

-- the numbers of a real that only rise, together
abbrev pub numbers_of : RealView → ℕ
numbers_of r = r.version + (r.beat + r.generation)

-- a batch that such a world may be given
pub record IsFitting (f : Frame) (w : World) (b : Batch) : Type 0 where
  -- its tree is one
  pub tree : IsTree b.tree
  -- of the settings' space
  pub space : b.tree.size ≡ f.settings.size
  -- it has each cell that was there
  pub cells : cells_of f.tree ≤ cells_of b.tree
  -- each entity that it creates may be made
  pub creates : AllByRecursion (MayBeMade f w) b.creates
  -- and is created once
  pub once : IsDistinct eqb (map created_entity b.creates)
  -- each entity that is to have a client is there once the batch is loaded
  pub clients : AllByRecursion (λ e. holders (loaded w b) e ≡ 1) b.clients
  -- it has no witness yet
  pub unseen : AllByRecursion (HasNoWitness w) b.clients
  -- and gets one client
  pub one_each : IsDistinct eqb b.clients
  -- each entity that is to die is there once the batch is loaded
  pub destroys : AllByRecursion (λ e. holders (loaded w b) e ≡ 1) b.destroys
  -- and dies once
  pub ends_once : IsDistinct eqb b.destroys
  -- none of its orders is a reap: these are loaded after the round's calls
  pub spares : AllByRecursion (λ o. reaped_by_order o.1 ≡ None) b.orders
  -- and none tells boundaries
  pub unmoved : AllByRecursion (λ o. TellsNone o.1) b.orders
  -- each of its orders is about an entity that is there once it is loaded
  pub known : AllByRecursion (λ o. (e : ℕ) → order_about o.1 ≡ Some e → holders (loaded w b) e ≡ 1) b.orders
  -- and its calls fit those entities
  pub calls : (e k : ℕ) (r : RealView) → real_at e (loaded w b) k ≡ Some r → IsForReal f b e r
  -- it has few orders
  pub few : length b.orders ≤ most_orders
  -- and the numbers of the reals that are there are so small that they have room for all of them
  pub small : (e k : ℕ) (r : RealView) → real_at e w k ≡ Some r → numbers_of r < 2 ^ 61

-- a round may begin: the world keeps the records between rounds, and the batch fits it
pub record MayBegin (f : Frame) (w : World) (b : Batch) : Type 0 where
  pub between : IsBetweenRounds f w
  pub fits : IsFitting f w b

-- what the nodes go by once the batch is loaded: its tree alone
abbrev pub framed : Frame → Batch → Frame
framed f b = record f { tree = b.tree; later = [] }
