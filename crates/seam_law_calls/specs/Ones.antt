-- Exactly one real: where it is, and what it is.
use Rattle.std.specs.Prelude.{◌≡◌, ℕ, ◌<◌, ◌==◌, Bool, false, List, [], ◌∷◌, Option, None, Some}
use Rattle.std.specs.List.{AllByRecursion}
use Rattle.seam_node_steps.specs.Prelude.{Division, cells_of, IsTree, AreDefs, Order, RealView, Msg, Hand, Reap, limit, input_from, happens}
use Rattle.seam_node_steps.specs.Prelude.{Input, From, Event, World, node_steps}
use Rattle.seam_law_flow.specs.Prelude.{TokenPlace, Sole}
use Rattle.seam_call.specs.declared.order.Order.TheVariants as order
use Rattle.seam_law_calls.specs.Frames.{Frame, IsInFrame}
use Rattle.seam_law_calls.specs.Sights.{Has, entity_flow}
use Rattle.seam_law_calls.specs.Fits.{IsFitReal, IsFitHand}
use Rattle.seam_law_calls.specs.Burdens.{burden}
use Rattle.seam_law_calls.specs.Replays.{Replays}

abbrev pub real_in : Has → Option RealView
real_in s = s.cell.slot.real

-- the real of entity e that node k of the world has
abbrev pub real_at : ℕ → World → ℕ → Option RealView
real_at e w k = real_in ((entity_flow e w).slot k)

-- the real that a letter carries
abbrev pub real_of : Msg → Option RealView
real_of (Hand r bs) = Some r
real_of _ = None

-- the entity's one real is r, and it is at that place
abbrev pub IsOne : ℕ → World → TokenPlace → RealView → Type 0
IsOne e w p r = Sole real_in real_of (entity_flow e w) p r

-- ---- an entity that no one reaps

-- the entity that a message reaps
abbrev pub reaped_by : Msg → Option ℕ
reaped_by (Reap e) = Some e
reaped_by _ = None

abbrev pub reaped_by_order : Order → Option ℕ
reaped_by_order (order.Reap e) = Some e
reaped_by_order _ = None

abbrev pub HasNoReaps : Has → Type 0
HasNoReaps s = AllByRecursion (λ o. reaped_by_order o ≡ None) s.base.orders

-- no base node is told to reap the entity, and no Reap of it is on its way
pub record IsSpared (e : ℕ) (w : World) : Type 0 where
  pub orders : (k : ℕ) → HasNoReaps ((entity_flow e w).slot k)
  pub letters : (a k : ℕ) → AllByRecursion (λ m. reaped_by m ≡ None) ((entity_flow e w).mail a k)

-- ---- what fits

-- what fits of an entity of type ty in a world: each of its reals, wherever it is; and its numbers have room for all that is to be done
pub record AllFits (f : Frame) (e ty : ℕ) (w : World) : Type 0 where
  pub frame : IsInFrame f w
  pub reals : (k : ℕ) → IsFitReal f e ty k (real_at e w k)
  pub hands : (a k : ℕ) → AllByRecursion (IsFitHand f e ty k) ((entity_flow e w).mail a k)
  pub room : burden e w < limit

-- a later tree of the frame is one, and has as many cells as the first
abbrev pub IsLaterTree : Frame → Division → Type 0
IsLaterTree f t = IsTree t × (cells_of t ≡ cells_of f.tree)

-- the frame's definitions and its trees are such
pub record IsFrame (f : Frame) : Type 0 where
  pub defs : AreDefs f.defs
  pub tree : IsTree f.tree
  pub later : AllByRecursion (IsLaterTree f) f.later

-- ---- the law

-- what a world has of an entity whose one real is r, at that place
pub record HasOne (f : Frame) (e ty : ℕ) (w : World) : Type 0 where
  pub fits : AllFits f e ty w
  pub place : TokenPlace
  pub real : RealView
  pub one : IsOne e w place real

-- the same, and the real is what `start` became by further calls
pub record OneFrom (f : Frame) (e ty : ℕ) (start : RealView) (w : World) : Type 0 where
  pub has : HasOne f e ty w
  pub replays : Replays f start has.real

-- ---- reaps

-- the input is the entity's Reap
abbrev pub reaps : ℕ → Option (Input Msg) → Bool
reaps e (Some (From a (Reap x))) = x == e
reaps e other = false

-- none of the events feeds the entity's Reap to a node
abbrev pub NoReapComes : ℕ → World → List Event → Type 0
NoReapComes e w [] = Unit {0}
NoReapComes e w (v ∷ es) = (reaps e (input_from w.rows v.node v.from) ≡ false) × NoReapComes e (happens node_steps w v) es
