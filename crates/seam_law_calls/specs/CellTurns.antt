-- Calls to an entity's cell part, as one sender sees them.
use Rattle.std.specs.Prelude.{◌≡◌, ℕ, ◌<◌, ◌≤◌, ◌==◌, Bool, true, List, Option, None, Some}
use Rattle.std.specs.List.{AllByRecursion}
use Rattle.std.specs.FinMap as table
use Rattle.seam_node_steps.specs.Prelude.{Call as CallData, Order, rank_of, Orders, order_or, order_of, RealView, Msg, Hand, cell_count}
use Rattle.seam_node_steps.specs.Prelude.{fits_cell_part, may_call, World}
use Rattle.seam_law_flow.specs.Prelude.{Flow, letters_of, narrow, Desk, Post, Mail, Item, Parcel, AreInTurn}
use Rattle.seam_call.specs.declared.order.Order.TheVariants as order
use Rattle.seam_entity.specs.declared.message.Msg.TheVariants.{Call}
use Rattle.seam_law_calls.specs.Frames.{Frame, here_at}
use Rattle.seam_law_calls.specs.Sights.{Has, kept_if, entity_flow}
use Rattle.seam_law_calls.specs.Ones.{real_in}
use Rattle.seam_law_calls.specs.Ways.{is_visited}

-- ---- one sender, by its place in the order of senders

abbrev pub is_from : ℕ → CallData → Bool
is_from s c = rank_of c.sender == s

-- the call, where the sender made it
abbrev pub from_sender : ℕ → CallData → Option CallData
from_sender s c = kept_if (is_from s c) c

-- the same with its number
abbrev pub numbered_from : ℕ → CallData → Option (ℕ × CallData)
numbered_from s c = kept_if (is_from s c) (c.number, c)

-- what a part with these orders, which executed these calls, has of the sender
abbrev pub desk_for : ℕ → Orders → List CallData → Desk CallData
desk_for s os done = record { order = order_or (table.get os s); done = letters_of (from_sender s) done }

-- ---- the cell part

abbrev pub cell_order_from : ℕ → Order → Option (ℕ × CallData)
cell_order_from s (order.Cell c) = numbered_from s c
cell_order_from s _ = None

abbrev pub real_desk : ℕ → Option RealView → Option (Desk CallData)
real_desk s None = None
real_desk s (Some r) = Some (desk_for s r.orders r.done)

-- what a node has of the sender's calls to the entity's cell part
abbrev pub cell_post : ℕ → Has → Post CallData
cell_post s h = record { stored = letters_of (cell_order_from s) h.base.orders; desk = real_desk s h.cell.slot.real }

-- what a message is to the sender: one of its calls, or its desk with the real
abbrev pub cell_mail : ℕ → Msg → Option (Mail CallData)
cell_mail s (Call c) = kept_if (is_from s c) (Item c.number c)
cell_mail s (Hand r bs) = Some (Parcel (desk_for s r.orders r.done))
cell_mail s _ = None

-- an entity's flow as the sender sees it
abbrev pub as_sender : ℕ → Flow Has Msg → Flow (Post CallData) (Mail CallData)
as_sender s w = narrow (cell_post s) (cell_mail s) w

-- ---- calls in turn

-- the call is the sender's, and fits the cell part of entity e, which is of type ty
pub record IsCallOf (f : Frame) (e ty s : ℕ) (c : CallData) : Type 0 where
  pub sender : rank_of c.sender ≡ s
  pub fits : fits_cell_part (here_at f 0) e ty c ≡ true

-- each sender's calls of the batch are its own, and fit
abbrev pub AreCallsOf : Frame → ℕ → ℕ → (ℕ → List CallData) → Type 0
AreCallsOf f e ty batch = (s : ℕ) → AllByRecursion (IsCallOf f e ty s) (batch s)

-- each sender's calls to the entity's cell part, numbered from `first` on, are in turn
abbrev pub CellCallsInTurn : ℕ → (ℕ → ℕ) → (ℕ → List CallData) → World → Type 0
CellCallsInTurn e first batch w = (s : ℕ) → AreInTurn (first s) (batch s) (as_sender s (entity_flow e w))

-- what a call finds at node k, which has h of its entity: a cell where the real is, or was and left the next place; and a real that may be
-- offered it, to which it is not late
pub record FindsTurn (f : Frame) (k : ℕ) (h : Has) (c : CallData) : Type 0 where
  pub cell : k < cell_count
  pub place : is_visited h ≡ true
  pub may : (r : RealView) → real_in h ≡ Some r → may_call (here_at f k) r c ≡ true
  pub due : (r : RealView) → real_in h ≡ Some r → (order_of r.orders c.sender).next ≤ c.number
