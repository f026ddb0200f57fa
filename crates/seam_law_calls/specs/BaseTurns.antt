-- Calls to an entity's base part, as one sender sees them.
use Rattle.std.specs.Prelude.{◌≡◌, ℕ, ◌+◌, ◌<◌, ◌≤◌, true, List, length, Option, None, Some}
use Rattle.std.specs.List.{AllByRecursion}
use Rattle.seam_net_runs.specs.Sums.{weight_or}
use Rattle.seam_net_runs.specs.Weights.{weight}
use Rattle.seam_node_steps.specs.Prelude.{Call as CallData, rank_of, order_of, Msg, limit, base_of, PartView, fits_base_part, NodeView}
use Rattle.seam_node_steps.specs.Prelude.{World}
use Rattle.seam_law_flow.specs.Prelude.{Flow, letters_of, narrow, one_if, Desk, Post, Mail, Item, AreInTurn}
use Rattle.seam_node_steps.specs.BaseCases.{may_call}
use Rattle.seam_law_calls.specs.Frames.{Frame, here_at, IsInFrame}
use Rattle.seam_law_calls.specs.Sights.{Has, AtBase, kept_if, mine, has_of, entity_flow}
use Rattle.seam_law_calls.specs.Burdens.{held_in}
use Rattle.seam_law_calls.specs.Ones.{IsSpared}
use Rattle.seam_law_calls.specs.CellTurns.{is_from, numbered_from, desk_for}
use Rattle.seam_law_calls.specs.PartMoves.{base_call_in, calls_ordered, HasNoProxy}

-- ---- one sender, by its place in the order of senders

abbrev pub part_desk : ℕ → Option PartView → Option (Desk CallData)
part_desk s None = None
part_desk s (Some p) = Some (desk_for s p.orders p.done)

-- what a node has of the sender's calls to the entity's base part
abbrev pub base_post : ℕ → Has → Post CallData
base_post s h = record { stored = letters_of (numbered_from s) (calls_ordered h.base); desk = part_desk s h.base.part }

abbrev pub item_from : ℕ → Option CallData → Option (Mail CallData)
item_from s None = None
item_from s (Some c) = kept_if (is_from s c) (Item c.number c)

-- what a message is to the sender: one of its calls
abbrev pub base_mail : ℕ → Msg → Option (Mail CallData)
base_mail s m = item_from s (base_call_in m)

-- an entity's flow as the sender sees it
abbrev pub as_base_sender : ℕ → Flow Has Msg → Flow (Post CallData) (Mail CallData)
as_base_sender s w = narrow (base_post s) (base_mail s) w

-- ---- calls in turn

-- the call is the sender's, and fits the base part of a type
pub record IsBaseCallOf (f : Frame) (ty s : ℕ) (c : CallData) : Type 0 where
  pub sender : rank_of c.sender ≡ s
  pub fits : fits_base_part (here_at f 0) ty c ≡ true

-- each sender's calls of the batch are its own, and fit
abbrev pub AreBaseCallsOf : Frame → ℕ → (ℕ → List CallData) → Type 0
AreBaseCallsOf f ty batch = (s : ℕ) → AllByRecursion (IsBaseCallOf f ty s) (batch s)

-- each sender's calls to the entity's base part, numbered from `first` on, are in turn
abbrev pub BaseCallsInTurn : ℕ → (ℕ → ℕ) → (ℕ → List CallData) → World → Type 0
BaseCallsInTurn e first batch w = (s : ℕ) → AreInTurn (first s) (batch s) (as_base_sender s (entity_flow e w))

-- ---- what the base part has yet to do, in a number that no step raises

abbrev pub part_burden : PartView → ℕ
part_burden p = p.version + held_in p.orders

abbrev pub has_base_burden : AtBase → ℕ
has_base_burden b = weight_or part_burden b.part + length (calls_ordered b)

abbrev pub asks : Msg → ℕ
asks m = one_if (base_call_in m)

abbrev pub mine_base_burden : ℕ → ℕ → Msg → ℕ
mine_base_burden e k m = weight_or asks (mine e m)

abbrev pub node_base_burden : ℕ → NodeView → ℕ
node_base_burden e n = has_base_burden (has_of e n).base

-- its version, and one for each call that it holds, that a link brings, or that a node was ordered to send
abbrev pub base_burden : ℕ → World → ℕ
base_burden e w = weight (node_base_burden e) (mine_base_burden e) w

-- ---- where the part is

-- the entity's base node
abbrev pub home_of : Frame → ℕ → ℕ
home_of f e = base_of (here_at f 0) e

-- a call to the base part goes to the entity's base node
abbrev pub IsHomeward : Frame → ℕ → ℕ → Msg → Type 0
IsHomeward f e k m = (c : CallData) → base_call_in m ≡ Some c → k ≡ home_of f e

-- the entity's base part, of type ty, is at its base node
pub record HasPart (f : Frame) (e ty : ℕ) (w : World) : Type 0 where
  -- the nodes go by the frame
  pub frame : IsInFrame f w
  -- the part
  pub part : PartView
  -- it is at the entity's base node
  pub here : ((entity_flow e w).slot (home_of f e)).base.part ≡ Some part
  -- and at no other
  pub others : (k : ℕ) → (k ≡ home_of f e → ⊥) → ((entity_flow e w).slot k).base.part ≡ None
  -- it is of the type
  pub type : part.ty ≡ ty
  -- calls to it go there
  pub calls : (a k : ℕ) → AllByRecursion (IsHomeward f e k) ((entity_flow e w).mail a k)

-- what a call to the base part finds at node k, which has b of its entity: the part, which may be offered it and is not late for it
pub record FindsPart (f : Frame) (e k : ℕ) (b : AtBase) (c : CallData) : Type 0 where
  pub home : k ≡ home_of f e
  pub part : PartView
  pub here : b.part ≡ Some part
  pub may : may_call (here_at f k) part c ≡ true
  pub due : (order_of part.orders c.sender).next ≤ c.number

-- ---- what a loaded world has of the calls to an entity's base part, and keeps

pub record HasBaseCalls (f : Frame) (e ty : ℕ) (first : ℕ → ℕ) (batch : ℕ → List CallData) (w : World) : Type 0 where
  -- the part, of type ty, is at the entity's base node, and calls to it go there
  pub part : HasPart f e ty w
  -- no one reaps the entity
  pub spared : IsSpared e w
  -- each sender's calls of the batch are its own, and fit the type
  pub ours : AreBaseCallsOf f ty batch
  -- they are in turn
  pub turns : BaseCallsInTurn e first batch w
  -- the part's version has room for all of them
  pub room : base_burden e w + 1 < limit

-- the entity has no client
abbrev pub HasNoClient : ℕ → World → Type 0
HasNoClient e w = (k : ℕ) → HasNoProxy ((entity_flow e w).slot k).base.part
