-- An entity's client: what its witness told, which the proxy at the base node shows it in order.
use Rattle.std.specs.Prelude.{◌≡◌, ℕ, ◌+◌, ◌<◌, ◌≤◌, Bool, true, false, List, [], length, Option, None, Some, option_map}
use Rattle.std.specs.List.{AllByRecursion}
use Rattle.seam_node_steps.specs.Prelude.{OrderView, Order, Shown, Line, ClientText, new_order, RealView, Msg, Tick, limit, PartView}
use Rattle.seam_node_steps.specs.Prelude.{ProxyView, stray_update, World}
use Rattle.seam_law_flow.specs.Prelude.{letters_of, Delivery}
use Rattle.seam_call.specs.declared.order.Order.TheVariants as order
use Rattle.seam_call.specs.declared.shown.ClientText.TheVariants as text
use Rattle.seam_call.specs.declared.shown.Update.{Update as UpdateData}
use Rattle.seam_law_calls.specs.Frames.{Frame}
use Rattle.seam_law_calls.specs.Sights.{Has, AtBase, entity_flow}
use Rattle.seam_law_calls.specs.Ones.{real_of, IsFrame, HasOne, real_at}
use Rattle.seam_law_calls.specs.PartMoves.{update_in}
use Rattle.seam_law_calls.specs.WitnessMoves.{sent_by}
use Rattle.seam_law_calls.specs.BaseTurns.{home_of, base_burden}

-- ---- what is told and shown

abbrev pub with_number : UpdateData → ℕ × Shown
with_number u = (u.number, u.shown)

-- what a message tells the client, with its number
abbrev pub tells : Msg → Option (ℕ × Shown)
tells m = option_map with_number (update_in m)

abbrev pub proxy_of : Option PartView → Option ProxyView
proxy_of None = None
proxy_of (Some p) = p.proxy

abbrev pub order_in : Option ProxyView → OrderView Shown
order_in None = new_order
order_in (Some x) = x.updates

-- the order of the client's updates at a node
abbrev pub updates_at : Has → OrderView Shown
updates_at s = order_in (proxy_of s.base.part)

abbrev pub shown_by : ClientText → Option Shown
shown_by (text.Shown s) = Some s
shown_by (text.Base v p) = None

abbrev pub shown_in : Line → Option Shown
shown_in l = shown_by l.text

abbrev pub lines_in : Option ProxyView → List Line
lines_in None = []
lines_in (Some x) = x.lines

-- what the client was shown of what its witness told
abbrev pub shown_at : Has → List Shown
shown_at s = letters_of shown_in (lines_in (proxy_of s.base.part))

-- ---- the reals

-- P is true of each real of the entity, in a cell or on its way
pub record EachReal (e : ℕ) (P : RealView → Type 0) (w : World) : Type 0 where
  pub cells : (k : ℕ) (r : RealView) → real_at e w k ≡ Some r → P r
  pub hands : (a k : ℕ) → AllByRecursion (λ m. (r : RealView) → real_of m ≡ Some r → P r) ((entity_flow e w).mail a k)

-- the entity's witness told at most n updates
abbrev pub HasToldAtMost : ℕ → ℕ → World → Type 0
HasToldAtMost e n w = EachReal e (λ r. sent_by r ≤ n) w

-- ---- looks

abbrev pub is_tick_order : Order → Bool
is_tick_order order.Tick = true
is_tick_order _ = false

-- the tick that a message is
abbrev pub tick_in : Msg → Option Msg
tick_in Tick = Some Tick
tick_in _ = None

-- the entity is in no look list, and no tick is ordered or on its way, as in a round before its looks
pub record HasNoLooks (e : ℕ) (w : World) : Type 0 where
  pub cells : (k : ℕ) → ((entity_flow e w).slot k).cell.looks ≡ 0
  pub orders : (k : ℕ) → AllByRecursion (λ o. is_tick_order o ≡ false) ((entity_flow e w).slot k).base.orders
  pub letters : (a k : ℕ) → AllByRecursion (λ m. tick_in m ≡ None) ((entity_flow e w).mail a k)

-- ---- the client

-- the client of entity e, of type ty, to which updates were told from number `first` on in this round
pub record HasClient (f : Frame) (e ty first : ℕ) (w : World) : Type 0 where
  -- the definitions and the tree are such
  pub frame : IsFrame f
  -- the type is one of the definitions
  pub known : ty < length f.defs
  -- the entity has one real, which fits
  pub one : HasOne f e ty w
  -- the base part
  pub part : PartView
  -- it is at the base node
  pub here : ((entity_flow e w).slot (home_of f e)).base.part ≡ Some part
  -- the proxy
  pub proxy : ProxyView
  -- the part has it
  pub has : part.proxy ≡ Some proxy
  -- it was shown at most as many lines as updates and calls, and one where it was attached
  pub lines : proxy.last ≤ proxy.updates.next + part.version
  -- what the witness told in this round
  pub issued : List Shown
  -- its next number follows them
  pub told : EachReal e (λ r. sent_by r + 1 ≡ first + length issued) w
  -- each of them was shown in order, is held, or is on its way, once
  pub delivery : Delivery updates_at shown_at tells (entity_flow e w) (home_of f e) first issued

-- with n updates told and its calls executed, the client's numbers stay below their limit
abbrev pub HasRoomFor : ℕ → ℕ → World → Type 0
HasRoomFor e n w = n + base_burden e w + 2 < limit

-- what an update finds at node k, which has b of its entity: the client, which may be offered it
pub record FindsClient (f : Frame) (e k : ℕ) (b : AtBase) (u : UpdateData) : Type 0 where
  pub home : k ≡ home_of f e
  pub part : PartView
  pub here : b.part ≡ Some part
  pub proxy : ProxyView
  pub has : part.proxy ≡ Some proxy
  pub may : stray_update u b.part ≡ false
