-- What contracts see of a base node.
use Rattle.std.specs.Prelude.{ℕ, ◌+◌, List, [], ◌∷◌, ◌++◌, Option, option_map, Bool, true, false}
use Rattle.std.specs.FinMap as table
use Rattle.seam_defs.specs.declared.states.State.{State}
use Rattle.seam_defs.specs.Deeds.{client_of}
use Rattle.seam_order.specs.Held.{OrderView}
use Rattle.seam_call.specs.declared.call.Call.{Call}
use Rattle.seam_call.specs.declared.order.Order.{Order}
use Rattle.seam_call.specs.declared.shown.Shown.{Shown}
use Rattle.seam_call.specs.declared.shown.Line.{Line}
use Rattle.seam_call.specs.declared.shown.ClientText.{ClientText}
use Rattle.seam_call.specs.declared.shown.ClientText.TheVariants as text
use Rattle.seam_entity.specs.Orders.{Orders}
use Rattle.seam_node_steps.specs.Maps.{Map}
use Rattle.seam_entity.specs.Here.{Here, properties}

-- the cell where an entity's real was when it had that generation
pub record RouteView : Type 0 where
  pub cell : ℕ
  pub generation : ℕ

-- a client: the updates in their order, the lines that it was shown in this round, and the number of the last line
pub record ProxyView : Type 0 where
  pub updates : OrderView Shown
  pub lines : List Line
  pub last : ℕ

-- an entity's base part, which may have a client; the position of its state means nothing
pub record PartView : Type 0 where
  pub ty : ℕ
  pub state : State
  pub version : ℕ
  pub orders : Orders
  pub done : List Call
  pub proxy : Option ProxyView

-- a base node: the number of cells of the tree, what it is told to do, for each entity the route to its real, the base parts of the
-- entities whose base node this is, and who was reaped since the round began: their routes go as the next round begins
pub record BaseView : Type 0 where
  pub here : Here
  pub cells : ℕ
  pub orders : List Order
  pub routes : Map RouteView
  pub parts : Map PartView
  pub gone : List ℕ

abbrev pub with_part : BaseView → ℕ → PartView → BaseView
with_part b e p = record b { parts = table.insert b.parts e p }

-- ---- lines

-- the client is shown one more line, under its next number
abbrev pub with_line : ProxyView → ClientText → ProxyView
with_line x t = record x { lines = x.lines ++ record { number = x.last + 1; text = t } ∷ []; last = x.last + 1 }

abbrev pub line_if : Bool → ClientText → ProxyView → ProxyView
line_if true t x = with_line x t
line_if false t x = x

-- the base part as its client is shown it
abbrev pub base_text : Here → PartView → ClientText
base_text h p = text.Base p.version (client_of (properties h p.ty) p.state)

-- where that is due, the client, if there is one, is shown the part
abbrev pub shown_to_client : Bool → Here → PartView → PartView
shown_to_client due h p = record p { proxy = option_map (line_if due (base_text h p)) p.proxy }
