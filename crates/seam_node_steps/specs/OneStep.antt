-- Single steps: nodes before and after them.
use Rattle.std.specs.Prelude.{ℕ, pos, List, [], ◌∷◌, Option, None, Some, codes}
use Rattle.std.specs.FinMap as table
use Rattle.std.specs.FinSet as set
use Rattle.seam_value.specs.declared.values.Value.TheVariants.{Number, Text}
use Rattle.seam_defs.specs.Builtin.{avatar_methods, method_named}
use Rattle.seam_defs.specs.declared.flags.Part.TheVariants as part
use Rattle.seam_defs.specs.declared.states.Deed.{Deed}
use Rattle.seam_defs.specs.declared.states.Deed.TheVariants.{Move, Method}
use Rattle.seam_ghosts.specs.declared.Ghost.{Ghost}
use Rattle.seam_order.specs.Held.{OrderView}
use Rattle.seam_tree.specs.Cells.{Cells}
use Rattle.seam_call.specs.declared.sender.Sender.TheVariants as sender
use Rattle.seam_call.specs.declared.call.Call.{Call}
use Rattle.seam_call.specs.declared.order.Boundaries.{Boundaries}
use Rattle.seam_call.specs.declared.order.Order.{Order}
use Rattle.seam_call.specs.declared.shown.GhostCopy.{GhostCopy}
use Rattle.seam_call.specs.declared.shown.Shown.{Shown}
use Rattle.seam_call.specs.declared.shown.Line.{Line}
use Rattle.seam_call.specs.declared.shown.Update.{Update}
use Rattle.seam_call.specs.declared.shown.ClientText.{ClientText}
use Rattle.seam_call.specs.declared.shown.ClientText.TheVariants as text
use Rattle.seam_entity.specs.Orders.{Orders}
use Rattle.seam_entity.specs.Reals.{RealView}
use Rattle.seam_node_steps.specs.Maps.{Map}
use Rattle.seam_node_steps.specs.Slots.{NextPlace}
use Rattle.seam_node_steps.specs.Cells.{CellView}
use Rattle.seam_node_steps.specs.Bases.{BaseView, PartView, ProxyView}
use Rattle.seam_node_steps.specs.Rows.{at, call, here, cell, real, order, one, no}
use Rattle.seam_node_steps.specs.LateGhost.{three_cells}
use Rattle.seam_node_steps.specs.Loads.{one_cell}

-- cell k of the three
abbrev pub cell_of : ℕ → Map RealView → Map NextPlace → Map (Ghost GhostCopy) → List ℕ → List ℕ → CellView
cell_of k reals nexts ghosts survey looks = cell three_cells k reals nexts ghosts survey looks

-- the real of entity 1, far from any other cell
abbrev pub inland : RealView
inland = real 100 0 0 (at 1000 1000) no [] set.empty 0 0

-- cell 0 with this real of entity 1 alone, and with these survey and look lists
abbrev pub home_listing : RealView → List ℕ → List ℕ → CellView
home_listing r survey looks = cell_of 0 (one r) no no survey looks

abbrev pub home : RealView → CellView
home r = home_listing r [] []

-- two entities
abbrev pub both : {X : Type 0} → X → X → Map X
both a b = table.insert (table.insert table.empty 2 b) 1 a

abbrev pub cells : List ℕ → Cells
cells ks = set.from_list ks

-- entity 2 as entity 1
abbrev pub second : RealView → RealView
second r = record r { entity = 2 }

-- a move so far that the cell that it leaves is a haunt only because it was the home
abbrev pub far : Call
far = call 1 1 (Move (at 5410 4700))

-- the method `write`, whose property no other cell has
abbrev pub note : Deed
note = Method (method_named (codes "write") avatar_methods) (Text [] ∷ [])

-- an order that waits for the first call, and has it
abbrev pub has_first : Call → OrderView Call
has_first k = order 1 ((1, k) ∷ [])

-- the orders of base sender 1 alone
abbrev pub of_first : OrderView Call → Orders
of_first o = one o

-- the boundaries of one cell in the space of the three, with that number
abbrev pub one_with : ℕ → Boundaries
one_with n = record { tree = one_cell 10000; number = n }

-- ---- base nodes

-- calls of the methods `promote` and `pay` of entity 1's base part
abbrev pub base_call : ℕ → Deed → Call
base_call n d = record { entity = 1; part = part.Base; sender = sender.Base 1; number = n; deed = d }

abbrev pub promote : ℕ → Call
promote n = base_call n (Method (method_named (codes "promote") avatar_methods) [])

abbrev pub pay : ℕ → Call
pay n = base_call n (Method (method_named (codes "pay") avatar_methods) (Number (pos 7) ∷ []))

abbrev pub part_of : (version gold rank : ℕ) → Orders → List Call → Option ProxyView → PartView
part_of version gold rank os done x =
    record {
      ty = 0;
      state = record { pos = at 0 0; props = Number (pos gold) ∷ Number (pos rank) ∷ [] };
      version = version;
      orders = os;
      done = done;
      proxy = x;
    }

abbrev pub proxy : ℕ → List (ℕ × Shown) → List Line → ℕ → Option ProxyView
proxy next held lines last = Some (record { updates = order next held; lines = lines; last = last })

abbrev pub line : ℕ → ClientText → Line
line n t = record { number = n; text = t }

abbrev pub ranked : ℕ → ℕ → ClientText
ranked version rank = text.Base version (Number (pos rank) ∷ [])

abbrev pub update : ℕ → Shown → Update
update n s = record { entity = 1; number = n; shown = s }

-- parts that have done nothing, with a client that was shown nothing, and without one
abbrev pub new_client : PartView
new_client = part_of 0 0 1 no [] (proxy 1 [] [] 0)

abbrev pub without_client : PartView
without_client = part_of 0 0 1 no [] None

-- base node k of a world of three cells, with entity 1's route
abbrev pub base_of : ℕ → List Order → (ℕ × ℕ) → Map PartView → BaseView
base_of k os to parts = record {
  here = here k;
  cells = 3;
  orders = os;
  routes = one (record { cell = to.0; generation = to.1 });
  parts = parts;
  gone = [];
}

-- base node k of an opened world
abbrev pub empty_node : ℕ → BaseView
empty_node k = record { here = here k; cells = 1; orders = []; routes = table.empty; parts = table.empty; gone = [] }

-- entity 1's base node with this part of it, and with these orders
abbrev pub base_ordered : List Order → PartView → BaseView
base_ordered os p = base_of 17 os (1, 2) (one p)

abbrev pub base_with : PartView → BaseView
base_with p = base_ordered [] p
