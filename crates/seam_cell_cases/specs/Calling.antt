-- Calls of a real that is in the cell.
use Rattle.std.specs.Prelude.{◌≡◌, Bool, false, ◌&&◌, Option, None, Some}
use Rattle.std.specs.FinMap as table
use Rattle.seam_node_steps.specs.Prelude.{Call, Here, order_of, RealView, has_ready, may_call, may_execute, CellView}

abbrev pub called_by : Here → Call → Option RealView → Bool
called_by h k None = false
called_by h k (Some r) = may_call h r k

-- the call's real is here and may be offered it
abbrev pub is_called : CellView → Call → Bool
is_called c k = called_by c.here k (table.get c.reals k.entity)

-- where its real is here, it is the call's turn
abbrev pub IsTurn : CellView → Call → Type 0
IsTurn c k = (r : RealView) → table.get c.reals k.entity ≡ Some r → k.number ≡ (order_of r.orders k.sender).next

-- the real, if there is one, has a ready call and may execute it
abbrev pub may_run : Option RealView → Bool
may_run None = false
may_run (Some r) = may_execute r && has_ready r.orders
