-- Calls in the orders of their senders: whether one may be offered, and which is ready.
use Rattle.std.specs.Prelude.{ℕ, Bool, not, ◌&&◌, nat_lt, is_some, find, Option, None, Some}
use Rattle.std.specs.List.{list_all}
use Rattle.std.specs.FinMap as table
use Rattle.seam_order.specs.Held.{OrderView, item_at}
use Rattle.seam_order.specs.Offers.{next_item, after_taking}
use Rattle.seam_call.specs.declared.call.Call.{Call}
use Rattle.seam_entity.specs.Orders.{Orders}
use Rattle.seam_entity.specs.Numbers.{may_rise}

-- an item of this number may be offered: it is not held, and the numbers stay small
abbrev pub may_offer : {T : Type 0} → OrderView T → ℕ → Bool
may_offer o n = nat_lt 0 n && (may_rise n && not (is_some (item_at n o.held)))

-- the item whose turn it is has come
abbrev pub is_ready : {T : Type 0} → OrderView T → Bool
is_ready o = is_some (next_item o)

abbrev pub order_is_ready : ℕ × OrderView Call → Bool
order_is_ready p = is_ready p.1

-- the order of the least sender that has a ready call
abbrev pub ready_order : Orders → Option (ℕ × OrderView Call)
ready_order os = find order_is_ready (table.entries os)

abbrev pub has_ready : Orders → Bool
has_ready os = is_some (ready_order os)

-- the ready call of an order
abbrev pub call_in : Option (ℕ × OrderView Call) → Option Call
call_in None = None
call_in (Some o) = next_item o.1

-- the ready call of the least sender that has one
abbrev pub ready_call : Orders → Option Call
ready_call os = call_in (ready_order os)

-- the orders after the ready call of that one was taken
abbrev pub after_order : Orders → Option (ℕ × OrderView Call) → Orders
after_order os None = os
after_order os (Some o) = table.insert os o.0 (after_taking o.1)

-- the orders after it was taken
abbrev pub after_ready : Orders → Orders
after_ready os = after_order os (ready_order os)

abbrev pub item_passes : (Call → Bool) → ℕ × Call → Bool
item_passes test q = test q.1

abbrev pub order_passes : (Call → Bool) → ℕ × OrderView Call → Bool
order_passes test p = list_all (item_passes test) p.1.held

-- every held call passes the test
abbrev pub all_held : (Call → Bool) → Orders → Bool
all_held test os = list_all (order_passes test) (table.entries os)
