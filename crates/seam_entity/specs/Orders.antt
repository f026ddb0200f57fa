-- Orders of several senders: what a part waits for from each, and what it holds.
use Rattle.std.specs.Prelude.{ℕ, Bool, true, false, ◌&&◌, ◌==◌, List, [], ◌∷◌, map, Option, None, Some, if◌then◌else◌}
use Rattle.std.specs.Ordering.{nat_cmp}
use Rattle.std.specs.FinMap as table
use Rattle.std.specs.FinSet as set
use Rattle.seam_order.specs.Held.{OrderView}
use Rattle.seam_call.specs.declared.sender.Sender.{Sender}
use Rattle.seam_call.specs.Senders.{rank_of}
use Rattle.seam_call.specs.declared.call.Call.{Call}

-- the orders of the senders from which something came, each under the sender's place in the order of senders
abbrev pub Orders : Type 0
Orders = table.FinMap nat_cmp (OrderView Call)

-- the order of a sender from which nothing came: it waits for number 1 and holds nothing
abbrev pub new_order : {T : Type 0} → OrderView T
new_order = record { next = 1; held = [] }

abbrev pub order_or : {T : Type 0} → Option (OrderView T) → OrderView T
order_or None = new_order
order_or (Some o) = o

-- the order of a sender
abbrev pub order_of : Orders → Sender → OrderView Call
order_of os s = order_or (table.get os (rank_of s))

-- ---- how they are kept: a sender from which nothing came may have a place, which is not shown

-- the orders, and the places of the senders whose order has a place
pub record OrdersView : Type 0 where
  pub orders : Orders
  pub senders : set.FinSet nat_cmp

abbrev is_nil : {X : Type 0} → List X → Bool
is_nil [] = true
is_nil (x ∷ xs) = false

abbrev pub is_new : {T : Type 0} → OrderView T → Bool
is_new o = (o.next == 1) && is_nil o.held

-- the places whose order something came for
abbrev pub shown : List (Sender × OrderView Call) → List (ℕ × OrderView Call)
shown [] = []
shown (p ∷ ps) = if is_new p.1 then shown ps else (rank_of p.0, p.1) ∷ shown ps

abbrev pub view_of : List (Sender × OrderView Call) → OrdersView
view_of ps = record { orders = table.from_entries (shown ps); senders = set.from_list (map (λ p. rank_of p.0) ps) }
