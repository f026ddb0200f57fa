-- What contracts see of a base part, and what it gets ready before it executes a call.
use Rattle.std.specs.Prelude.{◌≡◌, if◌then◌else◌, ℕ, ◌+◌, ◌<◌, true, List, [], ◌∷◌, ◌++◌, Option, None, Some, option_map, box_value}
use Rattle.std.specs.Prelude.{vec_len, vec_capacity}
use Rattle.std.specs.Ordering.{nat_cmp}
use Rattle.std.specs.FinMap as table
use Rattle.std.specs.FinSet as set
use Rattle.seam_node_steps.specs.Prelude.{State, Call, Line, ClientText, Here, Orders, order_of, ready_order, Map, set_at, PartView}
use Rattle.seam_node_steps.specs.Prelude.{ProxyView, with_line, stray_update, offered, offered_update, after_ready, after_showing}
use Rattle.seam_call.specs.declared.shown.Update.{Update}
use Rattle.std.specs.declared.boxed.Box.{Box}
use Rattle.seam_base.specs.declared.part.Proxy.{Proxy}
use Rattle.seam_base.specs.declared.part.Body.{Body}

abbrev pub proxy_of : Proxy → ProxyView
proxy_of x = record { updates = x.updates; lines = x.lines.items; last = x.last }

abbrev pub client_in : {Z : Type 0} → Box Proxy Z → ProxyView
client_in x = proxy_of (box_value x)

-- the part; the room that was made in it is not seen
abbrev pub part_of : Body → PartView
part_of b = record {
  ty = b.ty;
  state = b.state;
  version = b.version;
  orders = b.orders.orders;
  done = b.done.items;
  proxy = option_map client_in b.proxy;
}

abbrev pub lines_or : Option ProxyView → List Line
lines_or None = []
lines_or (Some x) = x.lines

-- the lines that the client was shown in this round, none where there is no client
abbrev pub lines_of : PartView → List Line
lines_of p = lines_or p.proxy

abbrev pub next_or : Option ProxyView → ℕ
next_or None = 0
next_or (Some x) = x.updates.next

-- the number of the client's next update, 0 where there is no client
abbrev pub next_update_of : PartView → ℕ
next_update_of p = next_or p.proxy

-- the client, if there is one, has room for a line
abbrev pub HasLine : {Z : Type 0} → Option (Box Proxy Z) → Type 0
HasLine None = Unit {0}
HasLine (Some x) = vec_len (box_value x).lines < vec_capacity (box_value x).lines

-- there is room for a call whose turn it is, and for a line
pub record HasRoom (b : Body) (rank : ℕ) : Type 0 where
  pub done : vec_len b.done < vec_capacity b.done
  pub order : set.contains b.orders.senders rank ≡ true
  pub line : HasLine b.proxy

-- the part with one version and one done call more, and with the state that the call left
abbrev pub with_state : PartView → State → Call → PartView
with_state p s k = record p { state = s; version = p.version + 1; done = p.done ++ k ∷ [] }

abbrev pub shows : ClientText → ProxyView → ProxyView
shows t x = with_line x t

-- the client, if there is one, is shown the text, if there is one
abbrev pub told : PartView → Option ClientText → PartView
told p None = p
told p (Some t) = record p { proxy = option_map (shows t) p.proxy }

abbrev pub with_orders : PartView → Orders → PartView
with_orders p os = record p { orders = os }

-- ---- a part after a step

-- the entity's part, if there is one, changed
abbrev pub changed_at : (PartView → PartView) → Map PartView → ℕ → Map PartView
changed_at f m e = set_at m e (option_map f (table.get m e))

-- the part after it was offered the call
abbrev pub with_call : Here → Call → PartView → PartView
with_call h k p = offered h p k (nat_cmp k.number (order_of p.orders k.sender).next)

-- the part after its least sender's ready call
abbrev pub with_ready_call : Here → PartView → PartView
with_ready_call h p = after_ready h p (ready_order p.orders)

abbrev pub client_with_update : Update → ProxyView → ProxyView
client_with_update u x = offered_update x u (nat_cmp u.number x.updates.next)

-- the part after its client, if it has one, was offered the update
abbrev pub with_update : Update → PartView → PartView
with_update u p = record p { proxy = option_map (client_with_update u) p.proxy }

-- the parts after the update was offered to the client that it is for, if that may be offered it
abbrev pub parts_with_update : Update → Map PartView → Map PartView
parts_with_update u m = if stray_update u (table.get m u.entity) then m else changed_at (with_update u) m u.entity

-- the part after its client was shown the ready update
abbrev pub with_shown : PartView → PartView
with_shown p = after_showing p p.proxy
