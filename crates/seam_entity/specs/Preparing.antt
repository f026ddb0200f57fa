-- What a call meets at a real, what is known of it before it is executed, and the room that it needs.
use Rattle.std.specs.Prelude.{◌≡◌, ℕ, ◌+◌, ◌<◌, true, List, [], ◌∷◌, ◌++◌, Some}
use Rattle.std.specs.Ordering.{nat_cmp, match_ordering}
use Rattle.std.specs.FinSet as set
use Rattle.seam_defs.specs.declared.types.TypeDef.{TypeDef}
use Rattle.seam_defs.specs.declared.settings.Settings.{Settings}
use Rattle.seam_defs.specs.declared.states.Later.{Later}
use Rattle.seam_defs.specs.Deeds.{with_later}
use Rattle.seam_order.specs.Held.{OrderView}
use Rattle.seam_order.specs.Offers.{next_item}
use Rattle.seam_call.specs.declared.call.Call.{Call}
use Rattle.seam_call.specs.Senders.{rank_of}
use Rattle.seam_entity.specs.Orders.{order_of}
use Rattle.seam_entity.specs.Reals.{RealView, RoomyReal}
use Rattle.seam_entity.specs.Here.{Here}
use Rattle.seam_entity.specs.ReadyCalls.{ready_order}
use Rattle.seam_entity.specs.Executing.{executed, with_offer, shows, public_after}
use Rattle.seam_entity.specs.declared.real.Did.{Did}
use Rattle.seam_entity.specs.declared.real.Did.TheVariants.{Done, Held, Stale}

-- a node of that number with these definitions and settings
abbrev pub node_with : List TypeDef → ℕ → Settings → Here
node_with defs me settings = record { me = me; defs = defs; settings = settings }

-- the real with what a call left of its state, and one version more
abbrev pub advanced : RealView → Later → RealView
advanced r a =
    record r { state = with_later r.state a; version = r.version + 1; public = public_after a.changed (r.version + 1) r.public }

-- the same, with one done call more
abbrev pub with_after : RealView → Later → Call → RealView
with_after r a k = record (advanced r a) { done = r.done ++ k ∷ [] }

-- the call comes back, is executed or is held, as its number is below the one whose turn it is, that number or above it
abbrev pub outcome_of : Here → RealView → Call → Did
outcome_of h r k = match_ordering (nat_cmp k.number (order_of r.orders k.sender).next) (Stale k) (Done (shows h r k)) Held

-- the real after a call
abbrev pub offered : Here → RealView → Call → RealView
offered h r k = match_ordering (nat_cmp k.number (order_of r.orders k.sender).next) r (executed h r k) (with_offer r k)

-- there is room for one more done call
abbrev pub HasSpare : RoomyReal → Type 0
HasSpare r = 0 < r.spare

-- there is room for a call whose turn it is
abbrev pub HasRoom : RoomyReal → Call → Type 0
HasRoom r k = HasSpare r × (set.contains r.senders (rank_of k.sender) ≡ true)

-- the real's least sender that has a ready call has this order, which is kept under its place, and this ready call
pub record HasReady (r : RealView) (o : ℕ × OrderView Call) (k : Call) : Type 0 where
  pub order : ready_order r.orders ≡ Some o
  pub call : next_item o.1 ≡ Some k
