-- Which calls a real executes, and what they leave of it.
use Rattle.std.specs.Prelude.{ℕ, ◌+◌, Bool, true, false, ◌&&◌, nat_lt, [], ◌∷◌, ◌++◌, length, None}
use Rattle.std.specs.FinMap as table
use Rattle.std.specs.FinSet as set
use Rattle.seam_geo.specs.declared.pos.Pos.{Pos}
use Rattle.seam_defs.specs.declared.states.State.{State}
use Rattle.seam_defs.specs.declared.flags.Part.TheVariants as part
use Rattle.seam_defs.specs.declared.flags.Group.TheVariants as group
use Rattle.seam_defs.specs.Deeds.{after, ghost_of, start_values}
use Rattle.seam_defs.specs.Tests.{are_of_group, changes}
use Rattle.seam_order.specs.Held.{OrderView}
use Rattle.seam_order.specs.Offers.{after_offer, after_taking}
use Rattle.seam_tree.specs.Cells.{Cells}
use Rattle.seam_call.specs.declared.call.Call.{Call}
use Rattle.seam_call.specs.declared.shown.GhostCopy.{GhostCopy}
use Rattle.seam_call.specs.Senders.{rank_of}
use Rattle.seam_call.specs.Calls.{is_for}
use Rattle.seam_entity.specs.Orders.{order_of}
use Rattle.seam_entity.specs.Reals.{RealView}
use Rattle.seam_entity.specs.Numbers.{may_rise}
use Rattle.seam_entity.specs.Fitting.{is_inside, can_do}
use Rattle.seam_entity.specs.Here.{Here, type_at, properties}
use Rattle.seam_entity.specs.ReadyCalls.{may_offer, all_held}

-- a real that has done nothing
abbrev pub created : Here → ℕ → ℕ → Pos → RealView
created h e ty p = record {
  entity = e;
  ty = ty;
  state = record { pos = p; props = start_values (properties h ty) group.Real };
  version = 0;
  public = 0;
  orders = table.empty;
  done = [];
  haunts = set.empty;
  beat = 0;
  generation = 0;
  witness = None;
}

-- what ghosts hold of an entity of this type, public version and state
abbrev pub copy_with : Here → ℕ → ℕ → State → GhostCopy
copy_with h ty version state = record { ty = ty; version = version; state = ghost_of (properties h ty) state }

-- what its ghosts hold
abbrev pub copy_of_real : Here → RealView → GhostCopy
copy_of_real h r = copy_with h r.ty r.public r.state

-- ---- what fits the definitions

-- a call for the entity's cell part that fits its type
abbrev pub fits_cell_part : Here → ℕ → ℕ → Call → Bool
fits_cell_part h e ty k = is_for part.Cell e k && can_do h.settings.size (type_at h ty) part.Cell k.deed

-- the real's type is one of the definitions, its values are of the group, it is in the space, and each held call fits
abbrev pub fits_real : Here → RealView → Bool
fits_real h r =
    nat_lt r.ty (length h.defs) && (are_of_group (properties h r.ty) group.Real r.state.props
    && (is_inside h.settings.size r.state.pos && all_held (fits_cell_part h r.entity r.ty) r.orders))

-- the copy's type is one of the definitions, its values are of the group, and it is in the space
abbrev pub fits_copy : Here → GhostCopy → Bool
fits_copy h c = nat_lt c.ty (length h.defs) &&
    (are_of_group (properties h c.ty) group.Ghost c.state.props && is_inside h.settings.size c.state.pos)

-- ---- a call of the real

-- its beat and its generation may rise
abbrev pub may_settle : RealView → Bool
may_settle r = may_rise r.beat && may_rise r.generation

-- it may execute a call and settle
abbrev pub may_execute : RealView → Bool
may_execute r = may_rise r.version && may_settle r

-- it may be offered the call, which is for it and fits it
abbrev pub may_call : Here → RealView → Call → Bool
may_call h r k = fits_cell_part h r.entity r.ty k && (may_offer (order_of r.orders k.sender) k.number && may_execute r)

-- whether others may see what the call changes
abbrev pub shows : Here → RealView → Call → Bool
shows h r k = changes (type_at h r.ty) r.state k.deed

abbrev pub public_after : Bool → ℕ → ℕ → ℕ
public_after true version public = version
public_after false version public = public

abbrev pub with_order : RealView → ℕ → OrderView Call → RealView
with_order r s o = record r { orders = table.insert r.orders s o }

-- the real with its state after the deed, one version and one done call more
abbrev pub with_deed : Here → RealView → Call → RealView
with_deed h r k = record r {
  state = after (type_at h r.ty) r.state k.deed;
  version = r.version + 1;
  public = public_after (shows h r k) (r.version + 1) r.public;
  done = r.done ++ k ∷ [];
}

-- the real after its sender's order was offered the call
abbrev pub with_offer : RealView → Call → RealView
with_offer r k = with_order r (rank_of k.sender) (after_offer (order_of r.orders k.sender) k.number k)

-- the real after a call whose turn it is
abbrev pub executed : Here → RealView → Call → RealView
executed h r k = with_offer (with_deed h r k) k

-- the real after the ready call of an order, which is kept under that place
abbrev pub executed_ready : Here → RealView → ℕ × OrderView Call → Call → RealView
executed_ready h r o k = with_order (with_deed h r k) o.0 (after_taking o.1)

-- the real with other haunts, another beat and another generation
abbrev pub settled_to : RealView → Cells → ℕ → ℕ → RealView
settled_to r haunts beat generation = record r { haunts = haunts; beat = beat; generation = generation }

-- the real where a round begins
abbrev pub real_begins : RealView → RealView
real_begins r = record r { done = [] }
