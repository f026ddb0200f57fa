-- What a step of one entity's slot leaves in the parts of a cell.
use Rattle.std.specs.Prelude.{◌≡◌, ℕ, ◌+◌, ◌++◌, ◌==◌, Bool, true, false, is_none, List, Option, Some, if◌then◌else◌}
use Rattle.std.specs.FinMap as table
use Rattle.std.specs.FinSet as set
use Rattle.seam_node_steps.specs.Prelude.{Boundaries, brought, Division, Pos, Ghost, ghost_after, GhostCopy, OutView, Here, RealView}
use Rattle.seam_node_steps.specs.Prelude.{copy_of_real, Msg, Map}
use Rattle.seam_node_steps.specs.Prelude.{set_at, has_any, Slot, NextPlace, SlotStep, slot_after, home_after, haunts_at, ghost_messages}
use Rattle.seam_node_steps.specs.Prelude.{copy_if, without, Telling}
use Rattle.seam_entity.specs.Reals.{RoomyReal}
use Rattle.seam_cell_parts.specs.declared.remotes.Remotes.{Remotes}
use Rattle.seam_cell_parts.specs.declared.settle.Begun.{Begun}
use Rattle.seam_cell_parts.specs.Settling.{former}

-- ---- what settling begins with

-- what is told of a real of cell h that settles at that position
abbrev pub telling_at : Here → Division → RealView → Pos → Bool → Telling
telling_at h t r p changed =
    let j : ℕ = home_after h t p in
    record {
      me = h.me;
      home = j;
      old = r.haunts;
      haunts = haunts_at h t p j (former h.me j r.haunts);
      changed = changed;
      entity = r.entity;
      beat = r.beat + 1;
    }

-- `later` is what the real is after a call: of the same entity, with the same haunts and beat
pub record IsLater (r later : RealView) : Type 0 where
  pub entity : later.entity ≡ r.entity
  pub haunts : later.haunts ≡ r.haunts
  pub beat : later.beat ≡ r.beat

-- ---- what a step leaves

-- what a step may change beside the real: the next places, the ghosts, and what is sent
pub record PartsView : Type 0 where
  pub nexts : Map NextPlace
  pub ghosts : Map (Ghost GhostCopy)
  pub sent : List (ℕ × Msg)

abbrev pub parts_of : Remotes → OutView Msg → PartsView
parts_of p o = record { nexts = p.nexts.items; ghosts = p.copies.ghosts; sent = o.items }

-- the slot of entity e in these parts, with that real
abbrev pub slot_in : PartsView → ℕ → RealView → Slot
slot_in w e r = record { real = Some r; next = table.get w.nexts e; ghost = table.get w.ghosts e }

abbrev pub core_of : RoomyReal → RealView
core_of r = r.core

-- the ghosts once the own book heard of the real, of which the copy is g; it hears where the real goes
abbrev pub heard : Telling → GhostCopy → Map (Ghost GhostCopy) → Map (Ghost GhostCopy)
heard t g ghosts =
    if t.home == t.me
    then ghosts
    else set_at ghosts t.entity
    (ghost_after (table.get ghosts t.entity) (record { beat = t.beat; copy = copy_if (set.contains t.haunts t.me) g }))

-- what the haunts of the real are told
abbrev pub told_of : Here → RealView → Telling → List (ℕ × Msg)
told_of h r t = ghost_messages h r t.home t.haunts t.changed

-- the settling of the real, changed or not, has begun: its haunts were told, where it goes the own book heard and the boundaries are there
-- that it brings, and nothing else changed
pub record HasBegun (h : Here) (t : Boundaries) (r : RealView) (changed : Bool) (before after : PartsView) (b : Begun) : Type 0 where
  pub telling : b.telling ≡ telling_at h t.tree r r.state.pos changed
  pub has_told : b.has_told ≡ has_any (told_of h r b.telling)
  pub brought : (b.telling.home == b.telling.me) ≡ false → b.brought ≡ brought t
  pub nexts : after.nexts ≡ before.nexts
  pub ghosts : after.ghosts ≡ heard b.telling (copy_of_real h r) before.ghosts
  pub sent : after.sent ≡ before.sent ++ told_of h r b.telling

-- the step of the slot of entity e, whose real was r, left this of the real and of the parts
pub record IsDone (t : SlotStep) (e : ℕ) (r : RealView) (left : Option RealView) (before after : PartsView) : Type 0 where
  pub real : left ≡ (slot_after t.slot (slot_in before e r)).real
  pub nexts : after.nexts ≡ set_at before.nexts e (slot_after t.slot (slot_in before e r)).next
  pub ghosts : after.ghosts ≡ set_at before.ghosts e (slot_after t.slot (slot_in before e r)).ghost
  pub sent : after.sent ≡ before.sent ++ t.sent
  pub unlisted : t.unlisted ≡ is_none left

-- a list without the entity, where its entries go
abbrev pub list_after : Bool → ℕ → List ℕ → List ℕ
list_after true e es = without e es
list_after false e es = es
