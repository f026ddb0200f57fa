-- The flat table: what each live entity is after what it executed, without cells.
use Rattle.std.specs.Prelude.{ℕ, ◌+◌, ◌-◌, Bool, not, List, length, filter, map, unwrap_or, None}
use Rattle.std.specs.List.{last_or, range_with_len}
use Rattle.seam_geo.specs.declared.pos.Pos.{Pos}
use Rattle.seam_defs.specs.Types.{type_of}
use Rattle.seam_defs.specs.Deeds.{own_of, other_of}
use Rattle.seam_defs.specs.Tests.{same_shown}
use Rattle.seam_defs.specs.declared.flags.Part.{Part}
use Rattle.seam_defs.specs.declared.flags.Part.TheVariants as part
use Rattle.seam_defs.specs.declared.types.Property.{Property}
use Rattle.seam_call.specs.declared.call.Call.{Call}
use Rattle.seam_call.specs.declared.create.Create.{Create}
use Rattle.seam_call.specs.declared.shown.GhostCopy.{GhostCopy}
use Rattle.seam_toml.specs.declared.header.Header.{Header}
use Rattle.seam_rule_lines.specs.Orders.{Orders}
use Rattle.seam_rule_lines.specs.FlatTable.{flat}
use Rattle.seam_rule_clients.specs.Looks.{Row}

-- the properties of an entity's type
abbrev pub properties : Header → Create → List Property
properties h c = (type_of h.defs c.ty).properties

-- a part's version: how many calls it executed
abbrev pub version_of : Orders → Part → Create → ℕ
version_of orders p c = length (orders p c.entity)

-- whether what others may see of a part changed at a version: what ghosts hold of a cell part, what its client is shown of a base part
abbrev pub has_changed_at : Header → Part → Create → List Call → ℕ → Bool
has_changed_at h p c order v = not (same_shown (properties h c) p (flat h p c order (v - 1)) (flat h p c order v))

-- the versions past one and up to another at which that changed, in rising order
abbrev pub changes_past : Header → Part → Create → List Call → ℕ → ℕ → List ℕ
changes_past h p c order v w = filter (has_changed_at h p c order) (range_with_len (v + 1) (w - v))

-- the public version at a version: the last one up to it at which what ghosts hold changed, or 0
abbrev pub public_at : Header → Create → List Call → ℕ → ℕ
public_at h c order v = unwrap_or (last_or None (changes_past h part.Cell c order 0 v)) 0

-- what other clients are shown of an entity at a public version
abbrev pub other_at : Header → Create → List Call → ℕ → GhostCopy
other_at h c order v = record { ty = c.ty; version = v; state = other_of (properties h c) (flat h part.Cell c order v) }

-- the row of an entity, after this order of its cell part
abbrev pub row_after : Header → Create → List Call → Row
row_after h c order = record {
  entity = c.entity;
  version = length order;
  own = own_of (properties h c) (flat h part.Cell c order (length order));
  other = other_at h c order (public_at h c order (length order));
}

-- the table of these entities
abbrev pub rows_of : Header → Orders → List Create → List Row
rows_of h orders live = map (λ c. row_after h c (orders part.Cell c.entity)) live

-- where an entity is at a version
abbrev pub position_at : Header → Create → List Call → ℕ → Pos
position_at h c order v = (flat h part.Cell c order v).pos

-- where it is after each of its calls past a version
abbrev pub positions_past : Header → Create → List Call → ℕ → List Pos
positions_past h c order v = map (position_at h c order) (range_with_len (v + 1) (length order - v))
