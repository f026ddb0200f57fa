-- Boundaries, and the two parts into which one divides an area.
use Rattle.std.specs.Prelude.{ℕ, ◌<◌, ◌≤◌, ◌⊎◌}
use Rattle.seam_geo.specs.declared.pos.Pos.{Pos}
use Rattle.seam_geo.specs.Rect.{Area}
use Rattle.seam_tree.specs.declared.boundary.Axis.{Axis}
use Rattle.seam_tree.specs.declared.boundary.Axis.TheVariants.{X, Z}
use Rattle.seam_tree.specs.declared.boundary.Boundary.{Boundary}

-- the boundary across an axis at a place
abbrev pub across : Axis → ℕ → Boundary
across axis at = record { axis = axis; at = at }

-- where a position lies along an axis
abbrev pub place_along : Axis → Pos → ℕ
place_along X p = p.x
place_along Z p = p.z

-- the position at another place along an axis
abbrev pub moved_along : Axis → Pos → ℕ → Pos
moved_along X p at = record { x = at; z = p.z }
moved_along Z p at = record { x = p.x; z = at }

-- the part of an area that lies below a boundary
abbrev pub below : Area → Boundary → Area
below a b = record { low = a.low; high = moved_along b.axis a.high b.at }

-- the part of an area from a boundary on
abbrev pub above : Area → Boundary → Area
above a b = record { low = moved_along b.axis a.low b.at; high = a.high }

-- the boundary runs through the area: neither part is empty
pub record RunsThrough (b : Boundary) (a : Area) : Type 0 where
  pub from_low : place_along b.axis a.low < b.at
  pub to_high : b.at < place_along b.axis a.high

-- one of the two parts of the area is empty
abbrev pub LeavesPartEmpty : Boundary → Area → Type 0
LeavesPartEmpty b a = (b.at ≤ place_along b.axis a.low) ⊎ (place_along b.axis a.high ≤ b.at)

-- the area is empty on an axis
abbrev pub IsEmptyArea : Area → Type 0
IsEmptyArea a = (a.high.x ≤ a.low.x) ⊎ (a.high.z ≤ a.low.z)

-- the second area holds all that the first holds
pub record LiesWithin (a b : Area) : Type 0 where
  pub low_x : b.low.x ≤ a.low.x
  pub low_z : b.low.z ≤ a.low.z
  pub high_x : a.high.x ≤ b.high.x
  pub high_z : a.high.z ≤ b.high.z
