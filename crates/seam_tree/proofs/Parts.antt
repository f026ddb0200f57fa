-- The two parts of an area: what they hold, and when neither is empty.
use Rattle.std.proofs.Common.{ℕ, ◌<◌, ◌≤◌, arith}
use Rattle.seam_geo.specs.declared.pos.Pos.{Pos}
use Rattle.seam_geo.specs.Rect.{Area, IsProper, Holds}
use Rattle.seam_tree.specs.declared.boundary.Axis.{Axis}
use Rattle.seam_tree.specs.declared.boundary.Axis.TheVariants.{X, Z}
use Rattle.seam_tree.specs.declared.boundary.Boundary.{Boundary}
use Rattle.seam_tree.specs.Boundary.{place_along, below, above, RunsThrough}

abbrev pub at_place : Axis → ℕ → Boundary
at_place axis at = record { axis = axis; at = at }

proper_parts_along : (a : Area) (axis : Axis) (at : ℕ) → IsProper (below a (at_place axis at)) → IsProper (above a (at_place axis at)) →
    IsProper a × RunsThrough (at_place axis at) a
proper_parts_along a X at l u =
    (record { wide = omega (arith, l.wide, u.wide); deep = l.deep }, record { from_low = l.wide; to_high = u.wide })
proper_parts_along a Z at l u =
    (record { wide = l.wide; deep = omega (arith, l.deep, u.deep) }, record { from_low = l.deep; to_high = u.deep })

-- where neither part is empty, neither is the area, and the boundary runs through it
pub proper_parts : (a : Area) (b : Boundary) → IsProper (below a b) → IsProper (above a b) → IsProper a × RunsThrough b a
proper_parts a b l u = proper_parts_along a b.axis b.at l u

proper_below_along : (a : Area) (axis : Axis) (at : ℕ) → IsProper a → RunsThrough (at_place axis at) a →
    IsProper (below a (at_place axis at))
proper_below_along a X at proper runs = record { wide = runs.from_low; deep = proper.deep }
proper_below_along a Z at proper runs = record { wide = proper.wide; deep = runs.from_low }

pub proper_below : (a : Area) (b : Boundary) → IsProper a → RunsThrough b a → IsProper (below a b)
proper_below a b = proper_below_along a b.axis b.at

proper_above_along : (a : Area) (axis : Axis) (at : ℕ) → IsProper a → RunsThrough (at_place axis at) a →
    IsProper (above a (at_place axis at))
proper_above_along a X at proper runs = record { wide = runs.to_high; deep = proper.deep }
proper_above_along a Z at proper runs = record { wide = proper.wide; deep = runs.to_high }

pub proper_above : (a : Area) (b : Boundary) → IsProper a → RunsThrough b a → IsProper (above a b)
proper_above a b = proper_above_along a b.axis b.at

holds_below_along : (a : Area) (axis : Axis) (at : ℕ) (p : Pos) → Holds a p → place_along axis p < at → Holds (below a (at_place axis at)) p
holds_below_along a X at p h l = record { from_x = h.from_x; to_x = l; from_z = h.from_z; to_z = h.to_z }
holds_below_along a Z at p h l = record { from_x = h.from_x; to_x = h.to_x; from_z = h.from_z; to_z = l }

pub holds_below : (a : Area) (b : Boundary) (p : Pos) → Holds a p → place_along b.axis p < b.at → Holds (below a b) p
holds_below a b = holds_below_along a b.axis b.at

holds_above_along : (a : Area) (axis : Axis) (at : ℕ) (p : Pos) → Holds a p → at ≤ place_along axis p → Holds (above a (at_place axis at)) p
holds_above_along a X at p h g = record { from_x = g; to_x = h.to_x; from_z = h.from_z; to_z = h.to_z }
holds_above_along a Z at p h g = record { from_x = h.from_x; to_x = h.to_x; from_z = g; to_z = h.to_z }

pub holds_above : (a : Area) (b : Boundary) (p : Pos) → Holds a p → b.at ≤ place_along b.axis p → Holds (above a b) p
holds_above a b = holds_above_along a b.axis b.at

below_holds_along : (a : Area) (axis : Axis) (at : ℕ) (p : Pos) → RunsThrough (at_place axis at) a → Holds (below a (at_place axis at)) p →
    Holds a p × (place_along axis p < at)
below_holds_along a X at p runs h =
    (record { from_x = h.from_x; to_x = omega (arith, runs.to_high, h.to_x); from_z = h.from_z; to_z = h.to_z }, h.to_x)
below_holds_along a Z at p runs h =
    (record { from_x = h.from_x; to_x = h.to_x; from_z = h.from_z; to_z = omega (arith, runs.to_high, h.to_z) }, h.to_z)

pub below_holds : (a : Area) (b : Boundary) (p : Pos) → RunsThrough b a → Holds (below a b) p → Holds a p × (place_along b.axis p < b.at)
below_holds a b = below_holds_along a b.axis b.at

above_holds_along : (a : Area) (axis : Axis) (at : ℕ) (p : Pos) → RunsThrough (at_place axis at) a → Holds (above a (at_place axis at)) p →
    Holds a p × (at ≤ place_along axis p)
above_holds_along a X at p runs h =
    (record { from_x = omega (arith, runs.from_low, h.from_x); to_x = h.to_x; from_z = h.from_z; to_z = h.to_z }, h.from_x)
above_holds_along a Z at p runs h =
    (record { from_x = h.from_x; to_x = h.to_x; from_z = omega (arith, runs.from_low, h.from_z); to_z = h.to_z }, h.from_z)

pub above_holds : (a : Area) (b : Boundary) (p : Pos) → RunsThrough b a → Holds (above a b) p → Holds a p × (b.at ≤ place_along b.axis p)
above_holds a b = above_holds_along a b.axis b.at
