-- The nearest position of an area: on each axis the place itself, or the nearer end.
use Rattle.std.proofs.Common.{arith, ◌≡◌, ◌<◌, ◌≤◌, ℕ, ◌+◌, ◌-◌, max, min}
use Rattle.seam_geo.specs.declared.pos.Pos.{Pos}
use Rattle.seam_geo.specs.Pos.{gap}
use Rattle.seam_geo.specs.Rect.{Area, IsProper, distance_to, IsNearest, distance_along}

abbrev nearest_place : ℕ → ℕ → ℕ → ℕ
nearest_place low high at = max low (min at (high - 1))

reached_along : (low high at : ℕ) → low < high → gap at (nearest_place low high at) ≡ distance_along low high at
reached_along low high at proper = omega arith

least_along : (low high at place : ℕ) → low ≤ place → place < high → distance_along low high at ≤ gap at place
least_along low high at place above below = omega arith

pub distance_to_nearest : (a : Area) (p : Pos) → IsProper a → IsNearest a p (distance_to a p)
distance_to_nearest a p proper = record {
  reached =
      let q : Pos = record { x = nearest_place a.low.x a.high.x p.x; z = nearest_place a.low.z a.high.z p.z } in (
        q,
        record {
          from_x = omega arith;
          to_x = omega (arith, proper.wide);
          from_z = omega arith;
          to_z = omega (arith, proper.deep);
        },
        omega (arith, reached_along a.low.x a.high.x p.x proper.wide, reached_along a.low.z a.high.z p.z proper.deep),
      );
  least = λ q holds.
      omega (
        arith,
        least_along a.low.x a.high.x p.x q.x holds.from_x holds.to_x,
        least_along a.low.z a.high.z p.z q.z holds.from_z holds.to_z,
      );
}

pub distance_along_over : (low high at way : ℕ) → distance_along low high at ≤ gap at way + distance_along low high way
distance_along_over low high at way = omega arith
