use Rattle.std.proofs.Common.{arith, ◌≤◌, ◌+◌}
use Rattle.seam_geo.specs.Pos.{gap}
use Rattle.seam_geo.specs.Rect.{distance_along}
use Rattle.seam_geo.proofs.Nearest.{distance_along_over}
use Rattle.seam_geo.proofs.laws.triangle_inequality.Goals as goal

pub returns-clause-over : goal.returns-clause-over
returns-clause-over c a p q =
    let x : distance_along a.low.x a.high.x p.x ≤ gap p.x q.x + distance_along a.low.x a.high.x q.x = distance_along_over _ _ _ _ in
    let z : distance_along a.low.z a.high.z p.z ≤ gap p.z q.z + distance_along a.low.z a.high.z q.z = distance_along_over _ _ _ _ in
    omega (arith, x, z)
