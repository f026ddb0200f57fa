use Rattle.std.proofs.Common.{◌≡◌, ◌<◌, ◌≤◌, ap, arith}
use Rattle.seam_tree.specs.declared.boundary.Boundary.{Boundary}
use Rattle.seam_tree.specs.Boundary.{place_along}
use Rattle.seam_tree.specs.Division.{area_divided_by}
use Rattle.seam_balance.specs.Balance.{boundary_at}
use Rattle.seam_balance.proofs.Range.{allowed_end, range_allowed, own_place, end_is}
use Rattle.seam_balance.proofs.allowed.allowed_range.Goals as goal

pub farthest_allowed-lowest-requires-clause-allowed : goal.farthest_allowed-lowest-requires-clause-allowed
farthest_allowed-lowest-requires-clause-allowed c =
    own_place c.args.tree.now c.args.b c.boundary_of-boundary.result c.requires.tree c.boundary_of-boundary.ensures

pub farthest_allowed-highest-requires-clause-allowed : goal.farthest_allowed-highest-requires-clause-allowed
farthest_allowed-highest-requires-clause-allowed c =
    own_place c.args.tree.now c.args.b c.boundary_of-boundary.result c.requires.tree c.boundary_of-boundary.ensures

-- the last place of the search is not below the boundary's own
from_own_place : (c : goal.After-farthest_allowed-highest) → c.boundary_of-boundary.result.at ≤ c.min-most.result
from_own_place c =
    let end : c.place_of-end.result ≡ place_along (boundary_at c.args.tree.now c.args.b).axis
    (area_divided_by c.args.tree.now c.args.b).high =
    end_is c.args.tree.now c.args.b c.boundary_of-boundary.result c.divided_area.result c.high.result c.place_of-end.result
    c.boundary_of-boundary.ensures c.divided_area.ensures c.high.ensures.corner c.place_of-end.ensures in
    let before_end : c.boundary_of-boundary.result.at
    < place_along (boundary_at c.args.tree.now c.args.b).axis (area_divided_by c.args.tree.now c.args.b).high =
    allowed_end c.args.tree.now c.args.b c.boundary_of-boundary.result.at c.requires.tree c.requires.there
    (own_place c.args.tree.now c.args.b c.boundary_of-boundary.result c.requires.tree c.boundary_of-boundary.ensures) in
    omega (arith, c.min-most.ensures, c.saturating_add.ensures, end, before_end, c.place_of-end.type_inv)

pub returns-clause-range : goal.returns-clause-range
returns-clause-range c =
    omega (
      arith,
      c.farthest_allowed-lowest.ensures.most,
      c.saturating_sub-least.ensures,
      c.farthest_allowed-highest.ensures.least,
      from_own_place c,
    )

pub returns-clause-allowed : goal.returns-clause-allowed
returns-clause-allowed c =
    let at_is : c.boundary_of-boundary.result.at ≡ (boundary_at c.args.tree.now c.args.b).at =
    ap (λ (x : Boundary). x.at) c.boundary_of-boundary.ensures in
    let end : c.place_of-end.result ≡ place_along (boundary_at c.args.tree.now c.args.b).axis
    (area_divided_by c.args.tree.now c.args.b).high =
    end_is c.args.tree.now c.args.b c.boundary_of-boundary.result c.divided_area.result c.high.result c.place_of-end.result
    c.boundary_of-boundary.ensures c.divided_area.ensures c.high.ensures.corner c.place_of-end.ensures in
    range_allowed c.args.tree.now c.args.b c.args.shift c.farthest_allowed-lowest.result c.farthest_allowed-highest.result c.requires.tree
    c.requires.there (record {
      low_from = omega (arith, c.farthest_allowed-lowest.ensures.least, c.saturating_sub-least.ensures);
      low_to = omega (arith, c.farthest_allowed-lowest.ensures.most, c.saturating_sub-least.ensures);
      low_allowed = c.farthest_allowed-lowest.ensures.allowed;
      lowest = λ at from to. c.farthest_allowed-lowest.ensures.below at (omega (arith, c.saturating_sub-least.ensures)) to;
      high_from = omega (arith, c.farthest_allowed-highest.ensures.least, from_own_place c);
      high_to = omega (arith, c.farthest_allowed-highest.ensures.most, c.min-most.ensures, c.saturating_add.ensures);
      high_allowed = c.farthest_allowed-highest.ensures.allowed;
      highest = λ at from to before.
          c.farthest_allowed-highest.ensures.above at from
          (omega (arith, c.min-most.ensures, c.saturating_add.ensures, c.place_of-end.type_inv));
    })
