use Rattle.std.proofs.Common.{◌∙◌, ap}
use Rattle.seam_geo.specs.Rect.{Area}
use Rattle.seam_haunt.proofs.Around.{corners_around, around_corners}
use Rattle.seam_haunt.proofs.is_deep_inside.Goals as goal

pub returns-then-is_deep_along : goal.returns-then-is_deep_along
returns-then-is_deep_along c =
    let low = c.low-low.ensures.corner ∙ ap (λ (a : Area). a.low) c.in-Some.ensures.1 in
    let high = c.high-high.ensures.corner ∙ ap (λ (a : Area). a.high) c.in-Some.ensures.1 in
    let x = c.is_deep_along.ensures.0 c.if-is_deep_along.true in
    let z = c.is_deep_along-then-is_deep_along.ensures in (
      λ deep. (c.in-Some.ensures.0, corners_around _ _ _ _ _ low high x (z.0 deep)),
      λ around. z.1 (around_corners _ _ _ _ _ low high around.1).1,
    )

pub returns-else-is_deep_along : goal.returns-else-is_deep_along
returns-else-is_deep_along c =
    let low = c.low-low.ensures.corner ∙ ap (λ (a : Area). a.low) c.in-Some.ensures.1 in
    let high = c.high-high.ensures.corner ∙ ap (λ (a : Area). a.high) c.in-Some.ensures.1 in (
      λ deep. absurd (cc (deep, c.if-is_deep_along.false)),
      λ around. c.is_deep_along.ensures.1 (around_corners _ _ _ _ _ low high around.1).0,
    )
