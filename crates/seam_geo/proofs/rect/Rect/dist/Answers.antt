use Rattle.seam_geo.proofs.Nearest.{distance_to_nearest}
use Rattle.seam_geo.proofs.rect.Rect.dist.Goals as goal

pub returns-clause-nearest : goal.returns-clause-nearest
returns-clause-nearest c =
    rw (c.max.ensures, c.dist_along-x.ensures, c.dist_along-z.ensures, ← c.self.view_is)
    (distance_to_nearest _ _ (record { wide = c.self.invariant.0; deep = c.self.invariant.1 }))
