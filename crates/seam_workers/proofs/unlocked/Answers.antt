use Rattle.std.proofs.Common.{◌∙◌, ◌∷◌, [], arith, None}
use Rattle.std.proofs.lemmas.List.{length-append}
use Rattle.seam_workers.proofs.Lists.{filled_none, placed_none}
use Rattle.seam_workers.proofs.unlocked.Goals as goal

pub loop-i-preserved : goal.loop-i-preserved
loop-i-preserved g c =
    let old = c.loop-i.found.items in
    let inv = c.loop-i.invariant in (
      rw c.in_ok-push.ensures.items (placed_none old inv.0),
      rw c.in_ok-push.ensures.items (omega (arith, inv.1, length-append old (None ∷ []))),
      rw c.in_ok-push.ensures.items (filled_none old ∙ inv.2),
    )
