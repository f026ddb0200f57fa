use Rattle.std.proofs.Common.{sym, ap, ◌∙◌}
use Rattle.seam_ghosts.proofs.Joins.{copy_held, copy_joined}
use Rattle.seam_ghosts.proofs.copy_here.Goals as goal

pub returns-in-Some : goal.returns-in-Some
returns-in-Some g c =
    ap copy_held c.in-Some.ensures.item ∙ sym (copy_joined c.args.copies.now.items c.args.dropped.now.items c.args.e)

pub returns-in-None : goal.returns-in-None
returns-in-None g c =
    ap copy_held c.in-None.ensures.item ∙ sym (copy_joined c.args.copies.now.items c.args.dropped.now.items c.args.e)
