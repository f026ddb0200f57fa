use Rattle.std.proofs.Common.{length, ap, ◌∙◌}
use Rattle.seam_cell_told.proofs.UpdateLemmas.{count_shown}
use Rattle.seam_cell_told.proofs.updates.Updates.len.Goals as goal

pub returns : goal.returns
returns c =
    let u = c.self.inside in
    c.len.ensures.len ∙ (count_shown u.to u.entity u.sent u.made.items c.self.invariant.0 ∙ ap (λ v. length v.shown) c.self.view_is)
