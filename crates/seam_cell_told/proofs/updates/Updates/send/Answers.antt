use Rattle.std.proofs.Common.{length, ap, arith}
use Rattle.seam_cell_told.proofs.UpdateLemmas.{count_shown}
use Rattle.seam_cell_told.proofs.updates.Updates.send.Goals as goal

pub send_all-requires : goal.send_all-requires
send_all-requires c = λ some.
    let u = c.self.inside in
    let many = count_shown u.to u.entity u.sent u.made.items c.self.invariant.0 in
    omega (arith, c.requires some, many, ap (λ v. length v.shown) c.self.view_is)
