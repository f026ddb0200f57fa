use Rattle.std.proofs.Common.{◌≡◌, IfOk, subst, sym, ap, ◌∙◌}
use Rattle.std.specs.Map.{keys_of}
use Rattle.seam_ghosts.specs.Book.{copies}
use Rattle.seam_ghosts.proofs.Copies.{copies_joined}
use Rattle.seam_ghosts.proofs.GhostBook.entities.Goals as goal

pub returns : goal.returns
returns g c =
    let same =
    sym (copies_joined c.self.inside.copies.items c.self.inside.dropped.items) ∙ ap (λ w. keys_of (copies w)) c.self.view_is in
    subst (λ ns. IfOk c.numbers.result (λ v. v.items ≡ ns)) same c.numbers.ensures
