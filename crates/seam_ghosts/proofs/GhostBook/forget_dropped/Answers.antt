use Rattle.std.proofs.Common.{ap, ◌∙◌}
use Rattle.seam_ghosts.specs.Book.{BookView, with_copies}
use Rattle.seam_ghosts.specs.Joined.{book_of}
use Rattle.seam_ghosts.proofs.Joins.{book_forgotten}
use Rattle.seam_ghosts.proofs.GhostBook.forget_dropped.Goals as goal

pub returns : goal.returns
returns g c =
    ap (λ t. book_of c.self.inside.copies t) c.new.ensures
    ∙ book_forgotten c.self.inside.copies c.self.inside.dropped
    ∙ ap (λ w. let b : BookView _ = record { ghosts = with_copies w.ghosts } in b) c.self.view_is
