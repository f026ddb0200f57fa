use Rattle.seam_ghosts.proofs.Joins.{book_empty}
use Rattle.seam_ghosts.proofs.GhostBook.new.Goals as goal

pub returns : goal.returns
returns g c = rw (c.new.ensures, c.new-2.ensures) book_empty
