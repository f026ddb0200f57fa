use Rattle.std.proofs.Common.{sym, subst}
use Rattle.seam_accept.specs.Refines.{Refines}
use Rattle.seam_accept.proofs.book.Book.count.Goals as goal

pub returns : goal.returns
returns c = λ h b was. (subst (Refines h b) (sym c.self.view_is) was).count
