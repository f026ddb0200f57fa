use Rattle.std.proofs.Common.{sym, subst, ◌∙◌, ap}
use Rattle.seam_accept.specs.BookView.{BookView}
use Rattle.seam_accept.specs.Refines.{Refines}
use Rattle.seam_accept.proofs.Keeping.{tree_kept}
use Rattle.seam_accept.proofs.book.Book.set_tree.Goals as goal

pub returns : goal.returns
returns c = λ h b was.
    tree_kept h b _ c.args.tree (subst (Refines h b) (sym c.self.view_is) was)
    (ap (λ (v : BookView). v.count) c.self.view_is ∙ c.requires)
