use Rattle.std.proofs.Common.{refl, sym, ap, ◌∙◌, subst}
use Rattle.seam_accept.specs.Refines.{Refines}
use Rattle.seam_accept.proofs.Keeping.{round_kept}
use Rattle.seam_accept.proofs.book.Book.take_batch.Goals as goal

pub returns-clause-ended : goal.returns-clause-ended
returns-clause-ended c = λ h b was.
    round_kept h b _ _ (subst (Refines h b) (sym c.self.view_is) was) refl refl refl refl refl (record {
      count = refl;
      creates = ap (λ v. v.items) c.replace-creates.ensures.after ∙ c.new.ensures.items;
      joined_ = ap (λ v. v.items) c.replace-clients.ensures.after ∙ c.new-2.ensures.items;
      orders = ap (λ v. v.items) c.replace-orders.ensures.after ∙ c.new-3.ensures.items;
      destroyed_ = ap (λ v. v.items) c.replace-destroys.ensures.after ∙ c.new-4.ensures.items;
      balance = c.replace-balance.ensures.after;
    })
