use Rattle.std.proofs.Common.{refl, sym, subst}
use Rattle.seam_rule_lines.specs.declared.verdict.Entry.TheVariants.{Ticked}
use Rattle.seam_accept.specs.Refines.{Refines}
use Rattle.seam_accept.proofs.Keeping.{other_kept}
use Rattle.seam_accept.proofs.book.Book.add_tick.Goals as goal

pub returns-clause-kept : goal.returns-clause-kept
returns-clause-kept c = λ h b was.
    other_kept h b Ticked _ _ (subst (Refines h b) (sym c.self.view_is) was) refl
    (λ e. record { makes = refl; destroys = refl; joins = refl; calls = λ p s. refl }) refl refl refl
    (record {
      header = refl;
      tree = refl;
      count = refl;
      creates = refl;
      joined_ = refl;
      orders = c.in_ok-push.ensures.items;
      destroyed_ = refl;
      balance = refl;
    })
