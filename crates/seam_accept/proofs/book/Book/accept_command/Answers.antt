use Rattle.std.proofs.Common.{◌≡◌, sym, subst}
use Rattle.std.proofs.lemmas.Result.{err_from_is_err_and}
use Rattle.seam_toml.specs.declared.header.Header.{Header}
use Rattle.seam_rule_lines.specs.Book.{Book, with_entry}
use Rattle.seam_rule_lines.specs.Language.{Command}
use Rattle.seam_accept.specs.Judging.{Refuses}
use Rattle.seam_accept.specs.Refines.{Refines, CommandAccepted, CommandUncounted}
use Rattle.seam_accept.specs.BookView.{BookView, counted}
use Rattle.seam_accept.specs.declared.answers.Refusal.{Refusal}
use Rattle.seam_accept.specs.declared.answers.Accepted.{Accepted}
use Rattle.seam_accept.specs.declared.answers.Accepted.TheVariants as answer
use Rattle.seam_accept.proofs.Keeping.{line_counted}
use Rattle.seam_accept.proofs.book.Book.accept_command.Goals as goal

-- by what the command is, and the answer
taken_as : (h : Header) (b : Book) (c d : Command) (a x : Accepted) (v : BookView) → c ≡ d → a ≡ x → CommandUncounted h b c a v →
    CommandUncounted h b d x v
taken_as h b c d a x v same is taken =
    subst (λ (k : Command). CommandUncounted h b k x v) same (subst (λ (y : Accepted). CommandUncounted h b c y v) is taken)

accepted_as : (h : Header) (b : Book) (c : Command) (a x : Accepted) (v : BookView) → a ≡ x → CommandAccepted h b c x v →
    CommandAccepted h b c a v
accepted_as h b c a x v is accepted = subst (λ (y : Accepted). CommandAccepted h b c y v) (sym is) accepted

refused_as : (h : Header) (b : Book) (c d : Command) (r : Refusal) → c ≡ d → Refuses h b c r → Refuses h b d r
refused_as h b c d r same is = subst (λ (k : Command). Refuses h b k r) same is

pub returns-in_err-accepted-clause-refused : goal.returns-in_err-accepted-clause-refused
returns-in_err-accepted-clause-refused c =
    let p = err_from_is_err_and c.from_residual-in_err-accepted.result c.from_residual-in_err-accepted.ensures.1 in
    rw (p.1, p.2) (λ h b was. refused_as h b _ _ _ c.form.ensures (c.in_err-accepted.ensures.refused h b was))

pub returns-in-Kept-clause-accepted : goal.returns-in-Kept-clause-accepted
returns-in-Kept-clause-accepted c = λ h b was.
    let t = taken_as h b _ _ _ answer.Kept _ c.form.ensures c.in-Kept.is (c.in_ok-accepted.ensures.accepted h b was) in
    accepted_as h b _ _ answer.Kept _ c.in-Kept.is (
      t.0,
      t.1,
      line_counted h b t.0 _ _ _ (subst (Refines h b) (sym c.self.view_is) was) c.in_ok-count.ensures
          (subst (λ (v : BookView). Refines h (with_entry b t.0) (counted v)) (sym c.self-2.view_is) t.2),
    )

pub returns-in-Synced-clause-accepted : goal.returns-in-Synced-clause-accepted
returns-in-Synced-clause-accepted c = λ h b was.
    let t = taken_as h b _ _ _ answer.Synced _ c.form.ensures c.in-Synced.is (c.in_ok-accepted.ensures.accepted h b was) in
    accepted_as h b _ _ answer.Synced _ c.in-Synced.is t

pub returns-in-Skipped-clause-accepted : goal.returns-in-Skipped-clause-accepted
returns-in-Skipped-clause-accepted c = λ h b was.
    absurd (taken_as h b _ _ _ answer.Skipped _ c.form.ensures c.in-Skipped.is (c.in_ok-accepted.ensures.accepted h b was))
