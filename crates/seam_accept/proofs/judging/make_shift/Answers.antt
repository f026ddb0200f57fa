use Rattle.std.proofs.Common.{sym, ◌∙◌, ap, subst}
use Rattle.seam_tree.specs.Division.{Division, HasBoundary, NoneEmpty}
use Rattle.seam_tree.specs.Change.{with_place}
use Rattle.seam_rule_lines.specs.Language.{Shift}
use Rattle.seam_rule_lines.specs.declared.verdict.Entry.TheVariants.{Divided}
use Rattle.seam_accept.specs.Judging.{Accepts}
use Rattle.seam_accept.proofs.TreeLemmas.{shift_accepted}
use Rattle.seam_accept.proofs.judging.make_shift.Goals as goal

pub returns-in-Ok-clause-judged : goal.returns-in-Ok-clause-judged
returns-in-Ok-clause-judged c = λ h b is. (
  subst (λ (t : Division). Accepts h b (Shift c.args.words.now.boundary.now c.args.words.now.at.now) (Divided t))
      (sym (c.in-Ok.ensures.moved ∙ ap (λ (t : Division). with_place t c.in-Some.boundary c.in-Some-whole_number.at) is))
      (shift_accepted h b c.args.words.now.boundary.now c.args.words.now.at.now c.in-Some.boundary c.in-Some-whole_number.at
      c.in-Some.ensures c.in-Some-whole_number.ensures
      (subst (λ (t : Division). HasBoundary t c.in-Some.boundary) is c.in-Ok.ensures.allowed.0)
      (subst (λ (t : Division). NoneEmpty (with_place t c.in-Some.boundary c.in-Some-whole_number.at)) is c.in-Ok.ensures.allowed.1)),
  tt,
)
