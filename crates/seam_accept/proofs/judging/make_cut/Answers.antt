use Rattle.std.proofs.Common.{sym, ◌∙◌, ap, subst}
use Rattle.seam_tree.specs.Boundary.{across}
use Rattle.seam_tree.specs.Division.{Division}
use Rattle.seam_tree.specs.Change.{with_cut, CanCut}
use Rattle.seam_rule_lines.specs.Language.{Cut}
use Rattle.seam_rule_lines.specs.declared.verdict.Entry.TheVariants.{Divided}
use Rattle.seam_accept.specs.Judging.{Accepts}
use Rattle.seam_accept.proofs.TreeLemmas.{cut_accepted}
use Rattle.seam_accept.proofs.judging.make_cut.Goals as goal

pub returns-in-Ok-clause-judged : goal.returns-in-Ok-clause-judged
returns-in-Ok-clause-judged c = λ h b is.
    let by = across c.in-Some-axis_named.axis c.in-Some-whole_number.at in (
      subst (λ (t : Division). Accepts h b (Cut c.args.words.now.cell.now c.args.words.now.axis_name.now c.args.words.now.at.now)
          (Divided t))
          (sym (c.in-Ok.ensures.added ∙ ap (λ (t : Division). with_cut t c.in-Some.cell by) is))
          (cut_accepted h b c.args.words.now.cell.now c.args.words.now.axis_name.now c.args.words.now.at.now c.in-Some.cell
          c.in-Some-axis_named.axis c.in-Some-whole_number.at c.in-Some.ensures c.in-Some-axis_named.ensures c.in-Some-whole_number.ensures
          (subst (λ (t : Division). CanCut t c.in-Some.cell by) is c.in-Ok.ensures.allowed)),
      tt,
    )
