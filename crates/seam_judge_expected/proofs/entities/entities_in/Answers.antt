use Rattle.std.proofs.Common.{◌∙◌, sym, ap, subst, ℕ}
use Rattle.std.specs.Prelude.{find, ◌==◌}
use Rattle.seam_rule_lines.specs.Round.{Lists}
use Rattle.seam_judge_expected.specs.Entities.{among_numbers}
use Rattle.seam_judge_expected.proofs.ListedLemmas.{lists_live, if_ok}
use Rattle.seam_judge_expected.proofs.entities.entities_in.Goals as goal

pub returns : goal.returns
returns c = if_ok c.among_numbers.result
    (λ made is. subst (Lists (λ (e : ℕ). find (λ x. x.entity == e) c.args.creates.now))
    (sym (is ∙ ap (among_numbers c.args.creates.now) c.deref.ensures.value))
    (lists_live c.args.creates.now c.in_ok-numbers.numbers.items c.in_ok-numbers.ensures))
    c.among_numbers.ensures
