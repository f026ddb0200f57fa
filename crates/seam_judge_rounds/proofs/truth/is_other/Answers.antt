use Rattle.std.proofs.Common.{◌∙◌, sym, ap, map}
use Rattle.std.specs.List.{list_any}
use Rattle.seam_rule_lines.specs.Book.{destroys}
use Rattle.seam_judge_data.specs.Standings.{standing_of}
use Rattle.seam_judge_expected.proofs.ListedLemmas.{if_ok}
use Rattle.seam_judge_rounds.proofs.Truths.{other_decided}
use Rattle.seam_judge_rounds.proofs.truth.is_other.Goals as goal

pub returns : goal.returns
returns c = if_ok c.is_some_copy.result
    (λ r is. other_decided c.args.case.now.header.now (standing_of c.args.case.now.before.now) (standing_of c.args.case.now.after.now)
    c.args.entity c.args.copy.now c.in-Some.create c.deref-2.result.now c.as_slice-began.result.now r
    (sym c.in_ok-create.ensures ∙ c.in-Some.is)
    (ap (list_any (destroys c.args.entity)) (sym c.deref.ensures.value) ∙ sym c.has_died.ensures ∙ c.if-has_died.false)
    (ap (map (λ x. x.now)) c.deref-2.ensures.value ∙ c.in_ok-order.ensures)
    (ap (map (λ x. x.now)) c.as_slice-began.ensures.value ∙ c.in_ok-former.ensures) is)
    c.is_some_copy.ensures
