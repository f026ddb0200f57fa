use Rattle.std.proofs.Common.{◌∙◌, sym, ap, map}
use Rattle.std.proofs.lemmas.List.{length-map}
use Rattle.seam_judge_expected.proofs.Versions.{public_of_all}
use Rattle.seam_judge_expected.proofs.lines.public_version.Goals as goal

pub returns : goal.returns
returns c =
    c.in_ok-public_at.ensures.value
    ∙ public_of_all c.args.header.now c.args.create (map (λ x. x.now) c.deref.result.now) _ c.len.result
    (ap (map (λ x. x.now)) c.deref.ensures.value ∙ c.in_ok-order.ensures)
    (c.len.ensures ∙ sym c.deref.ensures.len ∙ sym (length-map c.deref.result.now (λ x. x.now)))
