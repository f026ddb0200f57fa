use Rattle.std.proofs.Common.{◌≡◌, ◌∙◌, sym, ap, subst, IsTrue, ◌↔◌}
use Rattle.std.specs.List.{list_any}
use Rattle.seam_balance.specs.Balance.{HasSameCuts}
use Rattle.seam_rule_rounds.specs.Prelude.{is_balance}
use Rattle.seam_judge_data.specs.Standings.{standing_of}
use Rattle.seam_judge_reader.proofs.Forms.{cuts_decide}
use Rattle.seam_judge_reader.proofs.bounds.has_form.Goals as goal

pub returns-then-has_balance : goal.returns-then-has_balance
returns-then-has_balance c =
    let book = (standing_of c.args.standing.now).book in
    cuts_decide book c.is_next.result c.in-Some.tree c.args.bounds.now
    (ap (list_any is_balance) (sym c.deref.ensures.value) ∙ sym c.has_balance.ensures ∙ c.if-has_balance.true) c.in-Some.is
    c.is_next.ensures.tree
    (subst (λ d. IsTrue c.is_next.result ↔ HasSameCuts d c.in-Some.tree) c.tree_in.ensures c.is_next.ensures.same)
