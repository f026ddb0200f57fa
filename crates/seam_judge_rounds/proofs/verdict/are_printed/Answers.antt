use Rattle.std.proofs.Common.{◌∙◌, sym, ap, subst, List, Option, None, Some, IsTrue, ◌↔◌}
use Rattle.std.specs.Prelude.{IfOk}
use Rattle.seam_rule_rounds.specs.Prelude.{Division, HomeLine, RoundData}
use Rattle.seam_judge_data.specs.Standings.{standing_of}
use Rattle.seam_judge_rounds.specs.Bounds.{PrintsBounds}
use Rattle.seam_judge_rounds.proofs.verdict.are_printed.Goals as goal

pub returns-in-Some : goal.returns-in-Some
returns-in-Some c =
    let h = c.args.case.now.header.now in
    let s = standing_of c.args.case.now.before.now in
    subst (λ (o : Option Division). IfOk c.are_bounds.result (λ r. IsTrue r ↔ PrintsBounds h s c.args.case.now.round.now.homes o))
    (sym c.in-Some.is ∙ ap (λ (x : RoundData). x.bounds) c.round.view_is)
    (subst (λ (hs : List HomeLine). IfOk c.are_bounds.result (λ r. IsTrue r ↔ PrintsBounds h s hs (Some c.in-Some.bounds)))
    (c.deref.ensures.value ∙ ap (λ (x : RoundData). x.homes) c.round.view_is) c.are_bounds.ensures)

pub returns-in-None : goal.returns-in-None
returns-in-None c =
    let h = c.args.case.now.header.now in
    let s = standing_of c.args.case.now.before.now in
    subst (λ (o : Option Division). IfOk c.are_bounds-in-None.result (λ r. IsTrue r ↔ PrintsBounds h s c.args.case.now.round.now.homes o))
    (sym c.in-None.is ∙ ap (λ (x : RoundData). x.bounds) c.round.view_is)
    (subst (λ (hs : List HomeLine). IfOk c.are_bounds-in-None.result (λ r. IsTrue r ↔ PrintsBounds h s hs None))
    (c.deref-in-None.ensures.value ∙ ap (λ (x : RoundData). x.homes) c.round.view_is) c.are_bounds-in-None.ensures)
