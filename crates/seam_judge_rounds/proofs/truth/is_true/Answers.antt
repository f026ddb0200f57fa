use Rattle.std.proofs.Common.{sym, subst, IsTrue, ◌↔◌}
use Rattle.std.specs.Prelude.{IfOk}
use Rattle.seam_rule_rounds.specs.Prelude.{Shown, Enter, Set, ShowsTruth, truth_of}
use Rattle.seam_judge_data.specs.Standings.{standing_of}
use Rattle.seam_judge_rounds.proofs.truth.is_true.Goals as goal

pub returns-in-Enter : goal.returns-in-Enter
returns-in-Enter c =
    subst (λ (x : Shown). IfOk c.is_other.result (λ r. IsTrue r ↔ ShowsTruth
    (truth_of c.args.case.now.header.now (standing_of c.args.case.now.before.now) (standing_of c.args.case.now.after.now) c.args.create) x))
    (sym c.in-Enter.is) (subst (λ k. IfOk c.is_other.result (λ r. IsTrue r ↔ ShowsTruth
    (truth_of c.args.case.now.header.now (standing_of c.args.case.now.before.now) (standing_of c.args.case.now.after.now) c.args.create)
    (Enter c.in-Enter.entity k))) c.get-in-Enter.ensures c.is_other.ensures)

pub returns-in-Set : goal.returns-in-Set
returns-in-Set c =
    subst (λ (x : Shown). IfOk c.is_other-in-Set.result (λ r. IsTrue r ↔ ShowsTruth
    (truth_of c.args.case.now.header.now (standing_of c.args.case.now.before.now) (standing_of c.args.case.now.after.now) c.args.create) x))
    (sym c.in-Set.is) (subst (λ k. IfOk c.is_other-in-Set.result (λ r. IsTrue r ↔ ShowsTruth
    (truth_of c.args.case.now.header.now (standing_of c.args.case.now.before.now) (standing_of c.args.case.now.after.now) c.args.create)
    (Set c.in-Set.entity k))) c.get-in-Set.ensures c.is_other-in-Set.ensures)
