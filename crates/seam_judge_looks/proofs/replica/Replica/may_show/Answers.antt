use Rattle.std.proofs.Common.{sym, subst, IsTrue, ◌↔◌}
use Rattle.std.specs.Prelude.{IfOk}
use Rattle.seam_rule_rounds.specs.Prelude.{Shown, MayShow, MayEnter, MaySet}
use Rattle.seam_judge_looks.specs.Replicas.{client_of}
use Rattle.seam_judge_looks.proofs.replica.Replica.may_show.Goals as goal

pub returns-in-Enter : goal.returns-in-Enter
returns-in-Enter c =
    subst (λ (x : Shown). IfOk c.may_enter.result (λ r. IsTrue r ↔ MayShow c.args.me (client_of c.args.self.now) x)) (sym c.in-Enter.is)
    (subst (λ k. IfOk c.may_enter.result (λ r. IsTrue r ↔ MayEnter c.args.me (client_of c.args.self.now) c.in-Enter.entity k)) c.get.ensures
    c.may_enter.ensures)

pub returns-in-Set : goal.returns-in-Set
returns-in-Set c =
    subst (λ (x : Shown). IfOk c.may_set.result (λ r. IsTrue r ↔ MayShow c.args.me (client_of c.args.self.now) x)) (sym c.in-Set.is)
    (subst (λ k. IfOk c.may_set.result (λ r. IsTrue r ↔ MaySet (client_of c.args.self.now) c.in-Set.entity k)) c.get-in-Set.ensures
    c.may_set.ensures)
