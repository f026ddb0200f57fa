use Rattle.std.proofs.Common.{◌≡◌, ◌∙◌, ap, sym, true, map, take, arith}
use Rattle.seam_rule_clients.specs.Clients.{ClientReplica, after_shown, after_all_shown}
use Rattle.seam_judge_looks.specs.Replicas.{client_of}
use Rattle.seam_judge_looks.proofs.Steps.{shown_more}
use Rattle.seam_judge_looks.proofs.InTurn.{fails, goes_on}
use Rattle.seam_judge_looks.proofs.replica.Replica.show_all.Goals as goal

pub returns-then-not-may : goal.returns-then-not-may
returns-then-not-may c =
    fails c.args.me (client_of c.args.self.now) (client_of c.loop-x.self) c.args.shown.now c.loop-x.x-index c.x-item.result c.in_ok-may.may
    c.loop-x-test.true c.x-item.is c.loop-x.invariant.shown c.in_ok-may.ensures c.if-not-may.true

pub loop-x-preserved : goal.loop-x-preserved
loop-x-preserved c =
    let so : c.in_ok-may.may ≡ true = first_of (cc, grind arith) in record {
      shown = c.in_ok-show.ensures ∙ ap (λ (q : ClientReplica). after_shown q c.x-item.result.now) c.loop-x.invariant.shown
          ∙ (λ i. after_shown (after_all_shown (client_of c.args.self.now) (map (λ x. x.now) (take c.loop-x.x-index c.args.shown.now)))
          (c.x-item.is i).now)
          ∙ sym (shown_more (client_of c.args.self.now) c.args.shown.now c.loop-x.x-index c.x-item.result c.loop-x-test.true);
      may = goes_on c.args.me (client_of c.args.self.now) (client_of c.loop-x.self) c.args.shown.now c.loop-x.x-index c.x-item.result
          c.in_ok-may.may c.loop-x-test.true c.x-item.is c.loop-x.invariant.shown c.in_ok-may.ensures so c.loop-x.invariant.may;
    }
