use Rattle.std.proofs.Common.{◌≡◌, take, map}
use Rattle.std.specs.FinMap as table
use Rattle.seam_rule_clients.specs.Clients.{after_all_shown}
use Rattle.seam_judge_looks.specs.Replicas.{empty_client}
use Rattle.seam_judge_looks.proofs.replica.Replica.version_shown.Given as goal

abbrev pub invariant-loop-x : goal.invariant-loop-x
invariant-loop-x l =
    l.version ≡ table.get
    (after_all_shown (empty_client l.self.radius l.self.hysteresis) (map (λ x. x.now) (take l.x-index l.self.shown.items))).others.shown
    l.entity
