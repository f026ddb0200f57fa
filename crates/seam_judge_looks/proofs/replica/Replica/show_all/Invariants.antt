use Rattle.std.proofs.Common.{◌≡◌, take, map}
use Rattle.seam_rule_rounds.specs.Prelude.{after_all_shown, MayShowAll}
use Rattle.seam_judge_looks.specs.Replicas.{client_of}
use Rattle.seam_judge_looks.proofs.replica.Replica.show_all.Given as goal

abbrev pub invariant-loop-x : goal.invariant-loop-x
invariant-loop-x l = record {
  shown : client_of l.self ≡ after_all_shown (client_of l.initial.self) (map (λ x. x.now) (take l.x-index l.shown));
  may : MayShowAll l.me (client_of l.initial.self) (map (λ x. x.now) (take l.x-index l.shown));
}
