use Rattle.std.proofs.Common.{rules, Bor}
use Rattle.std.proofs.lemmas.List.Sorted.{answers_always}
use Rattle.seam_rule_rounds.specs.Prelude.{Call}
use Rattle.seam_judge_rounds.specs.Origins.{origin_of}
use Rattle.seam_judge_rounds.proofs.Grouping.{are_grouped}
use Rattle.seam_judge_rounds.proofs.origins.grouped.Goals as goal

pub returns : goal.returns
returns c =
    let keys = answers_always _ _ _ (λ f a r next called. search rules) in
    are_grouped c.args.part c.args.calls.now c.in_ok-own.own.items c.sort_by_key.new.self.items c.in_ok-own.ensures
    c.sort_by_key.ensures.permutation
    (c.sort_by_key.ensures.stable (λ (x : Bor Call). origin_of x.now) keys)
    (c.in_ok-sort_by_key.ensures.sorted (λ (x : Bor Call). origin_of x.now) keys)
