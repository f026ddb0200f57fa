use Rattle.std.proofs.Common.{◌≡◌, ◌≤◌, ◌<◌, ℕ, map}
use Rattle.seam_rule_rounds.specs.FlatTable.{public_at, other_at}
use Rattle.seam_judge_rounds.proofs.truth.is_some_copy.Given as goal

abbrev pub invariant-loop-version : goal.invariant-loop-version
invariant-loop-version l =
    (v : ℕ) → l.began ≤ v → v < l.version →
    l.copy ≡ other_at l.header l.create (map (λ x. x.now) l.order) (public_at l.header l.create (map (λ x. x.now) l.order) v) → ⊥
