use Rattle.std.proofs.Common.{◌≡◌, ◌≤◌, map}
use Rattle.seam_rule_rounds.specs.FlatTable.{public_at}
use Rattle.seam_judge_expected.proofs.states.public_at.Given as goal

abbrev pub invariant-loop-public : goal.invariant-loop-public
invariant-loop-public l =
    (l.public ≤ l.version)
    × (public_at l.header l.create (map (λ x. x.now) l.order) l.version ≡ public_at l.header l.create (map (λ x. x.now) l.order) l.public)

abbrev pub decreases-loop-public : goal.decreases-loop-public
decreases-loop-public l = l.public
