use Rattle.std.proofs.Common.{◌≡◌, map}
use Rattle.seam_rule_lines.specs.FlatTable.{flat}
use Rattle.seam_judge_expected.proofs.states.state_at.Given as goal

abbrev pub invariant-loop-v : goal.invariant-loop-v
invariant-loop-v l = l.state ≡ flat l.header l.fn.part l.create (map (λ x. x.now) l.order) l.v
