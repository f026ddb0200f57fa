use Rattle.std.proofs.Common.{◌≡◌, take}
use Rattle.std.specs.Prelude.{filter}
use Rattle.seam_rule_rounds.specs.Prelude.{is_for, done_lines}
use Rattle.seam_judge_expected.proofs.lines.done_lines_of.Given as goal

abbrev pub invariant-loop-create : goal.invariant-loop-create
invariant-loop-create l = l.lines.items ≡ done_lines (λ e. filter (is_for l.part e) l.calls) (take l.create-index l.made)
