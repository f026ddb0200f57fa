use Rattle.std.proofs.Common.{◌≡◌, ℕ, ◌<◌, get_or, Bor}
use Rattle.seam_rule_rounds.specs.Lines.{ClientLine}
use Rattle.seam_judge_rounds.proofs.clients.have_type.Given as goal

abbrev pub invariant-loop-line : goal.invariant-loop-line
invariant-loop-line l = (k : ℕ) (d : Bor ClientLine) → k < l.line-index → (get_or l.lines k d).now.ty ≡ l.ty
