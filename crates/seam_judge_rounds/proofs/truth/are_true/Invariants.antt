use Rattle.std.proofs.Common.{ℕ, ◌<◌, get_or, Bor}
use Rattle.seam_rule_rounds.specs.Prelude.{Shown, ShowsTruth, truth_of}
use Rattle.seam_judge_data.specs.Standings.{standing_of}
use Rattle.seam_judge_rounds.proofs.truth.are_true.Given as goal

abbrev pub invariant-loop-x : goal.invariant-loop-x
invariant-loop-x l =
    (k : ℕ) (d : Bor Shown) → k < l.x-index →
    ShowsTruth (truth_of l.case.header.now (standing_of l.case.before.now) (standing_of l.case.after.now) l.create) (get_or l.shown k d).now
