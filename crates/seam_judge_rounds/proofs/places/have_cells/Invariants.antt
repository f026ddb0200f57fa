use Rattle.std.proofs.Common.{ℕ, ◌<◌, get_or}
use Rattle.seam_rule_rounds.specs.Prelude.{Create}
use Rattle.seam_judge_rounds.specs.Points.{HasCell}
use Rattle.seam_judge_data.specs.Standings.{standing_of}
use Rattle.seam_judge_rounds.proofs.places.have_cells.Given as goal

abbrev pub invariant-loop-create : goal.invariant-loop-create
invariant-loop-create l = (k : ℕ) (d : Create) → k < l.create-index →
    HasCell l.header (standing_of l.before) (standing_of l.after) (get_or l.live k d)
