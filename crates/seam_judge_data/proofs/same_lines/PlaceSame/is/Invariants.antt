use Rattle.std.proofs.Common.{◌≡◌, ℕ, ◌<◌}
use Rattle.std.specs.FinSet as set
use Rattle.seam_judge_data.proofs.same_lines.PlaceSame.is.Given as goal

abbrev pub invariant-loop-cell : goal.invariant-loop-cell
invariant-loop-cell l = (c : ℕ) → c < l.cell → set.contains l.self-inside.ghosts c ≡ set.contains l.other-inside.ghosts c
