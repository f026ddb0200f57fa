use Rattle.std.proofs.Common.{◌≡◌, take}
use Rattle.seam_judge_rounds.specs.After.{ghosts_among}
use Rattle.seam_judge_rounds.proofs.after.ghosts_among.Given as goal

abbrev pub invariant-loop-line : goal.invariant-loop-line
invariant-loop-line l = l.cells ≡ ghosts_among (take l.line-index l.lines) l.entity
