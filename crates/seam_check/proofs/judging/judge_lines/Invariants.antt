use Rattle.std.proofs.Common.{length}
use Rattle.seam_io.specs.Lines.{lines_of}
use Rattle.seam_check.proofs.Progress.{IsUpTo}
use Rattle.seam_check.proofs.judging.judge_lines.Given as goal

abbrev pub invariant-loop-line : goal.invariant-loop-line
invariant-loop-line l = IsUpTo l.fn.script (lines_of l.lines) l.text l.script (lines_of l.input) l.left

abbrev pub decreases-loop-line : goal.decreases-loop-line
decreases-loop-line l = length l.input
