use Rattle.std.proofs.Common.{◌≡◌, List, ◌++◌, length}
use Rattle.seam_io.specs.Lines.{Line, lines_of}
use Rattle.seam_rule_lines.specs.Header.{AreHeaderLines}
use Rattle.seam_check.proofs.head.read_head.Given as goal

abbrev pub invariant-loop-line : goal.invariant-loop-line
invariant-loop-line l =
    (read : List Line) × (lines_of l.input ≡ read ++ lines_of l.rest) × AreHeaderLines read l.head × (l.count ≡ length read)

abbrev pub decreases-loop-line : goal.decreases-loop-line
decreases-loop-line l = length l.rest
