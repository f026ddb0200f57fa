-- The lines of an input in memory.
use Rattle.std.specs.Prelude.{◌≤◌, ⊤, length}
use Rattle.seam_io.specs.Lines.{Line, Content, Long}
use Rattle.seam_io.specs.declared.lines.TheConstants.{LONGEST_LINE}
use Rattle.seam_check.specs.declared.input.InputLine.{InputLine}
use Rattle.seam_check.specs.declared.input.InputLine.TheVariants as input

-- the line
abbrev pub as_line : InputLine → Line
as_line (input.Content content) = Content content.now
as_line input.Long = Long

-- its content is not longer than that of a line may be
abbrev pub IsShort : InputLine → Type 0
IsShort (input.Content content) = length content.now ≤ LONGEST_LINE
IsShort input.Long = ⊤
