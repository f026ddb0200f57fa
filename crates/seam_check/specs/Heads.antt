-- What the first lines of an input are.
use Rattle.std.specs.Prelude.{◌+◌, ℕ, List, [], ◌∷◌, ◌++◌, length}
use Rattle.seam_io.specs.Lines.{Line, lines_of}
use Rattle.seam_rule_lines.specs.Header.{AreHeaderLines, BeginWithHeader, RefusesHeader}
use Rattle.seam_law_verdicts.specs.Verdicts.{HasBadHeader}
use Rattle.seam_check.specs.declared.head.Head.{Head}
use Rattle.seam_check.specs.declared.head.Head.TheVariants as head
use Rattle.seam_check.specs.declared.head.HeadLine.{HeadLine}
use Rattle.seam_check.specs.declared.head.HeadLine.TheVariants as line

-- lines begin with a header, of so many lines, and those of the rest come after it; or they are refused, with the number of the cause
abbrev pub IsHead : List Line → Head → Type 0
IsHead lines (head.Read h count rest) = BeginWithHeader lines h count (lines_of rest.now)
IsHead lines (head.Refused k) = HasBadHeader lines k

-- what a line is after lines that make a text, and the text then
abbrev pub HeadLineRead : (text : List ℕ) → Line → (after : List ℕ) → HeadLine → Type 0
HeadLineRead text l after line.GoesOn =
    (lines : List Line) → AreHeaderLines lines text → AreHeaderLines (lines ++ l ∷ []) after
HeadLineRead text l after (line.Ends h) =
    (lines : List Line) → AreHeaderLines lines text → BeginWithHeader (lines ++ l ∷ []) h (length lines + 1) []
HeadLineRead text l after (line.Refused k) = (lines : List Line) → AreHeaderLines lines text → RefusesHeader lines l k
