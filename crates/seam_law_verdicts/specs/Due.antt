-- What comes next in a transcript of lines.
use Rattle.std.specs.Prelude.{◌≡◌, ◌≢◌, ◌⊎◌, ℕ, List, ◌∷◌, ◌++◌}
use Rattle.seam_rule_rounds.specs.Prelude.{Line, Header, Judges, with_entry, open_lines, Standing, Piece, PrintLines, PrintAll, MOST_LINES}
use Rattle.seam_rule_rounds.specs.Standing.{with_book, with_line}
use Rattle.seam_rule_lines.specs.declared.verdict.Cause.{Cause}
use Rattle.seam_rule_lines.specs.declared.verdict.Verdict.{Verdict}
use Rattle.seam_rule_lines.specs.declared.verdict.Verdict.TheVariants as verdict

-- the refusal of a line, by its number, for a cause; the round that ends at a standing; or the end of the transcript
pub data Due : Type 0 where
  RefusalDue : (line : ℕ) → Cause → Due
  RoundDue : Standing → Due
  EndDue : Due

-- what a line makes due that the standing has counted, by the verdict on it, as *Follows* has it: an accepted line makes a round due where
-- it fills it, and a skipped line makes nothing due
abbrev pub MakesDue : Standing → Verdict → Due → Type 0
MakesDue s verdict.Skipped d = ⊥
MakesDue s (verdict.Refused c) d = d ≡ RefusalDue s.lines c
MakesDue s (verdict.Accepted x) d =
    let kept = with_book s (with_entry s.book x) in (open_lines kept.book ≡ MOST_LINES) × (d ≡ RoundDue kept)
MakesDue s verdict.Synced d = d ≡ RoundDue s

-- the next line makes this due, where the lines before it printed the pieces
pub record IsDueByLine (lines : List Line) (h : Header) (pieces : List Piece) (d : Due) : Type 0 where
  pub read : List Line
  pub line : Line
  pub more : List Line
  pub whole : lines ≡ read ++ line ∷ more
  pub standing : Standing
  pub printed : PrintLines read h pieces standing
  pub verdict : Verdict
  pub judged : Judges h standing.book line verdict
  pub makes : MakesDue (with_line standing) verdict d

-- the input's end does: the round that is open then, or, where none is, the end of the transcript
abbrev pub IsDueByEnd : List Line → Header → List Piece → Due → Type 0
IsDueByEnd lines h pieces (RefusalDue line c) = ⊥
IsDueByEnd lines h pieces (RoundDue s) = PrintLines lines h pieces s × (open_lines s.book ≢ 0)
IsDueByEnd lines h pieces EndDue = PrintAll lines h pieces

-- this comes next in a transcript of the lines, after these pieces
abbrev pub IsDue : List Line → Header → List Piece → Due → Type 0
IsDue lines h pieces d = IsDueByLine lines h pieces d ⊎ IsDueByEnd lines h pieces d
