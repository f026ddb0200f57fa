-- What is printed for the lines of an input.
use Rattle.std.specs.Prelude.{◌≡◌, ℕ, Bool, true, false, Option, None, Some, List, [], ◌∷◌, ◌++◌, ◌==◌, filter_map, MatchBool}
use Rattle.std.specs.List.{flat_map}
use Rattle.seam_io.specs.Lines.{Line}
use Rattle.seam_watch.specs.declared.journal.Journal.{Journal}
use Rattle.seam_defs.specs.declared.types.TypeDef.{TypeDef}
use Rattle.seam_toml.specs.declared.header.Header.{Header}
use Rattle.seam_rule_lines.specs.Header.{BeginWithHeader}
use Rattle.seam_rule_lines.specs.Book.{open_lines, with_entry}
use Rattle.seam_rule_lines.specs.Judging.{Judges}
use Rattle.seam_rule_lines.specs.LineTexts.{refusal}
use Rattle.seam_rule_lines.specs.Run.{Run}
use Rattle.seam_rule_lines.specs.declared.verdict.Cause.{Cause}
use Rattle.seam_rule_lines.specs.declared.verdict.Verdict.{Verdict}
use Rattle.seam_rule_lines.specs.declared.verdict.Verdict.TheVariants as verdict
use Rattle.seam_rule_lines.specs.declared.limits.TheConstants.{MOST_LINES}
use Rattle.seam_rule_rounds.specs.Standing.{Standing, after_header, with_line, with_book}
use Rattle.seam_rule_rounds.specs.Lines.{RoundData}
use Rattle.seam_rule_rounds.specs.Round.{IsRound}
use Rattle.seam_rule_rounds.specs.RoundTexts.{round_text, traced_text, journal_text}

-- what is printed at once: the refusal of a line, or a round that ended, between two standings, with the steps by which it was played
pub data Piece : Type 0 where
  Refusal : (line : ℕ) → Cause → Piece
  Ended : (before : Standing) → RoundData → Journal → (after : Standing) → Piece

-- the text of a round, with its steps where a trace is asked for
abbrev pub played_text : (traced : Bool) → List TypeDef → RoundData → Journal → List ℕ
played_text true defs r j = traced_text (journal_text j) defs r
played_text false defs r j = round_text defs r

abbrev pub piece_text : (traced : Bool) → List TypeDef → Piece → List ℕ
piece_text traced defs (Refusal line c) = refusal line c
piece_text traced defs (Ended s r j t) = played_text traced defs r j

-- the text of pieces
abbrev pub text_of : (traced : Bool) → List TypeDef → List Piece → List ℕ
text_of traced defs pieces = flat_map (piece_text traced defs) pieces

abbrev pub journal_of : Piece → Option Journal
journal_of (Refusal line c) = None
journal_of (Ended s r j t) = Some j

-- the steps of the rounds that ended
abbrev pub journals_of : List Piece → List Journal
journals_of pieces = filter_map journal_of pieces

-- the open round ends at the standing `s` with a round that is legal; `t` is the standing after it
abbrev pub EndsRound : Header → Standing → List Piece → Standing → Type 0
EndsRound h s pieces t = (r : RoundData) × (j : Journal) × (pieces ≡ Ended s r j t ∷ []) × IsRound h s r t

-- what is printed for a line that the standing has counted, by the verdict on it, and the standing after it: a round that an accepted line
-- fills ends
abbrev pub Follows : Header → Standing → Verdict → List Piece → Standing → Type 0
Follows h s verdict.Skipped pieces t = (pieces ≡ []) × (t ≡ s)
Follows h s (verdict.Refused c) pieces t = (pieces ≡ Refusal s.lines c ∷ []) × (t ≡ s)
Follows h s (verdict.Accepted x) pieces t =
    let kept = with_book s (with_entry s.book x) in
    MatchBool (open_lines kept.book == MOST_LINES) (EndsRound h kept pieces t) ((pieces ≡ []) × (t ≡ kept))
Follows h s verdict.Synced pieces t = EndsRound h s pieces t

-- the next line is read, with what is printed for it
abbrev pub Step : Header → Standing → Line → List Piece → Standing → Type 0
Step h s line pieces t = (v : Verdict) × Judges h s.book line v × Follows h (with_line s) v pieces t

-- the lines after the header print the pieces, one after another, and leave this standing
pub record PrintLines (lines : List Line) (h : Header) (pieces : List Piece) (t : Standing) : Type 0 where
  pub count : ℕ
  pub rest : List Line
  pub header : BeginWithHeader lines h count rest
  pub run : Run (Step h) (after_header h count) rest pieces t

-- what is printed at the end of the input: a last round, where a line was accepted since the last one ended
abbrev pub EndsInput : Header → Standing → List Piece → Type 0
EndsInput h s pieces = MatchBool (open_lines s.book == 0) (pieces ≡ []) ((t : Standing) × EndsRound h s pieces t)

-- all pieces that are printed for an input after this header, by its end
abbrev pub PrintAll : List Line → Header → List Piece → Type 0
PrintAll lines h pieces =
    (first last : List Piece) × (t : Standing) × PrintLines lines h first t × EndsInput h t last × (pieces ≡ first ++ last)
