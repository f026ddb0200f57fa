-- A script in code beside the standing of a transcript.
use Rattle.std.specs.Prelude.{◌≡◌, ◌≢◌, ◌⊎◌, ℕ, List, [], Option, None, Some}
use Rattle.seam_accept.specs.BookView.{BookView}
use Rattle.seam_accept.specs.Refines.{Refines}
use Rattle.seam_judge_data.specs.Standings.{standing_of}
use Rattle.seam_judge_data.specs.declared.standing.Standing as plain
use Rattle.seam_rule_rounds.specs.Prelude.{Book, Entry, Header, Judges, Line, MOST_LINES, Standing, entries, open_lines, tree_of, with_book}
use Rattle.seam_rule_rounds.specs.Prelude.{with_entry, with_line}
use Rattle.seam_rule_lines.specs.declared.verdict.Verdict.TheVariants as verdict
use Rattle.seam_judge_reader.specs.declared.script.Read.{Read}
use Rattle.seam_judge_reader.specs.declared.script.Read.TheVariants as read

-- how far a script was read: its header, the book in code, and the lists of the standing
pub record ScriptView : Type 0 where
  pub header : Header
  pub book : BookView
  pub standing : plain.Standing

-- The lists are those of the standing. The book gave away each line at once: it has the same entries and the same tree, and no open line.
pub record IsAt (h : Header) (t : Standing) (s : ScriptView) : Type 0 where
  pub header : s.header ≡ h
  pub standing : standing_of s.standing ≡ t
  pub book : Book
  pub refines : Refines h book s.book
  pub closed : book.current ≡ []
  pub same : entries book ≡ entries t.book
  pub tree : tree_of book ≡ tree_of t.book

-- the line is read, and accepted with this entry
abbrev pub kept_of : Standing → Entry → Standing
kept_of t x = with_book (with_line t) (with_entry t.book x)

-- What became of a line, by the verdict on it, and where the script is then. A round ends with a `sync`, and with the last line that it may
-- have.
abbrev pub LineRead : Header → Standing → Line → Read → ScriptView → Type 0
LineRead h t line read.Header s = ⊥
LineRead h t line read.Kept s =
    (x : Entry) × Judges h t.book line (verdict.Accepted x) × (open_lines (kept_of t x).book ≢ MOST_LINES) × IsAt h (kept_of t x) s
LineRead h t line (read.Refused c) s = Judges h t.book line (verdict.Refused c) × IsAt h (with_line t) s
LineRead h t line read.Skipped s = Judges h t.book line verdict.Skipped × IsAt h (with_line t) s
LineRead h t line read.RoundEnds s =
    (Judges h t.book line verdict.Synced × IsAt h (with_line t) s)
    ⊎ ((x : Entry) × Judges h t.book line (verdict.Accepted x) × (open_lines (kept_of t x).book ≡ MOST_LINES) × IsAt h (kept_of t x) s)

-- a line was read that the book in code has accepted with this entry, which the lists do not have yet
pub record HasAccepted (h : Header) (t : Standing) (x : Entry) (s : ScriptView) : Type 0 where
  pub header : s.header ≡ h
  pub standing : standing_of s.standing ≡ with_line t
  pub book : Book
  pub refines : Refines h (with_entry book x) s.book
  pub closed : book.current ≡ []
  pub same : entries book ≡ entries t.book
  pub tree : tree_of book ≡ tree_of t.book

-- the entry is kept, and a round ends where it has all lines that it may have
abbrev pub IsKept : Header → Standing → Entry → Read → ScriptView → Type 0
IsKept h t x read.Kept s = (open_lines (kept_of t x).book ≢ MOST_LINES) × IsAt h (kept_of t x) s
IsKept h t x read.RoundEnds s = (open_lines (kept_of t x).book ≡ MOST_LINES) × IsAt h (kept_of t x) s
IsKept h t x r s = ⊥
