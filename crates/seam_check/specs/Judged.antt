-- How far a text was judged beside the lines of an input.
use Rattle.std.specs.Prelude.{◌≡◌, ◌≢◌, ℕ, false, List, ◌++◌}
use Rattle.seam_node_steps.specs.Prelude.{AreDefs, AreLegal}
use Rattle.seam_rule_rounds.specs.Prelude.{BeginWithHeader, Header, IsRound, Judges, Line, Piece, RoundData, Run, Standing, Step}
use Rattle.seam_rule_rounds.specs.Prelude.{open_lines, refusal, round_text}
use Rattle.seam_rule_rounds.specs.Standing.{after_header, with_line}
use Rattle.seam_rule_rounds.specs.Transcript.{EndsInput, text_of}
use Rattle.seam_rule_lines.specs.declared.verdict.Cause.{Cause}
use Rattle.seam_rule_lines.specs.declared.verdict.Verdict.{Verdict}
use Rattle.seam_judge_rounds.specs.After.{after_round}
use Rattle.seam_judge_reader.specs.Scripts.{IsAt, ScriptView}
use Rattle.seam_law_verdicts.specs.Due.{Due, MakesDue}
use Rattle.seam_law_verdicts.specs.Kept.{Keeps}
use Rattle.seam_law_verdicts.specs.Verdicts.{BeginsWith, Fails, FailsRound, LeaveShown, Says}
use Rattle.seam_law_verdicts.specs.declared.verdict.Verdict.{Verdict as TextVerdict}
use Rattle.seam_check.specs.declared.judging.Taken.{Taken}
use Rattle.seam_check.specs.declared.judging.Taken.TheVariants as taken

-- ---- a script beside a standing

-- the script is at the standing, which lines made after a header that is legal
pub record IsBeside (h : Header) (t : Standing) (s : ScriptView) : Type 0 where
  pub legal : AreLegal h.settings
  pub defs : AreDefs h.defs
  pub at : IsAt h t s
  pub keeps : Keeps h t

-- it is beside some standing
abbrev pub Stands : ScriptView → Type 0
Stands s = (h : Header) × (t : Standing) × IsBeside h t s

-- ---- what comes next in a text

-- the text begins with the refusal, or not
abbrev pub RefusalTaken : (line : ℕ) → Cause → (text : List ℕ) → Taken → Type 0
RefusalTaken line c text (taken.Goes left) = text ≡ refusal line c ++ left.now
RefusalTaken line c text (taken.Fails number) = (number ≡ 0) × ¬ (BeginsWith (refusal line c) text)

-- the text begins with a legal round, and the script is where the round leaves it
pub record RoundGoes (h : Header) (s : Standing) (text left : List ℕ) (script : ScriptView) : Type 0 where
  pub round : RoundData
  pub legal : IsRound h s round (after_round s round)
  pub is : text ≡ round_text h.defs round ++ left
  pub at : IsAt h (after_round s round) script

abbrev pub RoundTaken : Header → Standing → (text : List ℕ) → ScriptView → Taken → Type 0
RoundTaken h s text script (taken.Goes left) = RoundGoes h s text left.now script
RoundTaken h s text script (taken.Fails number) = FailsRound h s text number

-- a line prints these pieces, with which the text begins, and the script is where they leave it
pub record LineGoes (h : Header) (t : Standing) (line : Line) (text left : List ℕ) (script : ScriptView) : Type 0 where
  pub after : Standing
  pub pieces : List Piece
  pub step : Step h t line pieces after
  pub shown : LeaveShown pieces
  pub is : text ≡ text_of false h.defs pieces ++ left
  pub beside : IsBeside h after script

-- what a line makes due fails at the text, in the point of this number
pub record LineFails (h : Header) (t : Standing) (line : Line) (text : List ℕ) (number : ℕ) : Type 0 where
  pub verdict : Verdict
  pub judged : Judges h t.book line verdict
  pub due : Due
  pub makes : MakesDue (with_line t) verdict due
  pub fails : Fails h due text number

abbrev pub LineTaken : Header → Standing → Line → (text : List ℕ) → ScriptView → Taken → Type 0
LineTaken h t line text script (taken.Goes left) = LineGoes h t line text left.now script
LineTaken h t line text script (taken.Fails number) = LineFails h t line text number

-- the end of the input prints these pieces, with which the text begins
pub record EndGoes (h : Header) (t : Standing) (text left : List ℕ) : Type 0 where
  pub pieces : List Piece
  pub ends : EndsInput h t pieces
  pub shown : LeaveShown pieces
  pub is : text ≡ text_of false h.defs pieces ++ left

abbrev pub EndTaken : Header → Standing → (text : List ℕ) → Taken → Type 0
EndTaken h t text (taken.Goes left) = EndGoes h t text left.now
EndTaken h t text (taken.Fails number) = (open_lines t.book ≢ 0) × FailsRound h t text number

-- ---- what was judged

-- The lines that were read after a header of `count` lines print these pieces, with which the text begins; the rest of it was not judged
-- yet. Each round left the standing that its lines show.
pub record HasJudged (h : Header) (count : ℕ) (read : List Line) (t : Standing) (text left : List ℕ) : Type 0 where
  pub pieces : List Piece
  pub run : Run (Step h) (after_header h count) read pieces t
  pub shown : LeaveShown pieces
  pub begins : text ≡ text_of false h.defs pieces ++ left

-- a verdict says something true of the text, beside any lines that begin with the header, of so many lines, and go on with these
pub record SaysAfter (h : Header) (count : ℕ) (more : List Line) (text : List ℕ) (v : TextVerdict) : Type 0 where
  pub says : (lines : List Line) → BeginWithHeader lines h count more → Says lines text v
