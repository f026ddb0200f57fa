-- What is said of a text beside an input: that it is a transcript of the input's lines, or where and in what it first fails.
use Rattle.std.specs.Prelude.{◌≡◌, ◌≢◌, ◌⊎◌, ⊤, ℕ, ◌+◌, false, List, [], ◌∷◌, ◌++◌, Some, codes}
use Rattle.std.specs.List.{count_by}
use Rattle.seam_io.specs.Lines.{is_feed}
use Rattle.seam_rule_rounds.specs.Prelude.{Line, Header, AwaitHeader, RefusesHeader, refusal, RoundData, round_text, Standing, Piece}
use Rattle.seam_rule_rounds.specs.Prelude.{PrintAll}
use Rattle.seam_rule_rounds.specs.Prelude.{Refusal, Ended}
use Rattle.seam_rule_rounds.specs.Transcript.{text_of}
use Rattle.seam_rule_lines.specs.Header.{no_end}
use Rattle.seam_law_texts.specs.Forms.{IsFormed}
use Rattle.seam_law_forms.specs.Counting.{AreCounted}
use Rattle.seam_judge_rounds.specs.After.{after_round}
use Rattle.seam_judge_rounds.specs.Points.{Holds, IsFirstBroken, points}
use Rattle.seam_judge_rounds.specs.declared.verdict.Point.{Point}
use Rattle.seam_judge_rounds.specs.declared.verdict.Point.TheVariants as point
use Rattle.seam_law_verdicts.specs.declared.verdict.Verdict.{Verdict}
use Rattle.seam_law_verdicts.specs.declared.verdict.Verdict.TheVariants as verdict
use Rattle.seam_law_verdicts.specs.Due.{Due, RefusalDue, RoundDue, EndDue, IsDue}

-- ---- the header

-- the header is refused, with the number of the cause: the input ends within it, or it is refused at a line
abbrev pub HasBadHeader : List Line → ℕ → Type 0
HasBadHeader lines k =
    ((k ≡ no_end) × AwaitHeader lines)
    ⊎ ((read : List Line) × (line : Line) × (more : List Line) × (lines ≡ read ++ line ∷ more) × RefusesHeader read line k)

-- ---- a transcript

-- the text is an ended transcript of the lines; how its rounds were played is not asked
abbrev pub IsTranscript : List Line → List ℕ → Type 0
IsTranscript lines text = (h : Header) × (pieces : List Piece) × PrintAll lines h pieces × (text ≡ text_of false h.defs pieces)

-- ---- a failure

-- each round leaves the standing that its lines show: so there is one standing after pieces
abbrev pub LeaveShown : List Piece → Type 0
LeaveShown [] = ⊤
LeaveShown (Refusal line c ∷ pieces) = LeaveShown pieces
LeaveShown (Ended s r j t ∷ pieces) = (t ≡ after_round s r) × LeaveShown pieces

-- the numbers that each round shows are those that 64 bits hold
abbrev pub AreAllCounted : List Piece → Type 0
AreAllCounted [] = ⊤
AreAllCounted (Refusal line c ∷ pieces) = AreAllCounted pieces
AreAllCounted (Ended s r j t ∷ pieces) = AreCounted s t × AreAllCounted pieces

-- the text begins with another one
abbrev pub BeginsWith : (front text : List ℕ) → Type 0
BeginsWith front text = (after : List ℕ) × (text ≡ front ++ after)

-- the number of a point, as it is told: the two points of calls, of homes and of ghosts have one
abbrev pub number_of : Point → ℕ
number_of point.Number = 1
number_of point.Did = 2
number_of point.Dob = 2
number_of point.Homes = 3
number_of point.Cells = 3
number_of point.Bases = 4
number_of point.Places = 5
number_of point.Ghosts = 5
number_of point.Shown = 6
number_of point.Looked = 7
number_of point.Bounds = 8

-- the text begins with that of a round, which is in form for the standing at which it ends
abbrev pub ShowsRound : Header → Standing → List ℕ → RoundData → Type 0
ShowsRound h s text r = IsFormed h.defs s.book r × BeginsWith (round_text h.defs r) text

-- the text begins as the line of a refusal does
abbrev pub BeginsAsRefusal : List ℕ → Type 0
BeginsAsRefusal text = BeginsWith (codes "line ") text

-- where a round is due: a refusal comes before it that is not due; no round in form is shown; or one is, and this is the first point of a
-- legal round that it breaks
abbrev pub FailsRound : Header → Standing → List ℕ → (number : ℕ) → Type 0
FailsRound h s text number =
    ((number ≡ 0) × BeginsAsRefusal text)
    ⊎ ((number ≡ 1) × ¬ (BeginsAsRefusal text) × ((r : RoundData) → ¬ (ShowsRound h s text r)))
    ⊎ ((r : RoundData) × (p : Point) × ShowsRound h s text r × IsFirstBroken (Holds h s r (after_round s r)) points (Some p)
    × (number ≡ number_of p))

-- the text that comes next fails where this is due
abbrev pub Fails : Header → Due → List ℕ → (number : ℕ) → Type 0
Fails h (RefusalDue line c) text number = (number ≡ 0) × ¬ (BeginsWith (refusal line c) text)
Fails h (RoundDue s) text number = FailsRound h s text number
Fails h EndDue text number = (number ≡ 0) × (text ≢ [])

-- The text begins with all that is printed up to something that is due, and fails there: at its line `place`, or, where it has ended, at
-- the one after its lines. The number tells in what: 0 for a refusal and for what comes after the end, else a point of a legal round.
pub record FailsAt (lines : List Line) (text : List ℕ) (place number : ℕ) : Type 0 where
  pub header : Header
  pub pieces : List Piece
  pub shown : LeaveShown pieces
  pub due : Due
  pub is_due : IsDue lines header pieces due
  pub rest : List ℕ
  pub begins : text ≡ text_of false header.defs pieces ++ rest
  pub fails : Fails header due rest number
  pub at : place ≡ count_by is_feed (text_of false header.defs pieces) + 1

-- ---- verdicts

-- what a verdict says of a text, beside the lines of an input
abbrev pub Says : List Line → List ℕ → Verdict → Type 0
Says lines text (verdict.Header k) = HasBadHeader lines k
Says lines text verdict.Yes = IsTranscript lines text
Says lines text (verdict.No place number) = FailsAt lines text place number

-- the numbers that the rounds show by which a verdict says so are those that 64 bits hold
abbrev pub IsCounted : (lines : List Line) (text : List ℕ) (v : Verdict) → Says lines text v → Type 0
IsCounted lines text (verdict.Header k) bad = ⊤
IsCounted lines text verdict.Yes whole = AreAllCounted whole.1
IsCounted lines text (verdict.No place number) fails = AreAllCounted fails.pieces
