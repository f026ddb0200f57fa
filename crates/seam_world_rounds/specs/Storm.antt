-- How a run of a generated input ends, of which nothing but the summary is written.
use Rattle.std.specs.Prelude.{◌≡◌, ◌⊎◌, ℕ, ◌≤◌, false, List, [], ◌++◌}
use Rattle.std.specs.Io.KnownBytes.{Appends}
use Rattle.seam_rule_rounds.specs.Prelude.{Rose, SourceState, SinkState, Line, lines_of, text_of_storm, Told, after_all, Journal, Header}
use Rattle.seam_rule_rounds.specs.Prelude.{Piece, PrintAll, journals_of, summary_text}
use Rattle.seam_world_rounds.specs.Transcripts.{WerePlayed, IsOpen}
use Rattle.seam_world_ends.specs.Ends.{IsPrefix, IsProperPrefix, HasFaultLine, the_space}
use Rattle.seam_world_ends.specs.Status.{IsRunEnd}
use Rattle.seam_world_ends.specs.declared.status.Status.{Status}
use Rattle.seam_world_ends.specs.declared.status.Status.TheVariants as status

-- the generated input of so many lines
module _ (lines : ℕ) where
  abbrev pub input : List Line
  input = lines_of (text_of_storm lines)

  -- the summary of all that is printed for the input, and the steps of its rounds
  abbrev pub IsSummary : List ℕ → List Journal → Type 0
  IsSummary text steps =
      (h : Header) × (pieces : List Piece) × PrintAll input h pieces × WerePlayed h pieces
      × (text ≡ summary_text lines pieces) × (steps ≡ journals_of pieces)

  -- the steps of the rounds of the input, or of its first lines
  abbrev pub ArePlayed : List Journal → Type 0
  ArePlayed steps = (text : List ℕ) × (IsSummary text steps ⊎ ((read : List Line) × IsPrefix read input × IsOpen false read text steps))

  -- what a status tells of the text that was written before the fault line, and of the steps of the rounds that were played
  abbrev pub MeansForStorm : Status → List ℕ → List Journal → Type 0
  MeansForStorm status.Done text steps = IsSummary text steps
  MeansForStorm status.Usage text steps = (text ≡ []) × (steps ≡ [])
  MeansForStorm (status.BadHeader k) text steps = ⊥
  MeansForStorm status.ReadFault text steps = ⊥
  MeansForStorm status.WriteFault text steps = (whole : List ℕ) × IsProperPrefix text whole × IsSummary whole steps
  MeansForStorm status.Limit text steps = ⊥
  MeansForStorm status.NoMemory text steps = (text ≡ []) × ArePlayed steps

  -- How the run ends with a status: the source is not read. It, the sink and the watch were at `old`, `sink` and `told` when the run
  -- began, and at `new`, `sink'` and `told'` when it ended.
  pub record StormEnds (ended : Status) (old new : SourceState) (sink sink' : SinkState) (told told' : Told) : Type 0 where
    pub text : List ℕ
    pub tail : List ℕ
    pub steps : List Journal
    pub unread : new ≡ old
    pub wrote : Appends sink.written sink'.written (text ++ tail)
    pub means : MeansForStorm ended text steps
    pub last : HasFaultLine ended sink sink' tail
    pub watched : told' ≡ after_all the_space steps told

-- The run of the generated input of so many lines has ended with this status, but for the fault line.
pub record StormStopped (lines : ℕ) (ended : Status) (sink now : SinkState) (told told' : Told) : Type 0 where
  pub text : List ℕ
  pub steps : List Journal
  pub writing : Appends sink.written now.written text
  pub later : sink.faults ≤ now.faults
  pub failed : ended ≡ status.WriteFault → Rose sink.faults now.faults
  pub allowed : IsRunEnd ended
  pub means : MeansForStorm lines ended text steps
  pub watched : told' ≡ after_all the_space steps told
