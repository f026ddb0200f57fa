-- How a run ends: what each status tells of the bytes that were read and of what was written.
use Rattle.std.specs.Prelude.{◌≡◌, ◌⊎◌, ◌<◌, ◌≤◌, ℕ, ◌^◌, List, [], ◌∷◌, ◌++◌, codes, length, Some}
use Rattle.std.specs.Io.KnownBytes.{Appends, Consumes, IsAtEnd}
use Rattle.seam_io.specs.Causes.{Rose}
use Rattle.seam_io.specs.States.{SourceState, SinkState}
use Rattle.seam_io.specs.Lines.{Line, lines_of, whole_lines_of}
use Rattle.seam_watch.specs.Watching.{Told, after_all}
use Rattle.seam_watch.specs.declared.journal.Journal.{Journal}
use Rattle.seam_value.specs.Values.{decimal_of}
use Rattle.seam_rule_lines.specs.Header.{BeginWithHeader, AwaitHeader, RefusesHeader, no_end}
use Rattle.seam_toml.specs.declared.header.Header.{Header}
use Rattle.seam_world_ends.specs.declared.status.Status.{Status}
use Rattle.seam_world_ends.specs.declared.status.Status.TheVariants as status

-- the first list is a prefix of the second
abbrev pub IsPrefix : {A : Type 0} → List A → List A → Type 0
IsPrefix {A} prefix all = (more : List A) × (all ≡ prefix ++ more)

-- the first list is a prefix of the second, and not all of it
abbrev pub IsProperPrefix : {A : Type 0} → List A → List A → Type 0
IsProperPrefix {A} prefix all = (next : A) × (more : List A) × (all ≡ prefix ++ next ∷ more)

-- the number of the one space
abbrev pub the_space : ℕ
the_space = 0

-- the most bytes that a run takes
abbrev pub most_bytes : ℕ
most_bytes = 2 ^ 40

-- the lines are the first that were read: whole ones among the bytes, or any where the input has ended
abbrev pub AreFirst : SourceState → SourceState → List ℕ → List Line → Type 0
AreFirst old new given read =
    IsPrefix read (whole_lines_of given) ⊎ (Rose old.ends new.ends × IsAtEnd new.left × IsPrefix read (lines_of given))

-- the lines are all of the input, which has ended
abbrev pub AreAll : SourceState → SourceState → List ℕ → List Line → Type 0
AreAll old new given read = Rose old.ends new.ends × IsAtEnd new.left × (lines_of given ≡ read)

-- Why the header is refused: the input ended before it did, or it is refused at a line.
abbrev pub IsHeaderFault : SourceState → SourceState → List ℕ → ℕ → Type 0
IsHeaderFault old new given k =
    ((k ≡ no_end) × (read : List Line) × AreAll old new given read × AwaitHeader read)
    ⊎ ((read : List Line) × (line : Line) × AreFirst old new given (read ++ line ∷ []) × RefusesHeader read line k)

-- the fault line of a status
abbrev pub fault_line : Status → List ℕ
fault_line status.Done = []
fault_line status.Usage = codes "fault usage\n"
fault_line (status.BadHeader k) = codes "fault header " ++ decimal_of k ++ 10 ∷ []
fault_line status.ReadFault = codes "fault read\n"
fault_line status.WriteFault = []
fault_line status.Limit = codes "fault limit\n"
fault_line status.NoMemory = codes "fault memory\n"

-- the fault line is whole, or a prefix of it where the sink's count of faults rose
abbrev pub HasFaultLine : Status → SinkState → SinkState → List ℕ → Type 0
HasFaultLine s old new tail = (tail ≡ fault_line s) ⊎ (IsPrefix tail (fault_line s) × Rose old.faults new.faults)

-- what an open and an ended transcript of lines are, with the steps of its rounds
module _ (Open Ended : List Line → List ℕ → List Journal → Type 0) where
  -- an open transcript of the first lines, or an ended one of all
  abbrev pub IsSoFar : SourceState → SourceState → List ℕ → List ℕ → List Journal → Type 0
  IsSoFar old new given text steps =
      (read : List Line) × ((AreFirst old new given read × Open read text steps) ⊎ (AreAll old new given read × Ended read text steps))

  -- What a status tells of the bytes `given` that were taken from the source, of the text that was written before the fault line, and of
  -- the steps of the rounds that were played. The source was at `old` when the call began, and at `new` when it ended.
  abbrev pub Means : Status → SourceState → SourceState → List ℕ → List ℕ → List Journal → Type 0
  -- the input ended within the limit, and the text is an ended transcript of all its lines
  Means status.Done old new given text steps =
      (length given < most_bytes) × (read : List Line) × AreAll old new given read × Ended read text steps
  -- nothing was read
  Means status.Usage old new given text steps = (given ≡ []) × (text ≡ []) × (steps ≡ [])
  -- the header is at fault
  Means (status.BadHeader k) old new given text steps = (text ≡ []) × (steps ≡ []) × IsHeaderFault old new given k
  -- the source failed, and the text is an open transcript of the lines read
  Means status.ReadFault old new given text steps =
      Rose old.faults new.faults × (length given < most_bytes) × Open (whole_lines_of given) text steps
  -- the sink failed within a transcript, of which a proper prefix was written
  Means status.WriteFault old new given text steps = (whole : List ℕ) × IsProperPrefix text whole × IsSoFar old new given whole steps
  -- as many bytes as may be were taken and no whole line is left, and the text is an open transcript of the lines read
  Means status.Limit old new given text steps = (length given ≡ most_bytes) × Open (whole_lines_of given) text steps
  -- an allocation failed, and the text is an open transcript of the first lines
  Means status.NoMemory old new given text steps = (read : List Line) × AreFirst old new given read × Open read text steps

  -- How a run ends with a status: the bytes that it took, the text that it wrote, after it the fault line, and the steps of which the watch
  -- was told. They are those of the rounds of the transcript that the status tells of, all of them. Where the sink failed that is longer
  -- than the text: the watch may have been told of rounds whose text was not written whole, and of none that was not played. The source,
  -- the sink and the watch were at `old`, `sink` and `told` when the run began, and at `new`, `sink'` and `told'` when it ended.
  pub record RunEnds (ended : Status) (old new : SourceState) (sink sink' : SinkState) (told told' : Told) : Type 0 where
    pub given : List ℕ
    pub text : List ℕ
    pub tail : List ℕ
    pub steps : List Journal
    pub took : Consumes old.left new.left given
    pub most : length given ≤ most_bytes
    pub wrote : Appends sink.written sink'.written (text ++ tail)
    pub means : Means ended old new given text steps
    pub last : HasFaultLine ended sink sink' tail
    pub watched : told' ≡ after_all the_space steps told

-- The input and the sink allow a complete run: the source tells all its bytes, which are fewer than may be taken and begin with a
-- header, and neither count of faults rose.
pub record MayComplete (old new : SourceState) (sink sink' : SinkState) : Type 0 where
  pub bytes : List ℕ
  pub left : old.left ≡ Some bytes
  pub few : length bytes < most_bytes
  pub header : Header
  pub count : ℕ
  pub rest : List Line
  pub begins : BeginWithHeader (lines_of bytes) header count rest
  pub reads : ¬ (Rose old.faults new.faults)
  pub writes : ¬ (Rose sink.faults sink'.faults)
