-- What has happened since a run began: the functions of this crate speak of it.
use Rattle.std.specs.Prelude.{◌≡◌, ℕ, ◌+◌, ◌≤◌, List, [], length, ◌⊎◌}
use Rattle.std.specs.Io.KnownBytes.{Consumes, Appends}
use Rattle.seam_node_steps.specs.Prelude.{opened}
use Rattle.seam_rule_rounds.specs.Prelude.{Rose, SourceState, SinkState, Line, Reader, Reading, Header, BeginWithHeader}
use Rattle.seam_rule_rounds.specs.Prelude.{AwaitHeader, Run, Standing, after_header, Piece, journals_of, Step, PrintLines, PrintAll, Told}
use Rattle.seam_rule_rounds.specs.Prelude.{after_all, Journal, totals_of}
use Rattle.seam_rule_rounds.specs.declared.totals.Totals.{Totals}
use Rattle.seam_world_rounds.specs.Transcripts.{PlayRounds, WerePlayed, WerePlayedSoFar}
use Rattle.seam_world_rounds.specs.Output.{output_of, sums_for}
use Rattle.seam_world_rounds.specs.declared.round.Output.{Output}
use Rattle.seam_world_rounds.specs.Script.{ScriptRefines}
use Rattle.seam_world_ends.specs.Status.{IsRunEnd}
use Rattle.seam_world_ends.specs.Ends.{Means, most_bytes, the_space}
use Rattle.seam_world_ends.specs.Printing.{Printed}
use Rattle.seam_world_rounds.specs.declared.script.Script.{Script}
use Rattle.seam_world_ends.specs.declared.status.Status.{Status}
use Rattle.seam_world_ends.specs.declared.status.Status.TheVariants as status

-- The run goes on: since the source was at `began`, the sink at `sink` and the watch at `told`, the reader gave a header and the lines
-- `rest`, whose text was printed and is written but for its end `pending`, the watch was told the steps of their rounds, and the script
-- refines the standing after them and counts what was printed.
pub record Going (output : Output) (began now : SourceState) (reader : Reader) (sink now' : SinkState) (told told' : Told)
    (pending : List ℕ) (script : Script) : Type 0 where
  pub header : Header
  pub count : ℕ
  pub given : List ℕ
  pub read : List Line
  pub rest : List Line
  pub pieces : List Piece
  pub standing : Standing
  pub begins : BeginWithHeader read header count rest
  pub reading : Reading began now reader given read
  pub limit : reader.limit ≡ most_bytes
  pub printed : Printed sink now' pending (output_of output header.defs pieces)
  pub watched : told' ≡ after_all the_space (journals_of pieces) told
  pub run : Run (Step header) (after_header header count) rest pieces standing
  pub refines : ScriptRefines header standing script
  pub played : PlayRounds header (opened header.defs header.settings) pieces refines.has.world
  pub counted : script.totals ≡ totals_of (sums_for output pieces)

-- an open transcript of lines, by what the run gives of it
abbrev pub OpenAs : Output → List Line → List ℕ → List Journal → Type 0
OpenAs output lines text steps =
    ((text ≡ []) × (steps ≡ []) × AwaitHeader lines)
    ⊎ ((h : Header) × (pieces : List Piece) × (t : Standing) × PrintLines lines h pieces t × WerePlayedSoFar h pieces t
    × (text ≡ output_of output h.defs pieces) × (steps ≡ journals_of pieces))

-- an ended transcript of all lines, by what the run gives of it, with what is summed up
abbrev pub EndedAs : Output → Totals → List Line → List ℕ → List Journal → Type 0
EndedAs output totals lines text steps =
    (h : Header) × (pieces : List Piece) × PrintAll lines h pieces × WerePlayed h pieces
    × (text ≡ output_of output h.defs pieces) × (steps ≡ journals_of pieces) × (totals ≡ totals_of (sums_for output pieces))

-- The run has ended with this status and these totals, but for the fault line.
pub record Stopped (output : Output) (totals : Totals) (ended : Status) (began now : SourceState) (sink now' : SinkState)
    (told told' : Told) : Type 0 where
  pub given : List ℕ
  pub text : List ℕ
  pub steps : List Journal
  pub took : Consumes began.left now.left given
  pub most : length given ≤ most_bytes
  pub writing : Appends sink.written now'.written text
  pub later : sink.faults ≤ now'.faults
  pub failed : ended ≡ status.WriteFault → Rose sink.faults now'.faults
  pub allowed : IsRunEnd ended
  pub means : Means (OpenAs output) (EndedAs output totals) ended began now given text steps
  pub watched : told' ≡ after_all the_space steps told

-- The run has ended with this status before anything was printed.
abbrev pub StoppedFirst : Status → SourceState → SourceState → Type 0
StoppedFirst s began now =
    (output : Output) (totals : Totals) (sink : SinkState) (told : Told) → Stopped output totals s began now sink sink told told
