-- What the words of the command line ask for, and how a run ends that was asked for it.
use Rattle.std.specs.Prelude.{◌≡◌, ◌⊎◌, ℕ, Bool, true, false, List, [], ◌∷◌, ◌++◌, Option, None, Some, Ok, Err, codes, if◌then◌else◌}
use Rattle.std.specs.Prelude.{option_map}
use Rattle.std.specs.Io.KnownBytes.{Appends}
use Rattle.clap.specs.Words.{Kinds, Row, fault_of, matches_of, one_of}
use Rattle.seam_rule_rounds.specs.Prelude.{SourceState, SinkState, Told}
use Rattle.seam_args.specs.Words.{Answer, command, number_of, words_of}
use Rattle.seam_args.specs.declared.TheConstants.{USAGE_TEXT, VERSION_TEXT}
use Rattle.seam_world_ends.specs.Ends.{IsProperPrefix, HasFaultLine, RunEnds}
use Rattle.seam_world_ends.specs.declared.status.Status.{Status}
use Rattle.seam_world_ends.specs.declared.status.Status.TheVariants as status
use Rattle.seam_world_rounds.specs.Transcripts.{IsOpen, IsEnded}
use Rattle.seam_world_rounds.specs.Storm.{StormEnds}
use Rattle.seam_world.specs.Words.{asks_for}

-- what the words ask for: the usage text, the version, a generated input of so many lines, or a script with or without the steps of its
-- rounds; or nothing, where they are refused
pub data Request : Type 0 where
  Usage : Request
  Version : Request
  Storm : ℕ → Request
  Script : Bool → Request
  Nothing : Request

-- a run is asked for, of a generated input or of a script
abbrev pub request_to_run : (traced : Bool) → Option ℕ → Request
request_to_run traced None = Script traced
request_to_run traced (Some lines) = Storm lines

-- the usage text comes before the version, and both before a run
abbrev pub request_for : (help version traced : Bool) → Option ℕ → Request
request_for help version traced storm = if help then Usage else (if version then Version else request_to_run traced storm)

-- by the faults for which clap may refuse the words, and by what it finds in them
abbrev pub request_unless : Kinds → List Row → Request
request_unless [] rows =
    request_for (asks_for (codes "help") rows) (asks_for (codes "version") rows) (asks_for (codes "trace") rows)
    (option_map number_of (one_of (codes "storm") rows))
request_unless (k ∷ ks) rows = Nothing

abbrev pub request_of : Answer → Request
request_of (Ok words) = request_unless (fault_of command (words_of (Ok words))) (matches_of command (words_of (Ok words)))
request_of (Err e) = Nothing

-- what a status tells of the text that was written before the fault line, where nothing but `shown` was to be written
abbrev pub MeansForText : (shown : List ℕ) → Status → List ℕ → Type 0
MeansForText shown status.Done text = text ≡ shown
MeansForText shown status.WriteFault text = IsProperPrefix text shown
MeansForText shown status.NoMemory text = text ≡ []
MeansForText shown other text = ⊥

-- How a call ends with a status that plays no round: the source is not read, and the watch is given nothing. They and the sink were at
-- `old`, `told` and `sink` when the call began, and at `new`, `told'` and `sink'` when it ended.
pub record UnplayedEnds (Means : Status → List ℕ → Type 0) (ended : Status) (old new : SourceState) (sink sink' : SinkState)
    (told told' : Told) : Type 0 where
  pub text : List ℕ
  pub tail : List ℕ
  pub unread : new ≡ old
  pub wrote : Appends sink.written sink'.written (text ++ tail)
  pub means : Means ended text
  pub last : HasFaultLine ended sink sink' tail
  pub untold : told' ≡ told

-- how the call ends, by what was asked for: where the words are refused nothing was written
abbrev pub EndsAs : Request → Status → SourceState → SourceState → SinkState → SinkState → Told → Told → Type 0
EndsAs Usage = UnplayedEnds (MeansForText USAGE_TEXT.now)
EndsAs Version = UnplayedEnds (MeansForText VERSION_TEXT.now)
EndsAs (Storm lines) = StormEnds lines
EndsAs (Script traced) = RunEnds (IsOpen traced) (IsEnded traced)
EndsAs Nothing = UnplayedEnds (λ ended text. ((ended ≡ status.Usage) ⊎ (ended ≡ status.NoMemory)) × (text ≡ []))
