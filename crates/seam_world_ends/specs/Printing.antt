-- What was printed since a sink was at `began`: it is written, or pending; and what a watch was told.
use Rattle.std.specs.Prelude.{◌≡◌, ℕ, ◌≤◌, ◌⊎◌, List, [], ◌++◌, Option, Some, None}
use Rattle.std.specs.Io.KnownBytes.{Appends}
use Rattle.seam_io.specs.Causes.{Rose}
use Rattle.seam_io.specs.States.{SinkState}
use Rattle.seam_watch.specs.Watching.{Told, after_all}
use Rattle.seam_watch.specs.declared.journal.Journal.{Journal}
use Rattle.seam_world_ends.specs.Ends.{IsProperPrefix, the_space}
use Rattle.seam_world_ends.specs.declared.status.Status.{Status}
use Rattle.seam_world_ends.specs.declared.status.Status.TheVariants as status

-- a text was printed: all of it was written but for its end, which is pending
pub record Printed (began now : SinkState) (pending text : List ℕ) : Type 0 where
  pub wrote : List ℕ
  pub whole : text ≡ wrote ++ pending
  pub writing : Appends began.written now.written wrote
  pub later : began.faults ≤ now.faults

-- the sink failed after a proper prefix of a text
pub record FailedWithin (began now : SinkState) (text : List ℕ) : Type 0 where
  pub prefix : List ℕ
  pub proper : IsProperPrefix prefix text
  pub writing : Appends began.written now.written prefix
  pub later : began.faults ≤ now.faults
  pub rose : Rose began.faults now.faults

-- a run with this text ends by a status: all of the text was written, or the sink failed
abbrev pub StopsBy : Status → SinkState → SinkState → List ℕ → Status → Type 0
StopsBy wanted began now text result = ((result ≡ wanted) × Printed began now [] text)
    ⊎ ((result ≡ status.WriteFault) × FailedWithin began now text)

-- a piece was printed after a text, or the sink failed
abbrev pub IsPrinted : (piece : List ℕ) → SinkState → SinkState → List ℕ → List ℕ → Option Status → Type 0
IsPrinted piece began now pending text None = Printed began now pending (text ++ piece)
IsPrinted piece began now pending text (Some s) = (s ≡ status.WriteFault) × FailedWithin began now (text ++ piece)

-- What a call printed after a text, and which steps it told the watch: a piece and steps with this property; or nothing where an
-- allocation failed; or the sink failed. The watch was at `told` before the call, and is at `told'` after it.
abbrev pub Prints : (List ℕ → List Journal → Type 0) → SinkState → SinkState → List ℕ → List ℕ → Told → Told → Option Status → Type 0
Prints P began now pending text told told' None =
    (piece : List ℕ) × (steps : List Journal) × P piece steps × Printed began now pending (text ++ piece)
    × (told' ≡ after_all the_space steps told)
Prints P began now pending text told told' (Some status.NoMemory) = Printed began now [] text × (told' ≡ told)
Prints P began now pending text told told' (Some status.WriteFault) =
    (FailedWithin began now text × (told' ≡ told))
    ⊎ ((piece : List ℕ) × (steps : List Journal) × P piece steps × FailedWithin began now (text ++ piece)
    × (told' ≡ after_all the_space steps told))
Prints P began now pending text told told' (Some status.Done) = ⊥
Prints P began now pending text told told' (Some status.Usage) = ⊥
Prints P began now pending text told told' (Some (status.BadHeader k)) = ⊥
Prints P began now pending text told told' (Some status.ReadFault) = ⊥
Prints P began now pending text told told' (Some status.Limit) = ⊥
