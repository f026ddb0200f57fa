-- What a reader of lines does between its reads, and at a read. Only private functions speak of it.
use Rattle.std.specs.Prelude.{◌≡◌, ◌≢◌, ℕ, ◌≤◌, ◌<◌, ◌+◌, true, false, List, [], ◌++◌, length, take, slice_index}
use Rattle.seam_io.specs.Lines.{Line, text_left, lines_left, whole_left, HasNoFeed}
use Rattle.seam_io.specs.Reading.{Reader, budget, held_on, lines_given, IsOpen, NeedsMore, IsDone, IsLine}
use Rattle.seam_io.specs.declared.lines.Next.{Next}
use Rattle.seam_io.specs.declared.lines.Next.TheVariants as next

-- the first line feed has so many bytes before it
pub record IsFeedAt (held : List ℕ) (len : ℕ) : Type 0 where
  pub within : len < length held
  pub feed : slice_index held len ≡ 10
  pub before : HasNoFeed (take len held)

-- without a read, a reader gave these lines of what it held
pub record Moves (old new : Reader) (gave : List Line) : Type 0 where
  pub ended : new.ended ≡ old.ended
  pub taken : new.taken ≡ old.taken
  pub limit : new.limit ≡ old.limit
  pub spent : length gave + budget new ≤ budget old
  pub lines : (more : List ℕ) → (old.ended ≡ true → more ≡ []) →
      lines_left old.passing (old.held ++ more) ≡ gave ++ lines_left new.passing (new.held ++ more)
  pub whole : old.ended ≡ false → (more : List ℕ) →
      whole_left old.passing (old.held ++ more) ≡ gave ++ whole_left new.passing (new.held ++ more)

-- a reader let go what it holds of the line that it refused
pub record Skips (old new : Reader) : Type 0 where
  pub moves : Moves old new []
  pub texts : (more : List ℕ) → (old.ended ≡ true → more ≡ []) →
      text_left old.passing (old.held ++ more) ≡ text_left new.passing (new.held ++ more)
  pub held : new.held ≡ held_on old
  -- where more of that line is to come, nothing is held
  pub rest : new.passing ≡ true → (new.held ≡ []) × (new.ended ≡ false) × (old.passing ≡ true)
  pub line : new.line ≡ []

-- a reader that waits for a read: it holds the prefix of a line at most
pub record IsWaiting (reader : Reader) : Type 0 where
  pub text : IsOpen reader.held
  pub going : reader.ended ≡ false
  pub room : reader.taken < reader.limit
  pub line : reader.line ≡ []

-- how a reader is at an answer that no read is needed for
abbrev pub IsAt : Next → Reader → Type 0
IsAt next.Line r = Unit {0}
IsAt next.Long r = Unit {0}
IsAt next.End r = IsDone r
IsAt next.ReadFault r = ⊥
IsAt next.Limit r = IsOpen r.held × (r.ended ≡ false) × (r.taken ≡ r.limit)

-- an answer that no read is needed for
pub record Answers (answer : Next) (old new : Reader) : Type 0 where
  pub moves : Moves old new (lines_given answer new.line)
  pub at : IsAt answer new
  pub whole : ¬ (IsOpen (held_on old)) → IsLine answer
  pub line : answer ≢ next.Line → new.line ≡ []

-- a reader that needs a read, before and after it let go what it held of the line that it refused
pub record Waits (old new : Reader) : Type 0 where
  pub before : NeedsMore old
  pub after : IsWaiting new
  pub skips : Skips old new

-- a reader took these bytes after some: whatever comes after them, the same text is left
abbrev pub Takes : Reader → Reader → List ℕ → Type 0
Takes old new got = (rest : List ℕ) → text_left old.passing (old.held ++ (got ++ rest)) ≡ text_left new.passing (new.held ++ rest)

-- a reader took these bytes
pub record Fills (old new : Reader) (got : List ℕ) : Type 0 where
  pub held : new.held ≡ old.held ++ got
  pub passing : new.passing ≡ old.passing
  pub limit : new.limit ≡ old.limit
  pub taken : new.taken ≡ old.taken + length got
  pub within : new.taken ≤ new.limit
