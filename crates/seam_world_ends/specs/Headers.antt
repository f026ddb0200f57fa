-- How a run reads its header, and how it may end there.
use Rattle.std.specs.Prelude.{◌≡◌, ℕ, ◌+◌, ◌≤◌, List, [], ◌∷◌, ◌++◌, length, Option, None, Some, Result, Ok, Err}
use Rattle.std.specs.Io.KnownBytes.{Consumes}
use Rattle.seam_rule_rounds.specs.Prelude.{SourceState, Line, Reader, Reading, Header, AreHeaderLines, BeginWithHeader, AwaitHeader}
use Rattle.seam_rule_rounds.specs.Prelude.{Journal}
use Rattle.seam_world_ends.specs.Status.{IsHeaderEnd}
use Rattle.seam_world_ends.specs.Ends.{Means, most_bytes}
use Rattle.seam_world_ends.specs.declared.status.Status.{Status}

-- The header goes on: since the source was at `began`, the reader gave these lines, which come before a header's end and make this
-- text, and no other.
pub record InHeader (began now : SourceState) (reader : Reader) (text : List ℕ) (read : List Line) : Type 0 where
  pub given : List ℕ
  pub are : AreHeaderLines read text
  pub reading : Reading began now reader given read
  pub limit : reader.limit ≡ most_bytes

-- A header of so many lines was accepted: since the source was at `began`, the reader gave its lines and no other.
pub record HasHeader (began now : SourceState) (reader : Reader) (h : Header) (count : ℕ) : Type 0 where
  pub given : List ℕ
  pub read : List Line
  pub begins : BeginWithHeader read h count []
  pub reading : Reading began now reader given read
  pub limit : reader.limit ≡ most_bytes

-- nothing was printed, and the lines may yet begin a header
abbrev pub Awaits : List Line → List ℕ → List Journal → Type 0
Awaits lines text steps = (text ≡ []) × (steps ≡ []) × AwaitHeader lines

-- no transcript ends within a header
abbrev pub Never : List Line → List ℕ → List Journal → Type 0
Never lines text steps = ⊥

-- The run has ended with this status within its header, or before it, and printed nothing.
pub record EndsInHeader (ended : Status) (began now : SourceState) : Type 0 where
  pub given : List ℕ
  pub took : Consumes began.left now.left given
  pub most : length given ≤ most_bytes
  pub end : IsHeaderEnd ended
  pub means : Means Awaits Never ended began now given [] []

-- What came of the next line of a header, after these: it goes on, or the line ended it, or the run stopped.
abbrev pub HeaderLineRead : SourceState → SourceState → Reader → List ℕ → List Line → Result (Option Header) Status → Type 0
HeaderLineRead began now reader text read (Ok None) = (line : Line) × InHeader began now reader text (read ++ line ∷ [])
HeaderLineRead began now reader text read (Ok (Some h)) = HasHeader began now reader h (length read + 1)
HeaderLineRead began now reader text read (Err s) = EndsInHeader s began now
