-- What has happened between a source and the lines read from it.
use Rattle.std.specs.Prelude.{◌≡◌, ℕ, ◌≤◌, ◌<◌, ◌+◌, ◌-◌, ◌⊎◌, ◌↔◌, Bool, true, false, List, [], ◌∷◌, ◌++◌, length}
use Rattle.std.specs.Io.KnownBytes.{Consumes, IsAtEnd}
use Rattle.seam_io.specs.Causes.{Rose}
use Rattle.seam_io.specs.States.{SourceState}
use Rattle.seam_io.specs.Lines.{Line, Content, Long, lines_of, whole_lines_of, text_left, lines_left, whole_left, HasNoFeed}
use Rattle.seam_io.specs.declared.lines.Next.{Next}
use Rattle.seam_io.specs.declared.lines.Next.TheVariants as next
use Rattle.seam_io.specs.declared.lines.TheConstants.{CHUNK, LONGEST_LINE}

-- A reader of lines: the bytes that it took and did not give, whether the rest of a line that it refused as too long
-- comes first in them and after them, whether the source said that it is at its end, how many bytes it took and may
-- take, and the line that it gave last.
pub record Reader : Type 0 where
  pub held : List ℕ
  pub passing : Bool
  pub ended : Bool
  pub taken : ℕ
  pub limit : ℕ
  pub line : List ℕ

-- how many lines a reader can still give at most
abbrev pub budget : Reader → ℕ
budget r = (r.limit - r.taken) + length r.held

-- Since the source stood at `start`, the reader took the bytes `given` from it and gave the lines `read`.
pub record Reading (start now : SourceState) (reader : Reader) (given : List ℕ) (read : List Line) : Type 0 where
  pub took : Consumes start.left now.left given
  pub count : reader.taken ≡ length given
  pub within : reader.taken ≤ reader.limit
  pub faults : start.faults ≤ now.faults
  pub ends : start.ends ≤ now.ends
  pub going : reader.ended ≡ false → now.ends ≡ start.ends
  pub ended : reader.ended ≡ true → IsAtEnd now.left × Rose start.ends now.ends × (reader.taken < reader.limit)
  -- each line took a byte
  pub room : length read + budget reader ≤ reader.limit
  -- however the input goes on, its lines are those that were given and those of what is left
  pub lines : (more : List ℕ) → (reader.ended ≡ true → more ≡ []) →
      lines_of (given ++ more) ≡ read ++ lines_left reader.passing (reader.held ++ more)
  -- and before its end no line was given that more bytes can change
  pub whole : reader.ended ≡ false → (more : List ℕ) →
      whole_lines_of (given ++ more) ≡ read ++ whole_left reader.passing (reader.held ++ more)

-- the lines that an answer gives
abbrev pub lines_given : Next → List ℕ → List Line
lines_given next.Line line = Content line ∷ []
lines_given next.Long line = Long ∷ []
lines_given next.End line = []
lines_given next.ReadFault line = []
lines_given next.Limit line = []

-- the answers that come with a line
abbrev pub IsLine : Next → Type 0
IsLine next.Line = Unit {0}
IsLine next.Long = Unit {0}
IsLine next.End = ⊥
IsLine next.ReadFault = ⊥
IsLine next.Limit = ⊥

-- An answer is told by the bytes taken until then and the lines given before it.
pub record IsExact (answer : Next) (reader : Reader) (given : List ℕ) (read : List Line) : Type 0 where
  -- the end was found, and every line of the bytes was given
  pub ended : (answer ≡ next.End) ↔ ((reader.ended ≡ true) × (lines_of given ≡ read))
  -- as many bytes as may be were taken, and every line in them that stays was given
  pub full : (answer ≡ next.Limit) ↔ ((reader.taken ≡ reader.limit) × (whole_lines_of given ≡ read))
  -- more bytes were wanted, since every line in those taken that stays was given
  pub fault : answer ≡ next.ReadFault → (reader.ended ≡ false) × (reader.taken < reader.limit) × (whole_lines_of given ≡ read)

-- what a reader holds after the line that it refused
abbrev pub held_on : Reader → List ℕ
held_on reader = text_left reader.passing reader.held

-- bytes that may still be no more than the prefix of a line: no line feed ends them, and they are not too long
pub record IsOpen (bytes : List ℕ) : Type 0 where
  pub whole : HasNoFeed bytes
  pub short : length bytes ≤ LONGEST_LINE

-- a reader that gives its next line only after a read
pub record NeedsMore (reader : Reader) : Type 0 where
  pub text : IsOpen (held_on reader)
  pub going : reader.ended ≡ false
  pub room : reader.taken < reader.limit

-- a reader that found the end, and holds nothing
pub record IsDone (reader : Reader) : Type 0 where
  pub ended : reader.ended ≡ true
  pub none : reader.held ≡ []
  pub passing : reader.passing ≡ false

-- A call took these bytes, if any. The last of them came by one read of at most 4,096, and that read was needed: what was held and
-- taken before it, after the rest of a line that was refused, could still be no more than the prefix of a line.
abbrev pub IsSparing : Reader → List ℕ → Type 0
IsSparing old got = (got ≡ []) ⊎ ((before : List ℕ) × (last : List ℕ) × (got ≡ before ++ last) × (length last ≤ CHUNK)
    × IsOpen (text_left old.passing (old.held ++ before)))
