-- The lines of a list of bytes.
use Rattle.std.specs.Prelude.{◌≡◌, ℕ, Bool, false, List, [], ◌∷◌, length, All, if◌then◌else◌, ◌==◌, nat_lt}
use Rattle.std.specs.List.{slice_split, after_first}
use Rattle.std.specs.Str.Lines.{strip_carriage_return}
use Rattle.seam_io.specs.declared.lines.TheConstants.{LONGEST_LINE}

-- a line of an input: its content, or that it is too long
pub data Line : Type 0 where
  Content : List ℕ → Line
  Long : Line

abbrev pub is_feed : ℕ → Bool
is_feed byte = byte == 10

-- the line of a text without line feeds: one of more than 4,096 bytes is too long, and from another a carriage return at its
-- very end is dropped
abbrev pub line_of : List ℕ → Line
line_of text = if nat_lt LONGEST_LINE (length text) then Long else Content (strip_carriage_return text)

-- the lines of the texts round the line feeds: the last one has no line feed after it, and is no line where it is empty
abbrev pub lines_between : List (List ℕ) → List Line
lines_between [] = []
lines_between (text ∷ []) = if length text == 0 then [] else line_of text ∷ []
lines_between (text ∷ next ∷ more) = line_of text ∷ lines_between (next ∷ more)

-- the lines of the texts round the line feeds that have a line feed after them, and of a last one that is too long already
abbrev pub whole_between : List (List ℕ) → List Line
whole_between [] = []
whole_between (text ∷ []) = if nat_lt LONGEST_LINE (length text) then Long ∷ [] else []
whole_between (text ∷ next ∷ more) = line_of text ∷ whole_between (next ∷ more)

-- the lines of an input
unfoldable pub lines_of : List ℕ → List Line
lines_of bytes = lines_between (slice_split is_feed bytes)

-- the lines of an input that stay, whatever comes after it: those that a line feed ends, and a last one that is too long already
unfoldable pub whole_lines_of : List ℕ → List Line
whole_lines_of bytes = whole_between (slice_split is_feed bytes)

-- no line feed is among the bytes
abbrev pub HasNoFeed : List ℕ → Type 0
HasNoFeed bytes = All (λ byte. is_feed byte ≡ false) bytes

-- what is left of an input after the line that was refused as too long, if the rest of it is to be passed over
abbrev pub text_left : Bool → List ℕ → List ℕ
text_left passing bytes = if passing then after_first is_feed bytes else bytes

-- the lines of what is left of an input, and those that stay
abbrev pub lines_left : Bool → List ℕ → List Line
lines_left passing bytes = lines_of (text_left passing bytes)

abbrev pub whole_left : Bool → List ℕ → List Line
whole_left passing bytes = whole_lines_of (text_left passing bytes)
