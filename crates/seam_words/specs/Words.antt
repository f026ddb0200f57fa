-- The words of a line.
use Rattle.std.specs.Prelude.{◌≡◌, ◌≢◌, ℕ, ◌+◌, ◌<◌, ◌⊎◌, ◌||◌, Bool, true, false, not, List, [], ◌∷◌, ◌++◌, length, ◌==◌, slice_range}
use Rattle.std.specs.List.{list_all, concat, AllByRecursion}

-- a word of a line: the bytes from place `start` up to, but without, place `end`, counted from 0; where it is quoted, with both quotes
pub record Span : Type 0 where
  pub start : ℕ
  pub end : ℕ
  pub quoted : Bool

-- a space or a tab
abbrev pub is_blank : ℕ → Bool
is_blank b = b == 32 || b == 9

-- a byte of a plain word: no space, no tab and no quote
abbrev pub is_plain : ℕ → Bool
is_plain b = not (is_blank b || b == 34)

-- a byte that makes an escape of the backslash before it: a quote, a backslash or an `n`
abbrev pub is_escaped : ℕ → Bool
is_escaped b = b == 34 || b == 92 || b == 110

-- spaces and tabs
abbrev pub IsGap : List ℕ → Type 0
IsGap bytes = list_all is_blank bytes ≡ true

-- a word without quotes
pub record IsPlainWord (bytes : List ℕ) : Type 0 where
  pub some : 0 < length bytes
  pub plain : list_all is_plain bytes ≡ true

-- a piece of a quoted word: a byte other than quote and backslash, or an escape
abbrev pub IsPiece : List ℕ → Type 0
IsPiece bytes = (b : ℕ) × (((bytes ≡ b ∷ []) × (b ≢ 34) × (b ≢ 92)) ⊎ ((bytes ≡ 92 ∷ b ∷ []) × (is_escaped b ≡ true)))

-- pieces of a quoted word, one after another
pub record ArePieces (bytes : List ℕ) : Type 0 where
  pub pieces : List (List ℕ)
  pub each : AllByRecursion IsPiece pieces
  pub joined : bytes ≡ concat pieces

-- a word in quotes
pub record IsQuotedWord (bytes : List ℕ) : Type 0 where
  pub inside : List ℕ
  pub pieces : ArePieces inside
  pub quotes : bytes ≡ 34 ∷ inside ++ 34 ∷ []

abbrev pub IsWord : Bool → List ℕ → Type 0
IsWord true bytes = IsQuotedWord bytes
IsWord false bytes = IsPlainWord bytes

-- a word can end before these bytes: there are none, or a space or a tab comes first
abbrev pub EndsWord : List ℕ → Type 0
EndsWord [] = Unit {0}
EndsWord (b ∷ bytes) = is_blank b ≡ true

-- after a gap the bytes from place `at` on have this word first, and `rest` follows it
pub record HasFirstWord (at : ℕ) (bytes : List ℕ) (span : Span) (rest : List ℕ) : Type 0 where
  pub gap : List ℕ
  pub word : List ℕ
  pub blank : IsGap gap
  pub good : IsWord span.quoted word
  pub ends : EndsWord rest
  pub whole : bytes ≡ gap ++ word ++ rest
  pub start : span.start ≡ at + length gap
  pub end : span.end ≡ span.start + length word

-- the bytes from place `at` on have these words first, and after a gap `tail` follows them
abbrev pub HasFirstWords : ℕ → List ℕ → List Span → List ℕ → Type 0
HasFirstWords at bytes [] tail = (gap : List ℕ) × IsGap gap × (bytes ≡ gap ++ tail)
HasFirstWords at bytes (span ∷ spans) tail = (rest : List ℕ) × HasFirstWord at bytes span rest × HasFirstWords span.end rest spans tail

-- the words of a line: nothing follows them but a gap
abbrev pub AreWords : List ℕ → List Span → Type 0
AreWords line spans = HasFirstWords 0 line spans []

-- the bytes of a word in its line
abbrev pub bytes_of : List ℕ → Span → List ℕ
bytes_of line span = slice_range line span.start span.end
