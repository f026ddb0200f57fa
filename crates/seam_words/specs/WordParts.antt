-- What the parts of the reading find: no clause of a public call cites these.
use Rattle.std.specs.Prelude.{◌≡◌, ℕ, Bool, List, [], ◌∷◌, ◌++◌}
use Rattle.seam_words.specs.declared.words.WordsError.{WordsError}
use Rattle.seam_words.specs.declared.words.WordsError.TheVariants.{NotUtf8, OpenQuote, BadEscape, TooManyWords}
use Rattle.seam_words.specs.Words.{IsPiece, ArePieces, IsWord, EndsWord}
use Rattle.seam_words.specs.Faults.{HasOpenQuote, HasBadEscape, IsNoEscape}

-- a word comes first, and `rest` follows it
pub record IsFirstWord (quoted : Bool) (bytes rest : List ℕ) : Type 0 where
  pub word : List ℕ
  pub good : IsWord quoted word
  pub ends : EndsWord rest
  pub whole : bytes ≡ word ++ rest

-- no good word comes first
abbrev pub RefusesWord : List ℕ → WordsError → Type 0
RefusesWord bytes OpenQuote = HasOpenQuote bytes
RefusesWord bytes BadEscape = HasBadEscape bytes
RefusesWord bytes NotUtf8 = ⊥
RefusesWord bytes TooManyWords = ⊥

-- no piece of a quoted word can come first: the bytes are at their end, or at a quote
abbrev pub EndsPieces : List ℕ → Type 0
EndsPieces [] = Unit {0}
EndsPieces (b ∷ bytes) = b ≡ 34

-- a quote comes first, and a word can end after it
abbrev pub ClosesWord : List ℕ → Type 0
ClosesWord [] = ⊥
ClosesWord (b ∷ bytes) = (b ≡ 34) × EndsWord bytes

-- a piece comes first, and `rest` follows it
pub record HasPiece (bytes rest : List ℕ) : Type 0 where
  pub piece : List ℕ
  pub good : IsPiece piece
  pub whole : bytes ≡ piece ++ rest

-- a backslash comes first and begins no escape
pub record HasBadPiece (bytes : List ℕ) : Type 0 where
  pub rest : List ℕ
  pub bad : IsNoEscape rest
  pub whole : bytes ≡ 92 ∷ rest

-- as many pieces as can come first, and `rest` follows them
pub record HasPieces (bytes rest : List ℕ) : Type 0 where
  pub prefix : List ℕ
  pub pieces : ArePieces prefix
  pub ends : EndsPieces rest
  pub whole : bytes ≡ prefix ++ rest

-- after some pieces a backslash begins no escape
pub record RefusesPieces (bytes : List ℕ) : Type 0 where
  pub prefix : List ℕ
  pub rest : List ℕ
  pub pieces : ArePieces prefix
  pub bad : IsNoEscape rest
  pub whole : bytes ≡ prefix ++ 92 ∷ rest
