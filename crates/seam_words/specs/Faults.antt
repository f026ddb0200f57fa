-- Why a line has no words, or too many.
use Rattle.std.specs.Prelude.{◌≡◌, ℕ, ◌<◌, false, List, [], ◌∷◌, ◌++◌, length}
use Rattle.std.specs.Str.{IsUtf8}
use Rattle.seam_words.specs.declared.words.TheConstants.{MOST_WORDS}
use Rattle.seam_words.specs.declared.words.WordsError.{WordsError}
use Rattle.seam_words.specs.declared.words.WordsError.TheVariants.{NotUtf8, OpenQuote, BadEscape, TooManyWords}
use Rattle.seam_words.specs.Words.{Span, is_blank, is_escaped, IsPlainWord, ArePieces, IsQuotedWord, HasFirstWords}

-- a quote where none may be, or is missing, in the bytes where a word should begin
pub data HasOpenQuote (bytes : List ℕ) : Type 0 where
  -- inside a plain word
  inside : (word rest : List ℕ) → IsPlainWord word → bytes ≡ word ++ 34 ∷ rest → HasOpenQuote bytes
  -- a quoted word without an end
  unended : (pieces : List ℕ) → ArePieces pieces → bytes ≡ 34 ∷ pieces → HasOpenQuote bytes
  -- a closing quote that is followed by another byte than a space or a tab
  followed : (word : List ℕ) (b : ℕ) (rest : List ℕ) → IsQuotedWord word → is_blank b ≡ false → bytes ≡ word ++ b ∷ rest →
      HasOpenQuote bytes

-- the byte that makes an escape of a backslash does not come first
abbrev pub IsNoEscape : List ℕ → Type 0
IsNoEscape [] = Unit {0}
IsNoEscape (b ∷ bytes) = is_escaped b ≡ false

-- a backslash in a quoted word that begins no escape
pub record HasBadEscape (bytes : List ℕ) : Type 0 where
  pub prefix : List ℕ
  pub rest : List ℕ
  pub pieces : ArePieces prefix
  pub bad : IsNoEscape rest
  pub whole : bytes ≡ 34 ∷ prefix ++ 92 ∷ rest

-- a word begins with the bytes
abbrev pub BeginsWord : List ℕ → Type 0
BeginsWord [] = ⊥
BeginsWord (b ∷ bytes) = is_blank b ≡ false

-- why the bytes where the next word should begin do not begin with a good one, after `count` good words
abbrev pub HasFaultAt : ℕ → List ℕ → WordsError → Type 0
HasFaultAt count bytes NotUtf8 = ⊥
HasFaultAt count bytes OpenQuote = (count < MOST_WORDS) × HasOpenQuote bytes
HasFaultAt count bytes BadEscape = (count < MOST_WORDS) × HasBadEscape bytes
HasFaultAt count bytes TooManyWords = (count ≡ MOST_WORDS) × BeginsWord bytes

-- the first fault of a line from the left: all before it is good words
pub record HasFault (line : List ℕ) (error : WordsError) : Type 0 where
  pub spans : List Span
  pub tail : List ℕ
  pub before : HasFirstWords 0 line spans tail
  pub fault : HasFaultAt (length spans) tail error

-- why a line is refused: it is no text, or else it has a fault
abbrev pub Refuses : List ℕ → WordsError → Type 0
Refuses line NotUtf8 = ¬ IsUtf8 line
Refuses line OpenQuote = IsUtf8 line × HasFault line OpenQuote
Refuses line BadEscape = IsUtf8 line × HasFault line BadEscape
Refuses line TooManyWords = IsUtf8 line × HasFault line TooManyWords
