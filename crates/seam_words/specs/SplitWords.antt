-- The texts of the words of a line.
use Rattle.std.specs.Prelude.{◌≡◌, ℕ, ◌≤◌, List, length, map}
use Rattle.std.specs.Str.{IsUtf8}
use Rattle.seam_words.specs.Words.{Span, AreWords, bytes_of}
use Rattle.seam_words.specs.declared.words.TheConstants.{MOST_WORDS}

-- these are the texts of the words of a line, of which there are not too many
pub record HasWords (line : List ℕ) (words : List (List ℕ)) : Type 0 where
  pub spans : List Span
  pub text : IsUtf8 line
  pub are : AreWords line spans
  pub most : length spans ≤ MOST_WORDS
  pub texts : words ≡ map (bytes_of line) spans
