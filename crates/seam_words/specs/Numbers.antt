-- The numbers of the errors.
use Rattle.std.specs.Prelude.{ℕ}
use Rattle.seam_words.specs.declared.words.WordsError.{WordsError}
use Rattle.seam_words.specs.declared.words.WordsError.TheVariants.{NotUtf8, OpenQuote, BadEscape, TooManyWords}

abbrev pub number_of : WordsError → ℕ
number_of NotUtf8 = 1
number_of OpenQuote = 2
number_of BadEscape = 3
number_of TooManyWords = 4
