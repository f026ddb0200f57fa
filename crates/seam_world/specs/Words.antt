-- What clap finds in the words of the command line.
use Rattle.std.specs.Prelude.{Bool, true, false, List, Option, None, Some, find, option_and_then}
use Rattle.std.specs.Str.{bytes_eq}
use Rattle.clap.specs.Words.{Row, Text}
use Rattle.clap.specs.declared.parser.matches.ValueSource.{ValueSource}
use Rattle.clap.specs.declared.parser.matches.ValueSource.TheVariants.{CommandLine, DefaultValue}

-- what an option has comes from the words, and is no default
abbrev pub is_of_words : Option ValueSource → Bool
is_of_words (Some CommandLine) = true
is_of_words (Some DefaultValue) = false
is_of_words None = false

-- the words have a flag
abbrev pub asks_for : Text → List Row → Bool
asks_for flag rows = is_of_words (option_and_then (λ r. r.source) (find (λ r. bytes_eq r.id flag) rows))
