-- The command line of the server: its command, by clap's own definition of a simple command, and the options of the words.
use Rattle.std.specs.Prelude.{◌≡◌, ◌↔◌, ◌≤◌, ℕ, ◌∷◌, [], List, Some, pos, codes, true, IfSome, find, map, option_map, option_and_then}
use Rattle.std.specs.Prelude.{Result, Ok, Err, String, string_bytes}
use Rattle.std.specs.IoError.{error_kind}
use Rattle.std.specs.Vec.Iter.{into_iter_items}
use Rattle.std.specs.declared.alloc.Global.{Global}
use Rattle.std.specs.declared.io.Error.{Error}
use Rattle.std.specs.declared.io.ErrorKind.TheVariants.{OutOfMemory}
use Rattle.std.specs.declared.vec.IntoIter.{IntoIter}
use Rattle.std.specs.Str.{bytes_eq}
use Rattle.std.specs.Str.Parse.{digits_value, without_leading_plus}
use Rattle.clap.specs.Words.{App, Row, Rule, Text, fault_of, new_app, new_rule, one_of, with_rule}
use Rattle.clap.specs.declared.builder.ArgAction.TheVariants.{Set, SetTrue}
use Rattle.clap.specs.declared.builder.ValueParser.TheVariants as parser
use Rattle.clap.specs.declared.parser.matches.ValueSource.TheVariants.{CommandLine}
use Rattle.seam_args.specs.declared.Options.{Options}
use Rattle.seam_args.specs.declared.TheConstants.{MOST_WORKERS, MOST_TURNS, LONGEST_STORM}

-- an option whose value is a number from 1 to `most`, with these defaults
abbrev pub number_rule : Text → ℕ → List Text → Rule
number_rule name most defaults =
    record (new_rule name) { long = Some name; action = Some Set; defaults = defaults; parser = Some (parser.Signed (pos 1) (pos most)) }

-- a flag, which has no value
abbrev pub flag_rule : Text → Rule
flag_rule name = record (new_rule name) { long = Some name; action = Some SetTrue }

-- the command of the server, whose words begin with the name of the program; clap adds no option by itself, and `--help` is `-h` too
abbrev pub command : App
command =
    let app = new_app (codes "seamless") in
    with_rule (with_rule (with_rule (with_rule (with_rule (with_rule (record app { top = record app.top { disable_help_flag = true } })
    (number_rule (codes "workers") MOST_WORKERS (codes "4" ∷ [])))
    (number_rule (codes "turns") MOST_TURNS (codes "1000000" ∷ [])))
    (number_rule (codes "storm") LONGEST_STORM []))
    (flag_rule (codes "trace")))
    (record (flag_rule (codes "help")) { short = Some 104 }))
    (flag_rule (codes "version"))

-- What the system answers where it is asked for the words of the command line: texts, of which the first is the program's name, or why it
-- gives none.
abbrev pub Answer : Type 0
Answer = Result (IntoIter (String Global) Global) Error

-- the words that the system gives
abbrev pub words_of : Answer → List Text
words_of (Ok words) = map string_bytes (into_iter_items words)
words_of (Err e) = []

-- the system gives words, and the command does not refuse them
abbrev pub ArePassed : Answer → Type 0
ArePassed (Ok words) = fault_of command (words_of (Ok words)) ≡ []
ArePassed (Err e) = ⊥

-- the command refuses the words, or one of them is no text: the system gives none, and that is not for want of memory
abbrev pub AreRefused : Answer → Type 0
AreRefused (Ok words) = ¬ (fault_of command (words_of (Ok words)) ≡ [])
AreRefused (Err e) = ¬ (error_kind e ≡ OutOfMemory)

-- the number that digits spell, where a plus may come first
abbrev pub number_of : Text → ℕ
number_of text = digits_value 10 (without_leading_plus text)

-- the words have the option: what was found for it is no default
abbrev pub IsGiven : Text → List Row → Type 0
IsGiven option rows = option_and_then (λ r. r.source) (find (λ r. bytes_eq r.id option) rows) ≡ Some CommandLine

-- the options, by what was found for each: the number that its text spells, or for the flag, whether the words have it
pub record AreOptions (rows : List Row) (options : Options) : Type 0 where
  pub workers : option_map number_of (one_of (codes "workers") rows) ≡ Some options.workers
  pub turns : option_map number_of (one_of (codes "turns") rows) ≡ Some options.turns
  pub storm : option_map number_of (one_of (codes "storm") rows) ≡ options.storm
  pub trace : IsGiven (codes "trace") rows ↔ (options.trace ≡ true)
  pub help : IsGiven (codes "help") rows ↔ (options.help ≡ true)
  pub version : IsGiven (codes "version") rows ↔ (options.version ≡ true)

-- a number from 1 to `most`
abbrev pub IsUpTo : ℕ → ℕ → Type 0
IsUpTo most n = (1 ≤ n) × (n ≤ most)

-- each number is in the range of its option
pub record AreInRange (options : Options) : Type 0 where
  pub workers : IsUpTo MOST_WORKERS options.workers
  pub turns : IsUpTo MOST_TURNS options.turns
  pub storm : IfSome options.storm (IsUpTo LONGEST_STORM)
