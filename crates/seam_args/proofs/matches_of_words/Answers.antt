use Rattle.std.proofs.Common.{ap, ap₂, refl, codes, true, false, map, List, [], ◌∷◌, ◌≡◌, ◌∙◌, subst, Some}
use Rattle.std.proofs.lemmas.Result.{IfOk-weaker}
use Rattle.std.specs.Prelude.{Result, IfOk}
use Rattle.std.specs.String.{string_bytes}
use Rattle.clap.specs.Words.{App, FailsBy, Rule, Text, app_of, fault_of, is_simple, is_simple_and_free, matches_of, new_app, rule_of}
use Rattle.clap.specs.Words.{HasMatchesOf, IsParsedFrom, found_of, rows_of, with_rule}
use Rattle.clap.specs.Simple.{app_of_fields}
use Rattle.clap.specs.declared.builder.arg.Arg.{Arg}
use Rattle.clap.specs.declared.builder.command.Command.{Command}
use Rattle.clap.specs.declared.error.Error.{Error}
use Rattle.clap.specs.declared.parser.matches.ArgMatches.{ArgMatches}
use Rattle.clap.proofs.OnLiterals.{clap_on_literals}
use Rattle.seam_args.specs.Words.{command, flag_rule, number_rule}
use Rattle.seam_args.specs.Reading.{HasNumbers}
use Rattle.seam_args.specs.declared.TheConstants.{MOST_WORKERS, MOST_TURNS, LONGEST_STORM}
use Rattle.seam_args.proofs.Found.{has_numbers}
use Rattle.seam_args.proofs.matches_of_words.Goals as goal

is_free : is_simple_and_free command ≡ true
unfolding clap_on_literals
is_free = refl

simple : is_simple command ≡ true
unfolding clap_on_literals
simple = refl

-- a default of one text
abbrev with_default : List Text → Rule → Rule
with_default defaults r = record r { defaults = defaults }

-- a rule with the short name -h
abbrev with_h : Rule → Rule
with_h r = record r { short = Some 104 }

-- a command without an option that clap adds by itself
abbrev without_help : App → App
without_help a = record a { top = record a.top { disable_help_flag = true } }

-- what a parse by a command that has the form of the server's gives
module _ (built : Command) (words : List Text) (parse : Result ArgMatches Error) (is : app_of built ≡ command) where
  as_fails : (is_simple_and_free (app_of built) ≡ true → FailsBy (fault_of (app_of built) words) parse)
      → FailsBy (fault_of command words) parse
  as_fails kinds = subst (λ (a : App). FailsBy (fault_of a words) parse) is (kinds (ap is_simple_and_free is ∙ is_free))

  as_found : IfOk parse (HasMatchesOf (app_of built) words) → IfOk parse (λ m. rows_of (found_of m) ≡ matches_of command words)
  as_found matches =
      IfOk-weaker parse (HasMatchesOf (app_of built) words) (λ m. rows_of (found_of m) ≡ matches_of command words)
      (λ m h. subst (λ (a : App). rows_of (found_of m) ≡ matches_of a words) is (h (ap is_simple is ∙ simple)).0) matches

  as_numbers : Arg → IfOk parse (IsParsedFrom built) → IfOk parse (λ m. HasNumbers (found_of m))
  as_numbers a parsed =
      IfOk-weaker parse (IsParsedFrom built) (λ m. HasNumbers (found_of m)) (λ m h. has_numbers built m h is a) parsed

pub returns : goal.returns
returns c =
    let workers_is : rule_of c.default_value-workers.result ≡ number_rule (codes "workers") MOST_WORKERS (codes "4" ∷ []) =
    ap rule_of c.default_value-workers.ensures ∙ ap (with_default (codes "4" ∷ [])) c.number_option.ensures.rule in
    let turns_is : rule_of c.default_value-turns.result ≡ number_rule (codes "turns") MOST_TURNS (codes "1000000" ∷ []) =
    ap rule_of c.default_value-turns.ensures ∙ ap (with_default (codes "1000000" ∷ [])) c.number_option-2.ensures.rule in
    let storm_is : rule_of c.number_option-storm.result ≡ number_rule (codes "storm") LONGEST_STORM [] =
    c.number_option-storm.ensures.rule in
    let trace_is : rule_of c.flag-trace.result ≡ flag_rule (codes "trace") = c.flag-trace.ensures.rule in
    let help_is : rule_of c.short-help.result ≡ with_h (flag_rule (codes "help")) =
    ap rule_of c.short-help.ensures ∙ ap with_h c.flag.ensures.rule in
    let version_is : rule_of c.flag-version.result ≡ flag_rule (codes "version") = c.flag-version.ensures.rule in
    let named : app_of c.disable_help_flag.result ≡ without_help (new_app (codes "seamless")) =
    ap app_of_fields c.disable_help_flag.ensures ∙ ap without_help c.new.ensures.app in
    let workers_local : c.default_value-workers.result.global ≡ false =
    ap (λ (a : Arg). a.global) c.default_value-workers.ensures ∙ c.number_option.ensures.local in
    let turns_local : c.default_value-turns.result.global ≡ false =
    ap (λ (a : Arg). a.global) c.default_value-turns.ensures ∙ c.number_option-2.ensures.local in
    let help_local : c.short-help.result.global ≡ false =
    ap (λ (a : Arg). a.global) c.short-help.ensures ∙ c.flag.ensures.local in
    let command_is : app_of c.in_ok-command.command ≡ command =
    c.in_ok-command.ensures.shape c.flag-version.ensures.local ∙ ap₂ with_rule
    (c.in_ok-arg-5.ensures.shape help_local ∙ ap₂ with_rule
    (c.in_ok-arg-4.ensures.shape c.flag-trace.ensures.local ∙ ap₂ with_rule
    (c.in_ok-arg-3.ensures.shape c.number_option-storm.ensures.local ∙ ap₂ with_rule
    (c.in_ok-arg-2.ensures.shape turns_local ∙ ap₂ with_rule
    (c.in_ok-arg.ensures.shape workers_local ∙ ap₂ with_rule named workers_is) turns_is) storm_is) trace_is) help_is) version_is in
    let words = map string_bytes c.args.words.now in
    let built = c.in_ok-command.command in
    let parse = c.try_get_matches_from in
    record {
      fails = as_fails built words parse.result command_is parse.ensures.kinds;
      found = as_found built words parse.result command_is parse.ensures.matches;
      numbers = as_numbers built words parse.result command_is c.flag-trace.result parse.ensures.parsed;
    }
