use Rattle.std.proofs.Common.{◌≡◌, Bool, Option, Some, ap, ◌∙◌, pos, rules}
use Rattle.clap.specs.Words.{Rule, Text, new_rule, rule_of}
use Rattle.clap.specs.declared.builder.ArgAction.{ArgAction}
use Rattle.clap.specs.declared.builder.ArgAction.TheVariants.{Set}
use Rattle.clap.specs.declared.builder.ValueParser.{ValueParser}
use Rattle.clap.specs.declared.builder.ValueParser.TheVariants as vp
use Rattle.clap.specs.declared.builder.arg.Arg.{Arg}
use Rattle.seam_args.proofs.number_option.Goals as goal

-- whether an argument belongs to subcommands too
abbrev is_global : Arg → Bool
is_global a = a.global

-- a rule with a parser, an action, a long name
abbrev with_parser : Option ValueParser → Rule → Rule
with_parser p r = record r { parser = p }

abbrev with_action : ArgAction → Rule → Rule
with_action a r = record r { action = Some a }

abbrev with_long : Text → Rule → Rule
with_long name r = record r { long = Some name }

pub returns-clause-rule : goal.returns-clause-rule
returns-clause-rule c =
    let parser_is : c.value_parser-2.result.value_parser ≡ Some (vp.Signed (pos 1) (pos c.args.most)) = search rules in
    let ruled : rule_of c.action.result ≡ with_action Set (with_long c.args.name.now (new_rule c.args.name.now)) =
    ap rule_of c.action.ensures ∙ ap (with_action Set) (ap rule_of c.long.ensures ∙ ap (with_long c.args.name.now) c.new.ensures.rule) in
    ap rule_of c.value_parser-2.ensures.others ∙ ap (with_parser c.value_parser-2.result.value_parser) ruled
    ∙ ap (λ p. with_parser p (with_action Set (with_long c.args.name.now (new_rule c.args.name.now)))) parser_is

pub returns-clause-local : goal.returns-clause-local
returns-clause-local c =
    ap is_global c.value_parser-2.ensures.others ∙ ap is_global c.action.ensures ∙ ap is_global c.long.ensures ∙ c.new.ensures.optional.1
