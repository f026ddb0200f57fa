use Rattle.std.proofs.Common.{refl}
use Rattle.std.proofs.lemmas.Result.{on_ok_weaker}
use Rattle.seam_io.specs.Lines.{Long}
use Rattle.seam_rule_lines.specs.declared.verdict.Cause.TheVariants.{TooLong}
use Rattle.seam_rule_lines.proofs.Refusals.{long_is_refused}
use Rattle.seam_world_rounds.specs.Output.{refusal_output}
use Rattle.seam_world_rounds.proofs.ScriptLemmas.{refused_line}
use Rattle.seam_world_rounds.proofs.script.Script.read_long.Goals as goal

pub returns : goal.returns
returns c = on_ok_weaker c.refuse.result
    (λ text h t was. (
      refusal_output c.args.output c.in_ok-self.field-0 TooLong,
      refused_line h t (c.a_course_begins_and_goes_on.ensures.line h t) Long TooLong c.args.self.now _ was refl refl refl refl
          c.in_ok-self.ensures.next c.in_ok-self.ensures.most refl refl (long_is_refused h t.book) c.args.output,
      text,
    ))
    c.refuse.ensures
