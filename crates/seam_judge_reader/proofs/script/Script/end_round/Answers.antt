use Rattle.std.proofs.Common.{◌≡◌, sym, subst}
use Rattle.seam_judge_reader.specs.Scripts.{IsAt}
use Rattle.seam_judge_reader.proofs.ScriptSteps.{round_ended}
use Rattle.seam_judge_reader.proofs.script.Script.end_round.Goals as goal

pub returns-clause-ended : goal.returns-clause-ended
returns-clause-ended c = λ ended h t was.
    let at = subst (IsAt h t) (sym c.self.view_is) was in
    round_ended h t _ at c.args.round.now c.in_ok-self-inside.field-0 c.in_ok-self-inside.ensures c.begin_round.new.book
    (c.begin_round.ensures h at.book at.refines)
