use Rattle.std.proofs.Common.{◌≡◌, sym, subst}
use Rattle.seam_judge_reader.specs.Scripts.{IsAt}
use Rattle.seam_judge_reader.proofs.ScriptSteps.{line_counted, long_is_refused}
use Rattle.seam_judge_reader.proofs.script.Script.read_long.Goals as goal

pub returns : goal.returns
returns c = λ h t was.
    let at = subst (IsAt h t) (sym c.self.view_is) was in
    (long_is_refused h t.book, line_counted h t _ at c.in_ok-self-inside.field-0 c.in_ok-self-inside.ensures c.self.inside.book at.refines)
