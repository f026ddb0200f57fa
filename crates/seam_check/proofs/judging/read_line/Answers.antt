use Rattle.std.proofs.Common.{sym, subst, IfOk}
use Rattle.seam_rule_rounds.specs.Prelude.{Header, Standing}
use Rattle.seam_judge_reader.specs.Scripts.{IsAt, LineRead}
use Rattle.seam_check.specs.Inputs.{as_line}
use Rattle.seam_check.proofs.judging.read_line.Goals as goal

pub returns-in-Content : goal.returns-in-Content
returns-in-Content c =
    subst
    (λ l. IfOk c.read_line.result
    (λ r. (h : Header) (t : Standing) → IsAt h t c.args.script.now → LineRead h t (as_line l) r c.read_line.new.self))
    (sym c.in-Content.is) c.read_line.ensures

pub returns-in-Long : goal.returns-in-Long
returns-in-Long c =
    subst
    (λ l. IfOk c.read_long.result
    (λ r. (h : Header) (t : Standing) → IsAt h t c.args.script.now → LineRead h t (as_line l) r c.read_long.new.self))
    (sym c.in-Long.is) c.read_long.ensures
