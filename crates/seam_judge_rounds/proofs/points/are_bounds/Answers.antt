use Rattle.std.proofs.Common.{sym, ap, subst, Option, IsTrue, ◌↔◌}
use Rattle.std.specs.Prelude.{IfOk, option_copied}
use Rattle.seam_tree.specs.Division.{Division}
use Rattle.seam_judge_data.specs.Standings.{standing_of}
use Rattle.seam_judge_rounds.specs.Bounds.{PrintsBounds}
use Rattle.seam_judge_rounds.proofs.points.are_bounds.Goals as goal

pub returns-in-Some : goal.returns-in-Some
returns-in-Some c =
    subst (λ (o : Option Division). IfOk c.may_print.result
    (λ r. IsTrue r ↔ PrintsBounds c.args.header.now (standing_of c.args.before.now) c.args.homes.now o))
    (sym (ap option_copied c.in-Some.is)) c.may_print.ensures
