use Rattle.std.proofs.Common.{◌≡◌, true, arith, Some, refl}
use Rattle.seam_rule_lines.specs.Book.{has_balance}
use Rattle.seam_judge_data.specs.Standings.{standing_of}
use Rattle.seam_judge_expected.proofs.ListedLemmas.{if_ok}
use Rattle.seam_judge_rounds.proofs.Balancing.{printed}
use Rattle.seam_judge_rounds.proofs.points.may_print.Goals as goal

pub returns : goal.returns
returns c =
    let so : has_balance (standing_of c.args.before.now).book ≡ true = first_of (cc, grind arith) in
    if_ok c.is_balanced.result
    (λ r is. printed c.args.header.now (standing_of c.args.before.now) c.args.homes.now c.args.bounds.now (Some c.args.bounds.now) r so refl
    is)
    c.is_balanced.ensures
