use Rattle.std.proofs.Common.{◌∙◌, map}
use Rattle.seam_rule_lines.specs.Book.{tree_of}
use Rattle.seam_judge_data.specs.Standings.{standing_of}
use Rattle.seam_judge_rounds.proofs.Balancing.{balanced_is}
use Rattle.seam_judge_rounds.proofs.points.is_balanced.Goals as goal

pub returns : goal.returns
returns c =
    balanced_is c.deref.result.now (map (λ x. x.state.pos) c.args.homes.now) c.args.header.now.settings.balance_shift c.tree_in-tree.result
    (tree_of (standing_of c.args.before.now).book) c.in_ok-next.next c.args.bounds.now c.is.result
    (c.deref.ensures.value ∙ c.in_ok-positions.ensures) c.tree_in-tree.ensures c.in_ok-next.ensures.balanced c.is.ensures
