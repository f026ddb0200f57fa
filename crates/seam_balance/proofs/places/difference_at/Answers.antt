use Rattle.std.proofs.Common.{refl, ◌∙◌}
use Rattle.seam_balance.proofs.Counts.{abs_diff_difference}
use Rattle.seam_balance.proofs.places.difference_at.Goals as goal

pub returns : goal.returns
returns c =
    c.abs_diff.ensures ∙ abs_diff_difference c.args.places.now c.args.at c.count_below-below.result _ c.count_below-below.ensures refl
