use Rattle.std.proofs.Common.{◌∙◌, rules, SFits}
use Rattle.std.specs.Int.{w128}
use Rattle.std.proofs.lemmas.Int.{to_z-of_z}
use Rattle.seam_defs.proofs.Saturation.{nearest-saturated}
use Rattle.seam_defs.proofs.deeds.nearest_sum.Goals as goal

pub returns : goal.returns
returns c =
    let a_fits : SFits w128 c.args.a = c.ranges.a in
    let b_fits : SFits w128 c.args.b = c.ranges.b in
    let sum_fits : SFits w128 c.saturating_add.result = search rules in
    let result_fits : SFits w128 c.nearest.result = search rules in
    let sum = simp to_z-of_z at c.saturating_add.ensures in
    let near = simp to_z-of_z at c.nearest.ensures in
    to_z-of_z w128 c.nearest.result result_fits ∙ (rw sum at near) ∙ nearest-saturated c.args.ty _
