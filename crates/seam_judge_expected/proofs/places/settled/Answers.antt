use Rattle.std.proofs.Common.{◌≡◌, ap, arith}
use Rattle.seam_haunt.specs.Places.{Place}
use Rattle.seam_judge_expected.proofs.places.settled.Goals as goal

pub with-old-requires : goal.with-old-requires
with-old-requires c =
    let same : c.was.inside.home ≡ c.args.was.home = ap (λ (p : Place). p.home) c.was.view_is in
    let most = c.cells-cells.ensures.tree.cells_to in
    omega (arith, same, most)

pub invariant_of-result : goal.invariant_of-result
invariant_of-result c cell has =
    let there = ((c.haunts_after.ensures.each cell).0 has).there in
    let most = c.cells-cells.ensures.tree.cells_to in
    omega (arith, there, most)
