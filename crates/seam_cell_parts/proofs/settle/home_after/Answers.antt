use Rattle.std.proofs.Common.{◌≤◌, arith}
use Rattle.seam_tree.specs.Division.{cells_of}
use Rattle.seam_cell_parts.proofs.HomeLemmas.{home_beyond}
use Rattle.seam_cell_parts.proofs.settle.home_after.Goals as goal

pub returns-then-me-cells : goal.returns-then-me-cells
returns-then-me-cells c defs =
    let beyond : cells_of c.args.tree.now ≤ c.args.me = omega (arith, c.if-me-cells.true, c.cells.ensures.count) in
    home_beyond c.args.tree.now c.args.settings.now.offload_hysteresis c.args.me c.args.pos c.cells.ensures.tree c.requires.inside beyond
