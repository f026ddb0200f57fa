use Rattle.std.proofs.Common.{◌<◌, sym, subst, arith}
use Rattle.std.proofs.lemmas.Grind.{common_steps}
use Rattle.seam_tree.specs.Boundary.{RunsThrough}
use Rattle.seam_tree.specs.Division.{Division, area, cells_of}
use Rattle.seam_tree.specs.Change.{CutsCell}
use Rattle.seam_tree.proofs.Changes.{with_cut_cuts, with_cut_tree}
use Rattle.seam_tree.proofs.tree.Tree.cut.Goals as goal

pub push-requires-clause-tree : goal.push-requires-clause-tree
push-requires-clause-tree c =
    let there : c.args.cell < cells_of c.args.self.now = grind (arith, common_steps) in
    let runs : RunsThrough (record { axis = c.args.axis; at = c.args.at }) (area c.args.self.now c.args.cell) =
    grind (arith, common_steps) in
    let room : cells_of c.args.self.now < 16 = grind (arith, common_steps) in
    with_cut_tree c.args.self.now c.args.cell _ c.area_of.ensures.tree there runs room

pub returns-clause-changed : goal.returns-clause-changed
returns-clause-changed c =
    let there : c.args.cell < cells_of c.args.self.now = grind (arith, common_steps) in
    subst (λ (u : Division). CutsCell c.args.self.now u c.args.cell (record { axis = c.args.axis; at = c.args.at })) (sym c.push.ensures)
    (with_cut_cuts c.args.self.now c.args.cell _ there)
