use Rattle.std.proofs.Common.{sym, subst, arith}
use Rattle.std.proofs.lemmas.Grind.{common_steps}
use Rattle.seam_tree.specs.Division.{Division, IsTree, HasBoundary}
use Rattle.seam_tree.specs.Change.{MovesBoundary}
use Rattle.seam_tree.proofs.Moves.{with_place_moves}
use Rattle.seam_tree.proofs.tree.Tree.shift.Goals as goal

pub returns-clause-changed : goal.returns-clause-changed
returns-clause-changed c =
    let there : HasBoundary c.args.self.now c.args.b =
    record { from_one = grind (arith, common_steps); to_last = grind (arith, common_steps) } in
    subst (λ (u : Division). MovesBoundary c.args.self.now u c.args.b c.args.at) (sym c.place.ensures)
    (with_place_moves c.args.self.now c.args.b c.args.at (subst IsTree c.self.view_is c.self.invariant.2) there)
