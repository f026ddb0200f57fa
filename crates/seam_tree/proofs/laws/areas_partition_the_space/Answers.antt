use Rattle.std.proofs.Common.{sym, ◌∙◌}
use Rattle.seam_tree.specs.Division.{leaf_at}
use Rattle.seam_tree.proofs.Areas.{IsLeaf, leaf_at_is, tree_inside}
use Rattle.seam_tree.proofs.laws.areas_partition_the_space.Goals as goal

pub returns-clause-inside : goal.returns-clause-inside
returns-clause-inside c cell p within held = tree_inside c.args.tree.now cell p c.cells-cells.ensures.tree within held

pub returns-clause-apart : goal.returns-clause-apart
returns-clause-apart c one other p one_there other_there held too =
    let leaf : IsLeaf c.args.tree.now p (leaf_at c.args.tree.now p) =
    leaf_at_is c.args.tree.now p c.cells-cells.ensures.tree
    (tree_inside c.args.tree.now one p c.cells-cells.ensures.tree one_there held) in
    leaf.only one one_there held ∙ sym (leaf.only other other_there too)

pub returns-clause-covered : goal.returns-clause-covered
returns-clause-covered c p inside =
    let leaf : IsLeaf c.args.tree.now p (leaf_at c.args.tree.now p) = leaf_at_is c.args.tree.now p c.cells-cells.ensures.tree inside in
    (leaf.cell, leaf.holds)
