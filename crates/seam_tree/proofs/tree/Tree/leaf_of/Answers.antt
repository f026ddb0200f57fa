use Rattle.std.proofs.Common.{List, length, sym, ap, subst, ◌∙◌}
use Rattle.seam_tree.specs.declared.cut.Cut.{Cut}
use Rattle.seam_tree.specs.Division.{leaf_after}
use Rattle.seam_tree.proofs.Areas.{IsLeaf, leaf_at_is}
use Rattle.seam_tree.proofs.tree.Tree.leaf_of.Goals as goal

pub returns-clause-value : goal.returns-clause-value
returns-clause-value c =
    let leaf_of_cuts = λ (cuts : List Cut). leaf_after (record { size = c.args.self.now.size; cuts = cuts }) (length cuts) c.args.p in
    c.leaf_among.ensures c.args.self.now.size ∙ ap leaf_of_cuts c.made.ensures.cuts

is_leaf : (c : goal.After-leaf_among) → IsLeaf c.args.self.now c.args.p c.leaf_among.result
is_leaf c =
    subst (IsLeaf c.args.self.now c.args.p) (sym (returns-clause-value c))
    (leaf_at_is c.args.self.now c.args.p c.made.ensures.tree c.requires)

pub returns-clause-cell : goal.returns-clause-cell
returns-clause-cell c = (is_leaf c).cell

pub returns-clause-holds : goal.returns-clause-holds
returns-clause-holds c = (is_leaf c).holds

pub returns-clause-only : goal.returns-clause-only
returns-clause-only c = (is_leaf c).only
