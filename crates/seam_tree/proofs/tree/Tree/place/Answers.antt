use Rattle.std.proofs.Common.{ℕ, ◌-◌, sym, ap, subst, ◌∙◌}
use Rattle.seam_tree.specs.Division.{IsTree}
use Rattle.seam_tree.specs.Table.{area_table}
use Rattle.seam_tree.proofs.Padded.{holds_with_place}
use Rattle.seam_tree.proofs.tree.Tree.place.Goals as goal

pub invariant_of-self : goal.invariant_of-self
invariant_of-self c =
    let after =
    holds_with_place c.self.inside.size c.self.inside.count c.self.inside.cuts c.args.self.now (c.from.result - 1) c.args.b c.args.at
    (record { most = c.self.invariant.0; table = c.self.invariant.1; view = c.self.view_is }) (ap (λ (n : ℕ). n - 1) c.from.ensures)
    c.requires.there in
    (after.most, after.table, subst IsTree (sym after.view) c.requires.tree, c.requires.areas ∙ ap area_table (sym after.view))

pub returns : goal.returns
returns c =
    (holds_with_place c.self.inside.size c.self.inside.count c.self.inside.cuts c.args.self.now (c.from.result - 1) c.args.b c.args.at
    (record { most = c.self.invariant.0; table = c.self.invariant.1; view = c.self.view_is }) (ap (λ (n : ℕ). n - 1) c.from.ensures)
    c.requires.there).view
