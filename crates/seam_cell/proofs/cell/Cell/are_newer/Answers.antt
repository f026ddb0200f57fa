use Rattle.std.proofs.Common.{◌&&◌, ◌==◌, nat_le, subst, ap, ◌∙◌}
use Rattle.seam_node_steps.specs.Prelude.{IsTree, are_newer, cell_count, cells_of}
use Rattle.seam_cell.proofs.LoadLemmas.{newer_size, not_newer}
use Rattle.seam_cell.proofs.cell.Cell.are_newer.Goals as goal

pub returns-then-self-bounds : goal.returns-then-self-bounds
returns-then-self-bounds c =
    let k = c.self.inside.known in
    let b = c.args.bounds.now in
    let tree = subst IsTree c.get.ensures c.size-size.ensures.tree in
    ap (λ n. n == k.settings.size) (c.size-size.ensures.size ∙ ap (λ t. t.size) c.get.ensures)
    ∙ (newer_size k.bounds.number b.number k.settings.size b.tree tree c.if-self-bounds.true ∙ ap (λ v. are_newer v b) c.self.view_is)

pub returns-else-self-bounds : goal.returns-else-self-bounds
returns-else-self-bounds c =
    let k = c.self.inside.known in
    let b = c.args.bounds.now in
    not_newer k.bounds.number b.number (b.tree.size == k.settings.size && nat_le (cells_of b.tree) cell_count) c.if-self-bounds.false
    ∙ ap (λ v. are_newer v b) c.self.view_is
