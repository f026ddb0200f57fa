use Rattle.std.proofs.Common.{sym, subst, ap, ◌∙◌}
use Rattle.std.specs.List.{AllByRecursion}
use Rattle.seam_node_steps.specs.Prelude.{NodeView, created_at, attached}
use Rattle.seam_law_rounds.specs.Prelude.{each}
use Rattle.seam_core.specs.Begun.{HasSpace}
use Rattle.seam_core.proofs.Nodes.{IsUnseen, unseen_peopled, space_after}
use Rattle.seam_core.proofs.node.Node.begin.Goals as goal

pub attach_all-requires-clause-unseen : goal.attach_all-requires-clause-unseen
attach_all-requires-clause-unseen c =
    let b = c.args.batch.now in
    let xs = c.as_slice.result.now in
    let same = c.in_ok-make_all.ensures ∙ ap (each (created_at b.tree) xs) c.begin_base.ensures in
    subst (AllByRecursion (IsUnseen c.make_all.new.self)) (sym c.as_slice-2.ensures)
    (subst (λ (s : NodeView). AllByRecursion (IsUnseen s) b.clients) (sym same)
    (unseen_peopled b.tree c.cells.result xs c.args.self.now b.clients c.requires.can.unseen))

pub begin_cell-requires : goal.begin_cell-requires
begin_cell-requires c =
    let t = c.args.batch.now.tree in
    let xs = c.as_slice.result.now in
    let es = c.as_slice-2.result.now in
    let same =
    c.in_ok-attach_all.ensures ∙ ap (each attached es) (c.in_ok-make_all.ensures ∙ ap (each (created_at t) xs) c.begin_base.ensures) in
    subst (HasSpace t.size) (sym same)
    (space_after c.args.me t.size c.args.self.now c.requires.numbered c.requires.space c.cells.result t xs es)
