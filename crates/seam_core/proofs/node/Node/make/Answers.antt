use Rattle.std.proofs.Common.{◌≡◌, OnOk, sym, subst, ap, ◌∙◌, arith}
use Rattle.std.proofs.lemmas.Result.{on_ok_weaker}
use Rattle.seam_node_steps.specs.Loads.{created_at}
use Rattle.seam_core.specs.Nodes.{node_of}
use Rattle.seam_core.specs.contracts.node.Node.{the_view}
use Rattle.seam_core.proofs.Nodes.{made_cell, made_base}
use Rattle.seam_core.proofs.node.Node.make.Goals.{in-Cell, in-Base}
use Rattle.seam_core.proofs.node.Node.make.Goals as goal

pub add_entity-requires : goal.add_entity-requires
add_entity-requires c = let most = c.requires.tree.cells_to in let low = c.leaf_of-leaf.ensures.cell in omega (arith, most, low)

pub returns : goal.returns
returns c =
    let t = c.args.tree.now in
    let x = c.args.x in
    let s = c.args.self.now in
    let leaf = c.leaf_of-leaf.result in
    let at = c.leaf_of-leaf.ensures.value in
    elim c.match-self.branch [
      | in-Cell w ↦
          let same = ap node_of (sym w.in-Cell.is) ∙ c.self.view_is in
          subst (λ r. OnOk r (the_view c.match-self.self-inside ≡ created_at t x s)) (sym w.result-is)
          (on_ok_weaker w.make_in.result
          (λ is. ap the_view w.self-inside-is
          ∙ made_cell t x leaf c.args.me w.in-Cell.cell w.make_in.new.cell s is at same c.requires.me) w.make_in.ensures)
      | in-Base w ↦
          let same = ap node_of (sym w.in-Base.is) ∙ c.self.view_is in
          subst (λ r. OnOk r (the_view c.match-self.self-inside ≡ created_at t x s)) (sym w.result-is)
          (on_ok_weaker w.add_entity.result
          (λ is. ap the_view w.self-inside-is ∙ made_base t x leaf w.in-Base.base w.add_entity.new.self s is at same)
          (w.add_entity.ensures.after x.pos))
    ]
