use Rattle.std.proofs.Common.{◌≡◌, None, take, get_or, sym, subst, arith, rules}
use Rattle.seam_node_steps.specs.Prelude.{Create, NodeView}
use Rattle.seam_law_calls.specs.Prelude.{has_of, real_in}
use Rattle.seam_core.specs.Loads.{IsNumbered}
use Rattle.seam_core.specs.Begun.{HasSpace}
use Rattle.seam_core.proofs.Nodes.{number_made, space_made, new_at, spare_stays}
use Rattle.seam_core.proofs.node.Node.make_all.Goals as goal

pub make-requires-clause-me : goal.make-requires-clause-me
make-requires-clause-me c =
    let t = c.args.tree.now in
    subst (IsNumbered c.args.me) (sym c.loop-x.invariant)
    (number_made c.args.me t.size c.args.self.now c.requires.me c.requires.space t (take c.loop-x.x-index c.args.creates.now))

pub make-requires-clause-space : goal.make-requires-clause-space
make-requires-clause-space c =
    let t = c.args.tree.now in
    subst (HasSpace t.size) (sym c.loop-x.invariant)
    (space_made c.args.me t.size c.args.self.now c.requires.me c.requires.space t (take c.loop-x.x-index c.args.creates.now))

pub make-requires-clause-new : goal.make-requires-clause-new
make-requires-clause-new c =
    let t = c.args.tree.now in
    let xs = c.args.creates.now in
    let i = c.loop-x.x-index in
    let none : Create = record { entity = 0; ty = 0; pos = record { x = 0; z = 0 } } in
    subst (λ (s : NodeView). real_in (has_of (get_or xs i none).entity s) ≡ None) (sym c.loop-x.invariant)
    (new_at t xs c.args.self.now c.requires.new c.requires.once i none (omega arith))

pub returns-then-is_spare : goal.returns-then-is_spare
returns-then-is_spare c =
    sym (spare_stays c.args.tree.now c.args.me c.args.self.now c.args.creates.now c.requires.me (search rules))
