use Rattle.std.proofs.Common.{◌≡◌, ap, ◌∙◌, subst, OnOk}
use Rattle.seam_node_steps.specs.BaseCases.{task_without_orders, ready_part}
use Rattle.seam_base.specs.Nodes.{node_of, has_call, has_update}
use Rattle.seam_base.specs.Marks.{least}
use Rattle.seam_base.proofs.NodeLemmas.{least_is_there, update_waits, update_is_shown}
use Rattle.seam_base.proofs.node.Base.ready_update_task.Goals as goal

pub unreachable-requires : goal.unreachable-requires
unreachable-requires c = least_is_there has_update c.self.inside.parts c.args.e
    (ap (λ b. least has_update b.parts) c.self.view_is ∙ c.requires.update) c.in_default.ensures

pub returns-then-not-may_show-clause-after : goal.returns-then-not-may_show-clause-after
returns-then-not-may_show-clause-after c =
    subst (λ b. b ≡ (task_without_orders b (ready_part b)).state) c.self.view_is
    (update_waits (node_of c.self.inside.known c.self.inside.orders.items c.self.inside.routes.items c.self.inside.parts) c.args.e
    c.in-Some.part.now c.in-Some.ensures (ap (λ b. least has_call b.parts) c.self.view_is ∙ c.requires.no_call)
    (ap (λ b. least has_update b.parts) c.self.view_is ∙ c.requires.update)
    c.if-not-may_show.ensures)

pub returns-clause-after : goal.returns-clause-after
returns-clause-after c =
    subst
    (λ b. OnOk c.show_next.result
    (node_of c.self.inside.known c.self.inside.orders.items c.self.inside.routes.items c.show_next.new.self
    ≡ (task_without_orders b (ready_part b)).state)) c.self.view_is
    (update_is_shown (node_of c.self.inside.known c.self.inside.orders.items c.self.inside.routes.items c.self.inside.parts) c.args.e
    c.in-Some.part.now c.in-Some.ensures (ap (λ b. least has_call b.parts) c.self.view_is ∙ c.requires.no_call)
    (ap (λ b. least has_update b.parts) c.self.view_is ∙ c.requires.update)
    c.show_next.result c.show_next.new.self c.if-not-may_show.ensures c.show_next.ensures.after)
