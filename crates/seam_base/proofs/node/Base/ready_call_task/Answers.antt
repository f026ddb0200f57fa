use Rattle.std.proofs.Common.{◌≡◌, ap, ◌∙◌, subst, OnOk}
use Rattle.seam_node_steps.specs.BaseCases.{task_without_orders, ready_part}
use Rattle.seam_base.specs.Nodes.{node_of, has_call}
use Rattle.seam_base.specs.Marks.{least}
use Rattle.seam_base.proofs.NodeLemmas.{least_is_there, call_waits, call_is_executed}
use Rattle.seam_base.proofs.node.Base.ready_call_task.Goals as goal

pub unreachable-requires : goal.unreachable-requires
unreachable-requires c = least_is_there has_call c.self.inside.parts c.args.e
    (ap (λ b. least has_call b.parts) c.self.view_is ∙ c.requires) c.in_default.ensures

pub returns-then-not-may_execute-clause-after : goal.returns-then-not-may_execute-clause-after
returns-then-not-may_execute-clause-after c =
    subst (λ b. b ≡ (task_without_orders b (ready_part b)).state) c.self.view_is
    (call_waits (node_of c.self.inside.known c.self.inside.orders.items c.self.inside.routes.items c.self.inside.parts) c.args.e
    c.in-Some.part.now c.in-Some.ensures (ap (λ b. least has_call b.parts) c.self.view_is ∙ c.requires)
    c.if-not-may_execute.ensures)

pub returns-clause-after : goal.returns-clause-after
returns-clause-after c =
    subst
    (λ b. OnOk c.execute_ready.result
    (node_of c.self.inside.known c.self.inside.orders.items c.self.inside.routes.items c.execute_ready.new.self
    ≡ (task_without_orders b (ready_part b)).state)) c.self.view_is
    (call_is_executed (node_of c.self.inside.known c.self.inside.orders.items c.self.inside.routes.items c.self.inside.parts) c.args.e
    c.in-Some.part.now c.in-Some.ensures (ap (λ b. least has_call b.parts) c.self.view_is ∙ c.requires)
    c.execute_ready.result c.execute_ready.new.self c.if-not-may_execute.ensures c.execute_ready.ensures.after)
