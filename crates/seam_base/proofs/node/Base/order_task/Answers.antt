use Rattle.std.proofs.Common.{◌≡◌, ◌++◌, ◌∷◌, subst, OnOk}
use Rattle.seam_node_steps.specs.BaseCases.{base_task}
use Rattle.seam_base.specs.Nodes.{node_of}
use Rattle.seam_base.proofs.NodeLemmas.{order_stays, nothing_is_sent}
use Rattle.seam_base.proofs.node.Base.order_task.Goals as goal

pub returns-in-Err-clause-state : goal.returns-in-Err-clause-state
returns-in-Err-clause-state c =
    subst
    (λ b. OnOk c.in-Err.stays.result
    (node_of c.self.inside.known c.push_front_reserved.new.self.items c.self.inside.routes.items c.execute.new.parts
    ≡ (base_task b b.orders).state)) c.self.view_is
    (order_stays c.self.inside.known c.self.inside.routes.items c.self.inside.parts c.execute.new.parts c.self.inside.orders.items
    c.push_front_reserved.new.self.items c.pop_front.new.self.items c.in-Some.order c.in-Err.stays.order c.in-Some.ensures.items
    c.push_front_reserved.ensures.items c.in-Err.ensures.stays c.in-Err.ensures.err_parts c.in-Err.stays.result
    (c.in-Err.ensures.stray (c.in-Some.order ∷ c.pop_front.new.self.items)))

pub returns-in-Err-clause-sent : goal.returns-in-Err-clause-sent
returns-in-Err-clause-sent c =
    subst (λ b. OnOk c.in-Err.stays.result (c.execute.new.out.items ≡ c.args.out.now.items ++ (base_task b b.orders).sent)) c.self.view_is
    (nothing_is_sent c.self.inside.known c.self.inside.routes.items c.self.inside.parts c.execute.new.parts c.self.inside.orders.items
    c.push_front_reserved.new.self.items c.pop_front.new.self.items c.in-Some.order c.in-Err.stays.order c.in-Some.ensures.items
    c.push_front_reserved.ensures.items c.in-Err.ensures.stays c.in-Err.ensures.err_parts c.in-Err.stays.result c.args.out.now.items
    c.execute.new.out.items c.in-Err.ensures.err (c.in-Err.ensures.stray (c.in-Some.order ∷ c.pop_front.new.self.items)))
