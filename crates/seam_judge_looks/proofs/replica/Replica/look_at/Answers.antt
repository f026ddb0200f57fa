use Rattle.std.proofs.Common.{◌∙◌, ap}
use Rattle.seam_rule_clients.specs.Looks.{Row}
use Rattle.seam_judge_looks.specs.Replicas.{client_of}
use Rattle.seam_judge_looks.proofs.Looking.{assembled}
use Rattle.seam_judge_looks.proofs.replica.Replica.look_at.Goals as goal

pub returns : goal.returns
returns c =
    assembled (client_of c.args.self.now) c.args.row.now c.args.others.now c.get.result.now.pos c.deref.result.now c.deref-2.result.now
    c.in_ok-lines.lines.items c.in_ok-leaves.leaves.items c.in_ok-sets.sets.items c.in_ok-enters.enters.items c.append.new.self.items
    c.append-2.new.self.items c.append-3.new.self.items ((λ i. (c.get.ensures i).pos) ∙ ap (λ (r : Row). r.own.pos) c.row.view_is)
    (c.deref.ensures.value ∙ c.in_ok-entries.ensures) (c.deref-2.ensures.value ∙ c.in_ok-entries.ensures) c.in_ok-lines.ensures
    c.in_ok-leaves.ensures c.in_ok-sets.ensures c.in_ok-enters.ensures c.in_ok-append.ensures.items c.in_ok-append-2.ensures.items
    c.in_ok-append-3.ensures.items
