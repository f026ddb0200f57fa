use Rattle.std.proofs.Common.{rules, ap}
use Rattle.seam_node_steps.specs.Loads.{part_begins}
use Rattle.seam_base.proofs.RoundMarks.{calls_begun, updates_begun}
use Rattle.seam_base.proofs.parts.Parts.start_round.Goals as goal

pub invariant_of-self : goal.invariant_of-self
invariant_of-self c =
    let old = c.self.inside.items.items in
    let new = c.change_each.new.self.items in
    let begun = ap (λ w. w.items) (c.change_each.ensures.after part_begins (search rules)) in
    (calls_begun c.self.inside.calls old new begun c.self.invariant.0, updates_begun c.self.inside.updates old new begun c.self.invariant.1)
