use Rattle.std.proofs.Common.{◌<◌, length, get_or, ap, sym, subst, ltb-true, ltb-false, ◌∙◌, arith}
use Rattle.seam_node_steps.specs.Cells.{without}
use Rattle.seam_cell_parts.proofs.QueueLemmas.{none_waits, later_out}
use Rattle.seam_cell_parts.proofs.entity_queue.EntityQueue.remove.Goals as goal

pub returns-in_default : goal.returns-in_default
returns-in_default c =
    let q = c.self.inside in
    let past = ltb-false _ _ (sym c.in_default.ensures.lookup.0) in
    let len = ap length c.deref.ensures.value in
    let at = c.self.invariant.first in
    let none = none_waits q.entries.items (omega (arith, past, at, len)) in
    sym c.self.view_is ∙ (none ∙ (sym (ap (without c.args.e) none) ∙ ap (without c.args.e) c.self.view_is))

pub returns-else-first-e : goal.returns-else-first-e
returns-else-first-e c =
    let q = c.self.inside in
    let d = c.in-Some.first.now in
    let below = ltb-true _ _ (sym c.in-Some.ensures.lookup.0) in
    let len = ap length c.deref.ensures.value in
    let lt : q.place < length q.entries.items = omega (arith, below, len) in
    let is = c.in-Some.ensures.lookup.1 ∙ ap (λ l. get_or l q.place d) c.deref.ensures.value in
    let not = c.if-first-e.false in
    let later : c.args.e < d.entity = omega (arith, not) in
    sym c.self.view_is
    ∙ (later_out c.args.e q.entries.items q.place d c.self.invariant.rising c.self.invariant.first lt
    (subst (λ w. c.args.e < w.entity) is later)
    ∙ ap (without c.args.e) c.self.view_is)
