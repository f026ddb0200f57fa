use Rattle.std.proofs.Common.{Some, length, get_or, ap, sym, ltb-true, ltb-false, ◌<◌, ◌∙◌, arith}
use Rattle.seam_cell_parts.specs.Sets.{first_of}
use Rattle.seam_cell_parts.proofs.QueueLemmas.{first_is, none_waits}
use Rattle.seam_cell_parts.proofs.entity_queue.EntityQueue.first.Goals as goal

pub returns-in-Some : goal.returns-in-Some
returns-in-Some c =
    let q = c.self.inside in
    let d = c.in-Some.entry.now in
    let below = ltb-true _ _ (sym c.in-Some.ensures.lookup.0) in
    let len = ap length c.deref.ensures.value in
    let lt : q.place < length q.entries.items = omega (arith, below, len) in
    ap (λ w. Some w.entity) (c.in-Some.ensures.lookup.1 ∙ ap (λ l. get_or l q.place d) c.deref.ensures.value)
    ∙ (first_is q.entries.items q.place d c.self.invariant.first lt ∙ ap first_of c.self.view_is)

pub returns-in-None : goal.returns-in-None
returns-in-None c =
    let q = c.self.inside in
    let past = ltb-false _ _ (sym c.in-None.ensures.lookup.0) in
    let len = ap length c.deref.ensures.value in
    let at = c.self.invariant.first in
    ap first_of (sym (none_waits q.entries.items (omega (arith, past, at, len))) ∙ c.self.view_is)
