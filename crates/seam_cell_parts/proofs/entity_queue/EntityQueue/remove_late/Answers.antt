use Rattle.std.proofs.Common.{◌<◌, ◌≤◌, false, length, ap, sym, refl, subst, ltb-true, ltb-false, ◌∙◌, arith}
use Rattle.std.proofs.Math.ListN.{set}
use Rattle.std.proofs.lemmas.List.{get_or_read, set-get_or}
use Rattle.std.specs.List.{AllWithin}
use Rattle.seam_node_steps.specs.Cells.{without}
use Rattle.seam_cell_parts.specs.Queues.{waiting, passed}
use Rattle.seam_cell_parts.proofs.QueueLemmas.{taken_out, none_out, passed_more, queue_still}
use Rattle.seam_cell_parts.proofs.entity_queue.EntityQueue.remove_late.Goals as goal

pub returns-in_default : goal.returns-in_default
returns-in_default c =
    let q = c.self.inside in
    let past = ltb-false _ _ (sym c.in_default.ensures.item.0) in
    let lists = c.deref.ensures.value in
    none_out c.args.e q.entries.items c.count_below-at.result c.self.invariant.rising
    (subst (λ l. AllWithin (λ w. w.entity < c.args.e) l 0 c.count_below-at.result) lists c.count_below-at.ensures.below)
    (subst (λ l. AllWithin (λ w. c.args.e ≤ w.entity) l c.count_below-at.result (length l)) lists c.count_below-at.ensures.above)
    (λ d lt. absurd (omega (arith, lt, past)))
    ∙ ap (without c.args.e) c.self.view_is

pub first_from-self-inside-requires : goal.first_from-self-inside-requires
first_from-self-inside-requires c =
    let q = c.self.inside in
    let more = passed_more q.entries.items c.count_below-at.result (record { entity = c.in-Some.entry.now.entity; waits = false }) refl in
    let at = c.self.invariant.first in
    subst (λ l. q.place ≤ passed l) (sym c.deref-then-entry-e.ensures.value) (omega (arith, more, at))

pub invariant_of-self-then-entry-e : goal.invariant_of-self-then-entry-e
invariant_of-self-then-entry-e c =
    let q = c.self.inside in
    let d = c.in-Some.entry.now in
    queue_still q.entries.items c.count_below-at.result c.first_from-self-inside.result d (record { entity = d.entity; waits = false })
    c.self.invariant.rising (ap (λ w. w.entity) c.in-Some.ensures.value)
    (c.first_from-self-inside.ensures ∙ ap passed c.deref-then-entry-e.ensures.value)

pub returns-then-entry-e : goal.returns-then-entry-e
returns-then-entry-e c =
    let q = c.self.inside in
    let d = c.in-Some.entry.now in
    taken_out c.args.e q.entries.items c.count_below-at.result d (record { entity = d.entity; waits = false }) c.self.invariant.rising
    (ltb-true _ _ (sym c.in-Some.ensures.item.0)) (ap (λ w. w.entity) (sym c.in-Some.ensures.value) ∙ c.if-entry-e.true) refl
    ∙ ap (without c.args.e) c.self.view_is

pub returns-else-entry-e : goal.returns-else-entry-e
returns-else-entry-e c =
    let q = c.self.inside in
    let d = c.in-Some.entry.now in
    let i = c.count_below-at.result in
    let lists = c.deref.ensures.value in
    let lt = ltb-true _ _ (sym c.in-Some.ensures.item.0) in
    ap waiting (ap (set q.entries.items i) c.in-Some.ensures.value ∙ set-get_or q.entries.items i d)
    ∙ (none_out c.args.e q.entries.items i c.self.invariant.rising
    (subst (λ l. AllWithin (λ w. w.entity < c.args.e) l 0 i) lists c.count_below-at.ensures.below)
    (subst (λ l. AllWithin (λ w. c.args.e ≤ w.entity) l i (length l)) lists c.count_below-at.ensures.above)
    (λ b _. λ same. c.if-entry-e.false (ap (λ w. w.entity) (get_or_read q.entries.items i d lt c.in-Some.ensures.value b) ∙ same))
    ∙ ap (without c.args.e) c.self.view_is)
