use Rattle.std.proofs.Common.{false, ◌≤◌, ◌∷◌, ap, sym, refl, subst, ltb-true, ltb-false, ◌∙◌, arith}
use Rattle.std.proofs.Math.ListN.{set}
use Rattle.seam_cell_parts.specs.declared.entity_queue.Entry.{Entry}
use Rattle.seam_cell_parts.specs.Queues.{waiting, passed}
use Rattle.seam_cell_parts.proofs.QueueLemmas.{none_waits, first_taken, passed_more, queue_still}
use Rattle.seam_cell_parts.proofs.entity_queue.EntityQueue.take_first.Goals as goal

pub returns-in_default-clause-none : goal.returns-in_default-clause-none
returns-in_default-clause-none c =
    let past = ltb-false _ _ (sym c.in_default.ensures.item.0) in
    let at = c.self.invariant.first in
    sym c.self.view_is ∙ none_waits c.self.inside.entries.items (omega (arith, past, at))

pub first_from-self-inside-requires : goal.first_from-self-inside-requires
first_from-self-inside-requires c =
    let q = c.self.inside in
    let more = passed_more q.entries.items q.place (record { entity = c.in-Some.entry.now.entity; waits = false }) refl in
    let at = c.self.invariant.first in
    subst (λ l. q.place ≤ passed l) (sym c.deref.ensures.value) (omega (arith, more, at))

pub invariant_of-self-2 : goal.invariant_of-self-2
invariant_of-self-2 c =
    let q = c.self.inside in
    let d = c.in-Some.entry.now in
    queue_still q.entries.items q.place c.first_from-self-inside.result d (record { entity = d.entity; waits = false })
    c.self.invariant.rising (ap (λ w. w.entity) c.in-Some.ensures.value) (c.first_from-self-inside.ensures
    ∙ ap passed c.deref.ensures.value)

pub returns-clause-some : goal.returns-clause-some
returns-clause-some c =
    let q = c.self.inside in
    let d = c.in-Some.entry.now in
    let x : Entry = record { entity = d.entity; waits = false } in
    sym c.self.view_is
    ∙ (first_taken q.entries.items q.place d x c.self.invariant.first (ltb-true _ _ (sym c.in-Some.ensures.item.0)) refl
    ∙ ap (λ w. w.entity ∷ waiting (set q.entries.items q.place x)) (sym c.in-Some.ensures.value))
