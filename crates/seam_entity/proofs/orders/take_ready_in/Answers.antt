use Rattle.std.proofs.Common.{◌∙◌, subst, length}
use Rattle.seam_entity.specs.SenderPlaces.{NoneReady, IsFirstReady}
use Rattle.seam_entity.proofs.OrderLemmas.{ordered_read}
use Rattle.seam_entity.proofs.ReadyLemmas.{no_call, nothing_taken, call_found, call_taken}
use Rattle.seam_entity.proofs.orders.take_ready_in.Goals as goal

pub returns-in_default-clause-call : goal.returns-in_default-clause-call
returns-in_default-clause-call c =
    no_call c.args.entries.now.items c.requires
    (subst (λ ps. NoneReady ps (length ps)) c.deref.ensures.value c.in_default.ensures.none)

pub returns-in_default-clause-after : goal.returns-in_default-clause-after
returns-in_default-clause-after c =
    nothing_taken c.args.entries.now.items c.requires
    (subst (λ ps. NoneReady ps (length ps)) c.deref.ensures.value c.in_default.ensures.none)

pub returns-clause-call : goal.returns-clause-call
returns-clause-call c =
    let first = subst (λ ps. IsFirstReady ps c.in-Some.at) c.deref.ensures.value c.in-Some.ensures.some in
    c.take_next.ensures.item
    ∙ call_found c.args.entries.now.items c.in-Some.at c.index_mut-entry.result.now c.requires first c.index_mut-entry.ensures.value

pub returns-clause-after : goal.returns-clause-after
returns-clause-after c =
    let first = subst (λ ps. IsFirstReady ps c.in-Some.at) c.deref.ensures.value c.in-Some.ensures.some in
    call_taken c.args.entries.now.items c.in-Some.at c.index_mut-entry.result.now c.take_next.new.self c.requires first
    c.index_mut-entry.ensures.value c.next_number.ensures.order.from_one c.take_next.ensures.after

pub returns-clause-kept : goal.returns-clause-kept
returns-clause-kept c =
    let first = subst (λ ps. IsFirstReady ps c.in-Some.at) c.deref.ensures.value c.in-Some.ensures.some in
    ordered_read c.args.entries.now.items c.in-Some.at c.index_mut-entry.result.now c.take_next.new.self c.requires first.inside
    c.index_mut-entry.ensures.value
