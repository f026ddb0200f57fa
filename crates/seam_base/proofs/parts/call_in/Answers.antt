use Rattle.std.proofs.Common.{refl, ◌∙◌}
use Rattle.std.specs.Ordering.{nat_cmp}
use Rattle.seam_entity.specs.Orders.{order_of}
use Rattle.seam_base.specs.Nodes.{here_in, has_call, has_update}
use Rattle.seam_base.specs.Parts.{with_call}
use Rattle.seam_base.specs.Marks.{marked}
use Rattle.seam_base.proofs.Marks.{changed, unchanged, pass_alike, marks_put, marked_then}
use Rattle.seam_base.proofs.PartLemmas.{on_ok, on_err, either_way, offered_same}
use Rattle.seam_base.proofs.parts.call_in.Goals as goal

pub returns-clause-after : goal.returns-clause-after
returns-clause-after c = on_ok c.offer-done.result
    (changed c.args.items.now.items c.args.call.entity c.in-Some.part.now c.offer-done.new.self _ c.in-Some.ensures.item refl
    (with_call (here_in c.args.known.now) c.args.call)) (c.offer-done.ensures.after c.args.known.now.me c.args.known.now.settings)

pub returns-clause-err : goal.returns-clause-err
returns-clause-err c = on_err c.offer-done.result
    (unchanged c.args.items.now.items c.args.call.entity c.in-Some.part.now c.offer-done.new.self _ c.in-Some.ensures.item refl)
    c.offer-done.ensures.err

pub returns-clause-marks : goal.returns-clause-marks
returns-clause-marks c =
    marks_put c.args.items.now.items c.args.call.entity c.in-Some.part.now c.offer-done.new.self _ c.in-Some.ensures.item refl has_call
    c.args.calls.now c.mark.new.marks tt c.requires.marks
    (c.mark.ensures
    ∙ ((λ i. marked (c.is_ready.ensures i) (c.in-Ok.ensures.ok i) c.args.call.entity tt)
    ∙ marked_then _ c.args.calls.now c.args.call.entity))

pub returns-clause-others : goal.returns-clause-others
returns-clause-others c =
    pass_alike c.args.items.now.items c.args.call.entity c.in-Some.part.now c.offer-done.new.self _ c.in-Some.ensures.item refl has_update
    (either_way has_update (with_call (here_in c.args.known.now) c.args.call) c.in-Some.part.now c.offer-done.new.self c.offer-done.result
    (offered_same (here_in c.args.known.now) c.in-Some.part.now c.args.call
    (nat_cmp c.args.call.number (order_of c.in-Some.part.now.orders c.args.call.sender).next))
    (c.offer-done.ensures.after c.args.known.now.me c.args.known.now.settings) c.offer-done.ensures.err)
