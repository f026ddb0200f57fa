use Rattle.std.proofs.Common.{refl, ◌∙◌}
use Rattle.seam_base.specs.Nodes.{has_call, has_update}
use Rattle.seam_base.specs.Parts.{with_shown}
use Rattle.seam_base.specs.Marks.{marked}
use Rattle.seam_base.proofs.Marks.{changed, unchanged, pass_alike, marks_put, marked_then}
use Rattle.seam_base.proofs.PartLemmas.{on_ok, on_err, either_way, shown_call}
use Rattle.seam_base.proofs.parts.show_in.Goals as goal

pub returns-clause-after : goal.returns-clause-after
returns-clause-after c = on_ok c.show_next-done.result
    (changed c.args.items.now.items c.args.e c.in-Some.part.now c.show_next-done.new.self _ c.in-Some.ensures.item refl with_shown)
    c.show_next-done.ensures.after

pub returns-clause-err : goal.returns-clause-err
returns-clause-err c = on_err c.show_next-done.result
    (unchanged c.args.items.now.items c.args.e c.in-Some.part.now c.show_next-done.new.self _ c.in-Some.ensures.item refl)
    c.show_next-done.ensures.err

pub returns-clause-marks : goal.returns-clause-marks
returns-clause-marks c =
    marks_put c.args.items.now.items c.args.e c.in-Some.part.now c.show_next-done.new.self _ c.in-Some.ensures.item refl has_update
    c.args.updates.now c.mark.new.marks tt c.requires.marks
    (c.mark.ensures
    ∙ ((λ i. marked (c.is_client_ready.ensures i) (c.in_ok-insert.ensures.ok i) c.args.e tt) ∙ marked_then _ c.args.updates.now c.args.e))

pub returns-clause-others : goal.returns-clause-others
returns-clause-others c =
    pass_alike c.args.items.now.items c.args.e c.in-Some.part.now c.show_next-done.new.self _ c.in-Some.ensures.item refl has_call
    (either_way has_call with_shown c.in-Some.part.now c.show_next-done.new.self c.show_next-done.result (shown_call c.in-Some.part.now)
    c.show_next-done.ensures.after c.show_next-done.ensures.err)
