use Rattle.std.proofs.Common.{refl, ◌∙◌}
use Rattle.seam_base.specs.Nodes.{here_in, has_call, has_update}
use Rattle.seam_base.specs.Parts.{with_ready_call}
use Rattle.seam_base.specs.Marks.{marked}
use Rattle.seam_base.proofs.Marks.{changed, unchanged, pass_alike, marks_put, marked_then}
use Rattle.seam_base.proofs.PartLemmas.{on_ok, on_err, either_way, ready_same}
use Rattle.seam_base.proofs.parts.ready_in.Goals as goal

pub returns-clause-after : goal.returns-clause-after
returns-clause-after c = on_ok c.execute_ready-done.result
    (changed c.args.items.now.items c.args.e c.in-Some.part.now c.execute_ready-done.new.self _ c.in-Some.ensures.item refl
    (with_ready_call (here_in c.args.known.now))) (c.execute_ready-done.ensures.after c.args.known.now.me c.args.known.now.settings)

pub returns-clause-err : goal.returns-clause-err
returns-clause-err c = on_err c.execute_ready-done.result
    (unchanged c.args.items.now.items c.args.e c.in-Some.part.now c.execute_ready-done.new.self _ c.in-Some.ensures.item refl)
    c.execute_ready-done.ensures.err

pub returns-clause-marks : goal.returns-clause-marks
returns-clause-marks c =
    marks_put c.args.items.now.items c.args.e c.in-Some.part.now c.execute_ready-done.new.self _ c.in-Some.ensures.item refl has_call
    c.args.calls.now c.mark.new.marks tt c.requires.marks
    (c.mark.ensures
    ∙ ((λ i. marked (c.is_ready.ensures i) (c.in_ok-insert.ensures.ok i) c.args.e tt) ∙ marked_then _ c.args.calls.now c.args.e))

pub returns-clause-others : goal.returns-clause-others
returns-clause-others c =
    pass_alike c.args.items.now.items c.args.e c.in-Some.part.now c.execute_ready-done.new.self _ c.in-Some.ensures.item refl has_update
    (either_way has_update (with_ready_call (here_in c.args.known.now)) c.in-Some.part.now c.execute_ready-done.new.self
    c.execute_ready-done.result (ready_same (here_in c.args.known.now) c.in-Some.part.now)
    (c.execute_ready-done.ensures.after c.args.known.now.me c.args.known.now.settings) c.execute_ready-done.ensures.err)
