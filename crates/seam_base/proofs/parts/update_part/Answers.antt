use Rattle.std.proofs.Common.{is_some, ap, refl, sym, ◌∙◌}
use Rattle.std.specs.FinMap as table
use Rattle.seam_base.specs.Nodes.{has_update}
use Rattle.seam_base.specs.Parts.{with_update}
use Rattle.seam_base.specs.Marks.{marked}
use Rattle.seam_base.proofs.Marks.{pass_alike, marks_put, marked_then}
use Rattle.seam_base.proofs.PartLemmas.{either_way}
use Rattle.seam_base.proofs.parts.update_part.Goals as goal

pub returns-then-stays_as_ready-clause-marks : goal.returns-then-stays_as_ready-clause-marks
returns-then-stays_as_ready-clause-marks c = λ parts at are e. are e
    ∙ sym (pass_alike parts c.args.update.now.entity c.args.part.now c.offer_update.new.self _ at refl has_update
    (either_way has_update (with_update c.args.update.now) c.args.part.now c.offer_update.new.self c.offer_update.result
    (c.stays_as_ready.ensures.0 c.if-stays_as_ready.true) c.offer_update.ensures.after c.offer_update.ensures.err) e)

pub returns-in_err-insert-clause-marks : goal.returns-in_err-insert-clause-marks
returns-in_err-insert-clause-marks c = λ parts at are e. ap (λ m. is_some (table.get m e)) c.in_err-insert.ensures.err ∙ are e
    ∙ sym (pass_alike parts c.args.update.now.entity c.args.part.now c.args.part.now _ at refl has_update refl e)

pub returns-clause-marks : goal.returns-clause-marks
returns-clause-marks c = λ parts at are. marks_put parts c.args.update.now.entity c.args.part.now c.offer_update-done.new.self _ at refl
    has_update
    c.args.updates.now c.mark.new.marks tt are
    (c.mark.ensures
    ∙ ((λ i. marked (c.is_client_ready.ensures i) (c.in_ok-insert.ensures.ok i) c.args.update.now.entity tt)
    ∙ marked_then _ c.args.updates.now c.args.update.now.entity))
