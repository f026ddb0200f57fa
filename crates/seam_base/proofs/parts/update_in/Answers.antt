use Rattle.std.proofs.Common.{if◌then◌else◌, ap, refl, sym, ◌∙◌}
use Rattle.std.specs.FinMap as table
use Rattle.seam_node_steps.specs.BaseCases.{stray_update}
use Rattle.seam_base.specs.Nodes.{has_call, has_update}
use Rattle.seam_base.specs.Parts.{changed_at, with_update}
use Rattle.seam_base.specs.Marks.{passes}
use Rattle.seam_base.proofs.Marks.{unchanged, changed_none, pass_alike}
use Rattle.seam_base.proofs.PartLemmas.{on_err, either_way}
use Rattle.seam_base.proofs.parts.update_in.Goals as goal

pub returns-in_default-clause-after : goal.returns-in_default-clause-after
returns-in_default-clause-after c =
    let m = c.args.items.now.items in
    let e = c.args.update.now.entity in
    sym (changed_none m e (with_update c.args.update.now) c.in_default.ensures.item)
    ∙ ap (λ o. if (stray_update c.args.update.now o) then m else changed_at (with_update c.args.update.now) m e) c.in_default.ensures.item

pub returns-then-refuses-clause-after : goal.returns-then-refuses-clause-after
returns-then-refuses-clause-after c =
    let m = c.args.items.now.items in
    let e = c.args.update.now.entity in
    unchanged m e c.in-Some.part.now c.in-Some.part.now _ c.in-Some.ensures.item refl refl
    ∙ ap (λ b. if b then m else changed_at (with_update c.args.update.now) m e)
    (c.if-refuses.ensures ∙ ap (stray_update c.args.update.now) c.in-Some.ensures.item)

pub returns-then-refuses-clause-marks : goal.returns-then-refuses-clause-marks
returns-then-refuses-clause-marks c =
    let stays = unchanged c.args.items.now.items c.args.update.now.entity c.in-Some.part.now c.in-Some.part.now _ c.in-Some.ensures.item
    refl refl in
    λ q. c.requires.marks q ∙ ap (λ n. passes has_update (table.get n q)) (sym stays)

pub returns-then-refuses-clause-others : goal.returns-then-refuses-clause-others
returns-then-refuses-clause-others c =
    let stays = unchanged c.args.items.now.items c.args.update.now.entity c.in-Some.part.now c.in-Some.part.now _ c.in-Some.ensures.item
    refl refl in
    λ q. ap (λ n. passes has_call (table.get n q)) stays

pub returns-clause-err : goal.returns-clause-err
returns-clause-err c = on_err c.update_part.result
    (unchanged c.args.items.now.items c.args.update.now.entity c.in-Some.part.now c.update_part.new.part _ c.in-Some.ensures.item refl)
    c.update_part.ensures.err

pub returns-clause-others : goal.returns-clause-others
returns-clause-others c =
    pass_alike c.args.items.now.items c.args.update.now.entity c.in-Some.part.now c.update_part.new.part _ c.in-Some.ensures.item refl
    has_call
    (either_way has_call (with_update c.args.update.now) c.in-Some.part.now c.update_part.new.part c.update_part.result refl
    c.update_part.ensures.after c.update_part.ensures.err)
