use Rattle.std.proofs.Common.{refl, sym}
use Rattle.seam_node_steps.specs.Prelude.{standard, node_with, with_proxy}
use Rattle.seam_base.specs.Nodes.{has_call, has_update}
use Rattle.seam_base.proofs.Marks.{changed, unchanged, pass_alike, changed_none}
use Rattle.seam_base.proofs.PartLemmas.{on_ok, on_err, either_way, attached_call, attached_update}
use Rattle.seam_base.proofs.parts.attach_in.Goals as goal

pub returns-in_default-clause-after : goal.returns-in_default-clause-after
returns-in_default-clause-after c = λ me settings. sym (changed_none c.args.items.now.items c.args.e
    (with_proxy (node_with c.args.defs.now me settings)) c.in_default.ensures.item)

pub returns-clause-after : goal.returns-clause-after
returns-clause-after c = λ me settings. on_ok c.attach-done.result
    (changed c.args.items.now.items c.args.e c.in-Some.part.now c.attach-done.new.self _ c.in-Some.ensures.item refl
    (with_proxy (node_with c.args.defs.now me settings))) (c.attach-done.ensures.after me settings)

pub returns-clause-err : goal.returns-clause-err
returns-clause-err c = on_err c.attach-done.result
    (unchanged c.args.items.now.items c.args.e c.in-Some.part.now c.attach-done.new.self _ c.in-Some.ensures.item refl)
    c.attach-done.ensures.err

pub returns-clause-calls : goal.returns-clause-calls
returns-clause-calls c =
    pass_alike c.args.items.now.items c.args.e c.in-Some.part.now c.attach-done.new.self _ c.in-Some.ensures.item refl has_call
    (either_way has_call (with_proxy (node_with c.args.defs.now 0 standard)) c.in-Some.part.now c.attach-done.new.self c.attach-done.result
    (attached_call (node_with c.args.defs.now 0 standard) c.in-Some.part.now) (c.attach-done.ensures.after 0 standard)
    c.attach-done.ensures.err)

pub returns-clause-updates : goal.returns-clause-updates
returns-clause-updates c =
    pass_alike c.args.items.now.items c.args.e c.in-Some.part.now c.attach-done.new.self _ c.in-Some.ensures.item refl has_update
    (either_way has_update (with_proxy (node_with c.args.defs.now 0 standard)) c.in-Some.part.now c.attach-done.new.self
    c.attach-done.result
    (attached_update (node_with c.args.defs.now 0 standard) c.in-Some.part.now _ c.in-Some.ensures.item c.requires)
    (c.attach-done.ensures.after 0 standard) c.attach-done.ensures.err)
