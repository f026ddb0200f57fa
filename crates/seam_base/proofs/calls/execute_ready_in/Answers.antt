use Rattle.std.proofs.Common.{sym, ap, ◌∙◌}
use Rattle.seam_entity.specs.Preparing.{node_with}
use Rattle.seam_base.specs.Parts.{part_of, with_ready_call}
use Rattle.seam_base.proofs.PartLemmas.{ready_from}
use Rattle.seam_base.proofs.calls.execute_ready_in.Goals as goal

pub returns-clause-after : goal.returns-clause-after
returns-clause-after c = λ me settings.
    c.execute_ready_after.ensures c.in-Some.call.now (sym c.in-Some.ensures)
    ∙ (ready_from (node_with c.args.defs.now me settings) (part_of c.make_place.new.body) c.in_ok-after.after.state c.in_ok-after.after.text
    c.in-Some.call.now (sym c.in-Some.ensures) (c.in_ok-after.ensures.state me settings) (c.in_ok-after.ensures.text me settings)
    ∙ ap (with_ready_call (node_with c.args.defs.now me settings)) c.make_place.ensures.same)
