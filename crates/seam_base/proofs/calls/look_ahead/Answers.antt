use Rattle.seam_entity.specs.Preparing.{node_with}
use Rattle.seam_base.specs.Parts.{part_of}
use Rattle.seam_base.proofs.PartLemmas.{text_from}
use Rattle.seam_base.proofs.calls.look_ahead.Goals as goal

pub returns-clause-text : goal.returns-clause-text
returns-clause-text c = λ me settings.
    text_from (node_with c.args.defs.now me settings) (part_of c.args.body.now) c.args.call.now c.type_at-t.result.now c.in_ok-state.state
    c.in_ok-state.changed c.is_due-due.result c.in_ok-text.text c.type_at-t.ensures.value c.in_ok-state.ensures.after
    c.in_ok-state.ensures.changed c.is_due-due.ensures c.in_ok-text.ensures
