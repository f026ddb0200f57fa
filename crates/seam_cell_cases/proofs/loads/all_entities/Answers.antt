use Rattle.std.proofs.Common.{◌∙◌}
use Rattle.std.proofs.lemmas.List.{take_all}
use Rattle.seam_cell_cases.proofs.loads.all_entities.Goals as goal

pub returns : goal.returns
returns c =
    c.loop-e.invariant
    ∙ (take_all c.loop-e.e-index c.deref-e-items.result.now c.loop-e-test.false
    ∙ (c.deref-e-items.ensures.value ∙ c.in_ok-entities.ensures))
