use Rattle.std.proofs.Common.{◌++◌, ◌∙◌, ap, sym}
use Rattle.seam_machine.proofs.Flats.{flat-push}
use Rattle.seam_machine.proofs.nets.flattened.Goals as goal

pub loop-row-preserved : goal.loop-row-preserved
loop-row-preserved g c =
    c.in_ok-pour.ensures ∙ (ap (λ l. l ++ c.in-Some.row) c.loop-row.invariant ∙ sym (flat-push c.loop-row.yielded c.in-Some.row))
