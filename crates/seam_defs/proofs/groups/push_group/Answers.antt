use Rattle.std.proofs.Common.{◌∙◌, sym}
use Rattle.std.proofs.lemmas.List.{append-nil}
use Rattle.seam_defs.specs.Remaining.{properties_left, values_left}
use Rattle.seam_defs.proofs.PropertyPlaces.{zip-done}
use Rattle.seam_defs.proofs.groups.push_group.Goals as goal

pub returns-clause-ok : goal.returns-clause-ok
returns-clause-ok c =
    let last = c.loop-property.property-iterator in
    let done = zip-done (properties_left last.a) (values_left last.b) c.in-None.ensures.steps in
    let text = rw done at c.loop-property.invariant.text in
    sym (append-nil c.loop-property.out.items) ∙ text
