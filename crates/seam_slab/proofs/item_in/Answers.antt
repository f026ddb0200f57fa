use Rattle.std.proofs.Common.{ap, ◌∙◌}
use Rattle.std.specs.Option.{option_flatten}
use Rattle.seam_slab.proofs.item_in.Goals as goal

pub returns-in-Some : goal.returns-in-Some
returns-in-Some g c = c.as_ref.ensures.value ∙ ap option_flatten c.in-Some.ensures

pub returns-in-None : goal.returns-in-None
returns-in-None g c = ap option_flatten c.in-None.ensures
