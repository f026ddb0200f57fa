use Rattle.std.proofs.Common.{ap, ◌∙◌}
use Rattle.seam_order.specs.Offers.{next_item}
use Rattle.seam_order.proofs.HeldLemmas.{item_of_lookup}
use Rattle.seam_order.proofs.InOrder.peek.Goals as goal

pub returns : goal.returns
returns g c =
    c.get.ensures.value ∙ (item_of_lookup c.self.inside.next c.self.inside.held.entries ∙ ap next_item c.self.view_is)
