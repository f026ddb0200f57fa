use Rattle.std.proofs.Common.{ap, ◌∙◌, is_some}
use Rattle.seam_order.specs.Offers.{next_item}
use Rattle.seam_order.proofs.HeldLemmas.{item_of_lookup}
use Rattle.seam_order.proofs.InOrder.is_ready.Goals as goal

pub returns : goal.returns
returns g c =
    c.contains_key.ensures
    ∙ (ap is_some (item_of_lookup c.self.inside.next c.self.inside.held.entries) ∙ ap (λ w. is_some (next_item w)) c.self.view_is)
