use Rattle.std.proofs.Common.{ap, ◌∙◌, is_some}
use Rattle.seam_order.specs.Held.{item_at}
use Rattle.seam_order.proofs.HeldLemmas.{item_of_lookup}
use Rattle.seam_order.proofs.InOrder.holds.Goals as goal

pub returns : goal.returns
returns g c =
    c.contains_key.ensures
    ∙ (ap is_some (item_of_lookup c.args.n c.self.inside.held.entries) ∙ ap (λ w. is_some (item_at c.args.n w.held)) c.self.view_is)
