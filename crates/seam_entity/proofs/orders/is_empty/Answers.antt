use Rattle.std.proofs.Common.{ap, sym, ◌∙◌, option_map}
use Rattle.seam_entity.proofs.CoverLemmas.{nothing_held}
use Rattle.seam_entity.proofs.orders.is_empty.Goals as goal

pub returns-in-None : goal.returns-in-None
returns-in-None c = λ t. nothing_held c.args.order.now.held (sym (ap (option_map _) c.in-None.is) ∙ c.held_at.ensures)
