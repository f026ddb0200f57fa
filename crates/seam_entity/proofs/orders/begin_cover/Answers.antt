use Rattle.seam_entity.proofs.CoverLemmas.{any_covers}
use Rattle.seam_entity.proofs.orders.begin_cover.Goals as goal

pub returns : goal.returns
returns c = any_covers c.new_cover.result _ (c.holds_none.ensures c.if-not-holds_none.false)
