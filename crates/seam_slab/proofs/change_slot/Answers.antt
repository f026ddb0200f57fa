use Rattle.std.proofs.Common.{Some, option_map, sym, ap, ◌∙◌}
use Rattle.seam_slab.proofs.change_slot.Goals as goal

pub returns-in-Some : goal.returns-in-Some
returns-in-Some g c = λ f leaves. ap Some (leaves.at _ _ c.change.ensures ∙ ap f c.in-Some.item-is) ∙ ap (option_map f) (sym c.in-Some.is)
