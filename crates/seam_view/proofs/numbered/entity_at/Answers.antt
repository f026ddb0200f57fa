use Rattle.std.proofs.Common.{◌∙◌, ap, sym, ltb-true}
use Rattle.seam_view.proofs.ByNumber.{entity_of_slot}
use Rattle.seam_view.proofs.numbered.entity_at.Goals as goal

pub returns-in-Some : goal.returns-in-Some
returns-in-Some c =
    let lt = ltb-true _ _ (sym c.in-Some.ensures.lookup.0) in
    ap (λ s. s.entity) c.in-Some.ensures.lookup.1 ∙ sym (entity_of_slot c.args.slots.now c.args.i c.in-Some.slot.now lt)
