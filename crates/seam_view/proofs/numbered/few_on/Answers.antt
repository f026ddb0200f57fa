use Rattle.std.proofs.Common.{◌<◌, ◌∙◌, length, arith}
use Rattle.seam_view.proofs.ByNumber.{entity_of_slot}
use Rattle.seam_view.proofs.numbered.few_on.Goals as goal

pub returns-then-slots-i : goal.returns-then-slots-i
returns-then-slots-i c =
    let slots = c.args.slots.now in
    let lt : c.loop-i.i < length slots = omega (arith, c.loop-i-test.true, c.min-end.ensures) in
    (lt, entity_of_slot slots c.loop-i.i (record { entity = 0; to = 0; version = 0 }) lt ∙ c.if-slots-i.true)
