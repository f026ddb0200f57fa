use Rattle.std.proofs.Common.{sym, ap, ◌∙◌, is_some, option_map}
use Rattle.std.specs.Option.{option_flatten}
use Rattle.seam_slab.specs.Slotted.{item_at}
use Rattle.seam_slab.proofs.Slots.{item_of, room_of, if_some}
use Rattle.seam_slab.proofs.SlabTable.get.Goals as goal

pub returns-in-Some-clause-item : goal.returns-in-Some-clause-item
returns-in-Some-clause-item g c =
    c.item_in.ensures
    ∙ (ap (λ o. option_flatten (option_map (item_at c.self.inside.slots) o)) c.in-Some.ensures.value
    ∙ item_of c.self.inside.slots c.self.inside.keys.entries c.self.view_is c.self.invariant c.args.n)

pub returns-in-Some-clause-room : goal.returns-in-Some-clause-room
returns-in-Some-clause-room g c =
    if_some c.item_in.result
    (sym (room_of c.self.inside.slots c.self.inside.keys.entries c.self.view_is c.args.n) ∙ ap is_some (sym c.in-Some.ensures.value))

pub returns-in-None-clause-item : goal.returns-in-None-clause-item
returns-in-None-clause-item g c =
    ap (λ o. option_flatten (option_map (item_at c.self.inside.slots) o)) c.in-None.ensures.value
    ∙ item_of c.self.inside.slots c.self.inside.keys.entries c.self.view_is c.self.invariant c.args.n
