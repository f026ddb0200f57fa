use Rattle.std.proofs.Common.{None, sym, ap, ◌∙◌, option_map}
use Rattle.std.specs.Option.{option_flatten}
use Rattle.seam_table.specs.Tables.{without_item}
use Rattle.seam_table.proofs.TableLemmas.{table-absent}
use Rattle.seam_slab.specs.Slotted.{item_at, slotted}
use Rattle.seam_slab.proofs.Slots.{item_of, same_room, room_when_found, none_slotted, distinct_slotted, if_some}
use Rattle.seam_slab.proofs.Slots.{written, agree_when_written, table_when_emptied}
use Rattle.seam_slab.proofs.SlabTable.take.Goals as goal

pub returns-in_default-clause-item : goal.returns-in_default-clause-item
returns-in_default-clause-item g c =
    ap (λ o. option_flatten (option_map (item_at c.self.inside.slots) o)) c.in_default.ensures.key
    ∙ item_of c.self.inside.slots c.self.inside.keys.entries c.self.view_is c.self.invariant c.args.n

pub returns-in_default-clause-after : goal.returns-in_default-clause-after
returns-in_default-clause-after g c =
    let s = c.self.inside.slots in
    let es = c.self.inside.keys.entries in
    table-absent (slotted s es) c.args.n (distinct_slotted s es c.self.invariant.distinct)
    (none_slotted s es c.args.n (sym c.in_default.ensures.key))
    ∙ ap (λ w. without_item w c.args.n) c.self.view_is

pub exchange-requires : goal.exchange-requires
exchange-requires g c = c.self.invariant.kept c.args.n c.in-Some.key (sym c.in-Some.ensures.key)

pub invariant_of-self-2 : goal.invariant_of-self-2
invariant_of-self-2 g c =
    agree_when_written c.self.inside.slots c.exchange.new.slots c.self.inside.keys.entries c.self.invariant c.args.n c.in-Some.key
    c.in-Some.ensures.key None c.exchange.ensures.after

pub returns-clause-item : goal.returns-clause-item
returns-clause-item g c =
    c.exchange.ensures.old
    ∙ (ap (λ o. option_flatten (option_map (item_at c.self.inside.slots) o)) c.in-Some.ensures.key
    ∙ item_of c.self.inside.slots c.self.inside.keys.entries c.self.view_is c.self.invariant c.args.n)

pub returns-clause-after : goal.returns-clause-after
returns-clause-after g c =
    let s = c.self.inside.slots in
    let t = c.exchange.new.slots in
    let es = c.self.inside.keys.entries in
    table_when_emptied (slotted s es) (slotted t es) c.args.n (distinct_slotted s es c.self.invariant.distinct)
    (distinct_slotted t es c.self.invariant.distinct)
    (written s t es c.self.invariant c.args.n c.in-Some.key c.in-Some.ensures.key None c.exchange.ensures.after) (same_room s t es)
    ∙ ap (λ w. without_item w c.args.n) c.self.view_is

pub returns-clause-room : goal.returns-clause-room
returns-clause-room g c =
    if_some c.exchange.result
    (room_when_found c.exchange.new.slots c.self.inside.keys.entries c.args.n c.in-Some.key c.in-Some.ensures.key)
