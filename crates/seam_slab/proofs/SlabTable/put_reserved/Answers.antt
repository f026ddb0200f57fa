use Rattle.std.proofs.Common.{Some, sym, ap, ◌∙◌, is_some, option_map, true≢false}
use Rattle.std.specs.Option.{option_flatten}
use Rattle.seam_table.specs.Tables.{with_item}
use Rattle.seam_table.proofs.TableLemmas.{table-written}
use Rattle.seam_slab.specs.Slotted.{item_at, slotted}
use Rattle.seam_slab.proofs.Slots.{item_of, room_of, same_room, distinct_slotted, written, agree_when_written}
use Rattle.seam_slab.proofs.SlabTable.put_reserved.Goals as goal

pub unreachable-requires : goal.unreachable-requires
unreachable-requires g c =
    true≢false (sym c.requires
    ∙ (sym (room_of c.self.inside.slots c.self.inside.keys.entries c.self.view_is c.args.n) ∙ ap is_some (sym c.in_default.ensures.key)))

pub exchange-requires : goal.exchange-requires
exchange-requires g c = c.self.invariant.kept c.args.n c.in-Some.key (sym c.in-Some.ensures.key)

pub invariant_of-self : goal.invariant_of-self
invariant_of-self g c =
    agree_when_written c.self.inside.slots c.exchange.new.slots c.self.inside.keys.entries c.self.invariant c.args.n c.in-Some.key
    c.in-Some.ensures.key (Some c.args.item) c.exchange.ensures.after

pub returns-clause-old : goal.returns-clause-old
returns-clause-old g c =
    c.exchange.ensures.old
    ∙ (ap (λ o. option_flatten (option_map (item_at c.self.inside.slots) o)) c.in-Some.ensures.key
    ∙ item_of c.self.inside.slots c.self.inside.keys.entries c.self.view_is c.self.invariant c.args.n)

pub returns-clause-after : goal.returns-clause-after
returns-clause-after g c =
    let s = c.self.inside.slots in
    let t = c.exchange.new.slots in
    let es = c.self.inside.keys.entries in
    table-written (slotted s es) (slotted t es) (distinct_slotted s es c.self.invariant.distinct)
    (distinct_slotted t es c.self.invariant.distinct) c.args.n c.args.item
    (written s t es c.self.invariant c.args.n c.in-Some.key c.in-Some.ensures.key (Some c.args.item) c.exchange.ensures.after)
    ∙ ap (λ w. with_item w c.args.n c.args.item) c.self.view_is

pub returns-clause-room : goal.returns-clause-room
returns-clause-room g c =
    same_room c.self.inside.slots c.exchange.new.slots c.self.inside.keys.entries ∙ ap (λ w. w.room) c.self.view_is
