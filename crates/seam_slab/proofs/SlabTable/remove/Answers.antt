use Rattle.std.proofs.Common.{sym, ap, ◌∙◌, is_some, option_map, true≢false}
use Rattle.std.specs.Option.{option_flatten}
use Rattle.seam_table.specs.Tables.{without_room}
use Rattle.seam_table.proofs.TableLemmas.{room-absent}
use Rattle.seam_slab.specs.Slotted.{item_at, slotted}
use Rattle.seam_slab.proofs.Slots.{no_some, item_of, distinct_slotted, none_slotted, without_entry, agree_when_removed, lookup_removed}
use Rattle.seam_slab.proofs.Slots.{table_when_removed}
use Rattle.seam_slab.proofs.SlabTable.remove.Goals as goal

pub returns-in_default-clause-item : goal.returns-in_default-clause-item
returns-in_default-clause-item g c =
    ap (λ o. option_flatten (option_map (item_at c.self.inside.slots) o)) c.in_default.ensures.key
    ∙ item_of c.self.inside.slots c.self.inside.keys.entries c.self.view_is c.self.invariant c.args.n

pub returns-in_default-clause-after : goal.returns-in_default-clause-after
returns-in_default-clause-after g c =
    let s = c.self.inside.slots in
    let es = c.self.inside.keys.entries in
    room-absent (slotted s es) c.args.n (distinct_slotted s es c.self.invariant.distinct)
    (none_slotted s es c.args.n (sym c.in_default.ensures.key))
    ∙ ap (λ w. without_room w c.args.n) c.self.view_is

pub unreachable-requires : goal.unreachable-requires
unreachable-requires g c = no_some _ (c.in_default-swap_remove_index.ensures.entry ∙ c.in-Some.ensures.place)

pub unreachable-requires-in_default-try_remove : goal.unreachable-requires-in_default-try_remove
unreachable-requires-in_default-try_remove g c =
    true≢false (sym (c.self.invariant.kept c.args.n c.in-Some.key (sym c.in-Some.ensures.key))
    ∙ ap is_some (sym c.in_default-try_remove.ensures.value))

pub invariant_of-self-2 : goal.invariant_of-self-2
invariant_of-self-2 g c =
    let es = c.self.inside.keys.entries in
    let fs = c.swap_remove_index.new.self.entries in
    agree_when_removed es fs c.args.n
    (without_entry es fs c.find_key.new.last c.args.n c.in-Some.key c.in-Some.ensures.place c.in-Some-swap_remove_index.ensures.entry
    c.in-Some-swap_remove_index.ensures.updates.0) c.self.inside.slots c.try_remove.new.self c.self.invariant c.in-Some.key
    c.in-Some.ensures.key c.try_remove.ensures.updates c.swap_remove_index.ensures.unique

pub returns-clause-item : goal.returns-clause-item
returns-clause-item g c =
    ap option_flatten c.in-Some-try_remove.ensures.value
    ∙ (ap (λ o. option_flatten (option_map (item_at c.self.inside.slots) o)) c.in-Some.ensures.key
    ∙ item_of c.self.inside.slots c.self.inside.keys.entries c.self.view_is c.self.invariant c.args.n)

pub returns-clause-after : goal.returns-clause-after
returns-clause-after g c =
    let s = c.self.inside.slots in
    let t = c.try_remove.new.self in
    let es = c.self.inside.keys.entries in
    let fs = c.swap_remove_index.new.self.entries in
    table_when_removed (slotted s es) (slotted t fs) c.args.n (distinct_slotted s es c.self.invariant.distinct)
    (distinct_slotted t fs c.swap_remove_index.ensures.unique)
    (lookup_removed es fs c.args.n
    (without_entry es fs c.find_key.new.last c.args.n c.in-Some.key c.in-Some.ensures.place c.in-Some-swap_remove_index.ensures.entry
    c.in-Some-swap_remove_index.ensures.updates.0) s t c.self.invariant c.in-Some.key c.in-Some.ensures.key
    c.try_remove.ensures.updates)
    ∙ ap (λ w. without_room w c.args.n) c.self.view_is
