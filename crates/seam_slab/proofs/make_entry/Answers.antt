use Rattle.std.proofs.Common.{rules, ◌≡◌, None, Some, is_some, refl, sym, ap, ◌∙◌, subst}
use Rattle.std.specs.Prelude.{unwrap_or}
use Rattle.slab.specs.Slab.{get, Updates}
use Rattle.seam_table.specs.Entries.{Writes}
use Rattle.seam_slab.specs.Slotted.{slotted, IsSlotted}
use Rattle.seam_slab.proofs.Slots.{none_is, slotted_with_room, agree_with_room, updates_past_room, vacant_past_room, none_slotted}
use Rattle.seam_slab.proofs.Slots.{none_when_vacant, found_when_another, found_as_before, agree_as_before, written_as_before}
use Rattle.seam_slab.proofs.Slots.{agree_when_made, made}
use Rattle.seam_slab.proofs.make_entry.Goals as goal

pub returns-in_default-clause-slotted : goal.returns-in_default-clause-slotted
returns-in_default-clause-slotted g c =
    agree_with_room c.args.slots.now c.reserve.new.self (ap (λ s. s.slots) c.reserve.ensures.rest_kept) c.args.keys.now.entries c.requires

pub returns-in_default-clause-err : goal.returns-in_default-clause-err
returns-in_default-clause-err g c =
    slotted_with_room c.args.slots.now c.reserve.new.self (ap (λ s. s.slots) c.reserve.ensures.rest_kept) c.args.keys.now.entries

pub returns-in_default-clause-absent : goal.returns-in_default-clause-absent
returns-in_default-clause-absent g c = none_is _ (sym c.contains_key.ensures ∙ c.if-contains_key.false)

pub returns-then-contains_key-clause-slotted : goal.returns-then-contains_key-clause-slotted
returns-then-contains_key-clause-slotted g c =
    agree_with_room c.args.slots.now c.reserve.new.self (ap (λ s. s.slots) c.reserve.ensures.rest_kept) c.args.keys.now.entries c.requires

pub returns-then-contains_key-clause-ok : goal.returns-then-contains_key-clause-ok
returns-then-contains_key-clause-ok g c =
    written_as_before c.args.slots.now c.reserve.new.self (ap (λ s. s.slots) c.reserve.ensures.rest_kept) c.args.keys.now.entries
    c.args.keys.now.entries c.args.n (sym c.contains_key.ensures ∙ c.if-contains_key.true) (λ q. refl)

pub returns-in_err-key-clause-slotted : goal.returns-in_err-key-clause-slotted
returns-in_err-key-clause-slotted g c =
    subst (λ es. IsSlotted es c.reserve.new.self) (sym c.in_err-key.ensures.err)
    (agree_with_room c.args.slots.now c.reserve.new.self (ap (λ s. s.slots) c.reserve.ensures.rest_kept) c.args.keys.now.entries
    c.requires)

pub returns-in_err-key-clause-err : goal.returns-in_err-key-clause-err
returns-in_err-key-clause-err g c =
    let same : slotted c.reserve.new.self c.entry_key.new.keys.entries ≡ slotted c.args.slots.now c.args.keys.now.entries =
    ap (slotted c.reserve.new.self) c.in_err-key.ensures.err
    ∙ slotted_with_room c.args.slots.now c.reserve.new.self (ap (λ s. s.slots) c.reserve.ensures.rest_kept) c.args.keys.now.entries in
    search (rules, same)

pub returns-then-key-vacant-clause-slotted : goal.returns-then-key-vacant-clause-slotted
returns-then-key-vacant-clause-slotted g c =
    let s = c.args.slots.now in
    let r = c.reserve.new.self in
    let t = c.insert_reserved.new.self in
    let es = c.args.keys.now.entries in
    let same = ap (λ x. x.slots) c.reserve.ensures.rest_kept in
    let vacant = c.vacant_key-vacant.result in
    let key = c.in_ok-key.key in
    let is : key ≡ vacant = c.if-key-vacant.true in
    let free = vacant_past_room s r same key (ap (get r) is ∙ c.vacant_key-vacant.ensures.vacant) in
    let u : Updates r t key (Some None) =
    subst (λ k. Updates r t k (Some None))
    (c.insert_reserved.ensures.key ∙ (sym c.vacant_key-vacant.ensures.value ∙ sym is)) c.insert_reserved.ensures.updates in
    agree_when_made s t es c.entry_key.new.keys.entries c.requires c.args.n key free (updates_past_room s r same t key (Some None) u)
    c.in_ok-key.ensures.after.0 (c.entry_key.ensures.unique c.requires.distinct)

pub returns-then-key-vacant-clause-ok : goal.returns-then-key-vacant-clause-ok
returns-then-key-vacant-clause-ok g c =
    let s = c.args.slots.now in
    let r = c.reserve.new.self in
    let t = c.insert_reserved.new.self in
    let es = c.args.keys.now.entries in
    let fs = c.entry_key.new.keys.entries in
    let same = ap (λ x. x.slots) c.reserve.ensures.rest_kept in
    let vacant = c.vacant_key-vacant.result in
    let key = c.in_ok-key.key in
    let is : key ≡ vacant = c.if-key-vacant.true in
    let free = vacant_past_room s r same vacant c.vacant_key-vacant.ensures.vacant in
    let u : Updates r t key (Some None) =
    subst (λ k. Updates r t k (Some None))
    (c.insert_reserved.ensures.key ∙ (sym c.vacant_key-vacant.ensures.value ∙ sym is)) c.insert_reserved.ensures.updates in
    let none = none_when_vacant s es c.args.n vacant key c.in_ok-key.ensures.value c.requires free is in
    subst (λ o. Writes c.args.n (unwrap_or o None) (slotted s es) (slotted t fs)) (sym (none_slotted s es c.args.n none))
    (made s t es fs c.requires c.args.n key (ap (get s) is ∙ free) (updates_past_room s r same t key (Some None) u)
    c.in_ok-key.ensures.after.0)

pub returns-else-key-vacant-clause-slotted : goal.returns-else-key-vacant-clause-slotted
returns-else-key-vacant-clause-slotted g c =
    let s = c.args.slots.now in
    let es = c.args.keys.now.entries in
    let fs = c.entry_key.new.keys.entries in
    let found = found_when_another s es c.args.n c.vacant_key-vacant.result c.in_ok-key.key c.in_ok-key.ensures.value c.if-key-vacant.false
    in
    agree_as_before s c.reserve.new.self (ap (λ x. x.slots) c.reserve.ensures.rest_kept) es fs c.args.n (ap is_some found)
    (found_as_before es fs c.args.n c.in_ok-key.key found c.in_ok-key.ensures.after.0) c.requires
    (c.entry_key.ensures.unique c.requires.distinct)

pub returns-else-key-vacant-clause-ok : goal.returns-else-key-vacant-clause-ok
returns-else-key-vacant-clause-ok g c =
    let s = c.args.slots.now in
    let es = c.args.keys.now.entries in
    let fs = c.entry_key.new.keys.entries in
    let found = found_when_another s es c.args.n c.vacant_key-vacant.result c.in_ok-key.key c.in_ok-key.ensures.value c.if-key-vacant.false
    in
    written_as_before s c.reserve.new.self (ap (λ x. x.slots) c.reserve.ensures.rest_kept) es fs c.args.n (ap is_some found)
    (found_as_before es fs c.args.n c.in_ok-key.key found c.in_ok-key.ensures.after.0)
