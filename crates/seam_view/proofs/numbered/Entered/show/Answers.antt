use Rattle.std.proofs.Common.{◌≡◌, ◌<◌, ◌∙◌, ◌++◌, ◌∷◌, [], ℕ, eqb, cond, length, get_or, slice_get, sym, ap, subst, arith}
use Rattle.std.specs.List.{insert, list_any}
use Rattle.std.specs.Map.{keys_of}
use Rattle.std.proofs.lemmas.List.{length-append}
use Rattle.std.proofs.lemmas.Option.{get_or_from_slice_get}
use Rattle.seam_view.specs.declared.numbered.Slot.{Slot}
use Rattle.seam_view.specs.ByNumber.{IsByNumber, entries_of}
use Rattle.seam_view.specs.Replica.{placed}
use Rattle.seam_view.proofs.ByNumber.{entity_of_slot, many_slots, not_among, same_entities_set, placed_set, placed_last}
use Rattle.seam_view.proofs.ByNumber.{entries_with_last, entities_with_last, with_one_more}
use Rattle.seam_view.proofs.numbered.Entered.show.Goals as goal

pub invariant_of-self : goal.invariant_of-self
invariant_of-self c =
    let slots = c.self.inside.slots.items in
    let found = c.index_mut.result.now in
    let s : Slot = record found { version = c.args.version } in
    subst (λ ks. IsByNumber ks c.self.inside.by_number.items)
    (sym (same_entities_set slots c.index.result.now s found (ap (λ x. x.entity) c.index_mut.ensures.value))) c.self.invariant

pub returns-in-Ok-clause-entries : goal.returns-in-Ok-clause-entries
returns-in-Ok-clause-entries c =
    let there = c.in-Ok.ensures.there in
    let slots = c.self.inside.slots.items in
    let i = c.index.result.now in
    let same : i ≡ there.0 =
    c.index.ensures ∙ get_or_from_slice_get c.self.inside.by_number.items c.in-Ok.rank there.0 i
    (ap (λ xs. slice_get xs c.in-Ok.rank) (sym c.deref-2.ensures.value) ∙ there.1) in
    let many = ap length c.deref.ensures.value in
    let below = there.2 in
    let lt : i < length slots = omega (arith, same, below, many) in
    let found = c.index_mut.result.now in
    let entity : (get_or slots i found).entity ≡ c.args.e =
    sym (entity_of_slot slots i found lt)
    ∙ ((λ j. get_or (keys_of (entries_of (sym c.deref.ensures.value j))) (same j) 0) ∙ there.3) in
    placed_set slots i c.args.version found found c.self.invariant.once lt (ap (λ x. x.entity) c.index_mut.ensures.value)
    ∙ ((λ j. placed (entity j) c.args.version (entries_of slots)) ∙ ap (λ w. placed c.args.e c.args.version w.entries) c.self.view_is)

pub push_reserved-requires : goal.push_reserved-requires
push_reserved-requires c =
    let held =
    subst (λ ps. IsByNumber (keys_of (entries_of c.deref.result.now)) ps) (sym c.deref-2.ensures.value)
    (subst (λ ss. IsByNumber (keys_of (entries_of ss)) c.self.inside.by_number.items) (sym c.deref.ensures.value) c.self.invariant) in
    let none =
    ap (λ ss. list_any (λ p. eqb c.args.e p.0) (entries_of ss)) (sym c.deref.ensures.value)
    ∙ not_among (entries_of c.deref.result.now) c.deref-2.result.now c.args.e c.in-Err.rank held c.in-Err.ensures.below
    c.in-Err.ensures.above in
    let room = c.requires.room (ap (λ w. list_any (λ p. eqb c.args.e p.0) w.entries) (sym c.self.view_is) ∙ none) in
    let is = ap (λ w. w.room) c.self.view_is in
    omega (arith, room, is)

pub insert_at-requires-clause-room : goal.insert_at-requires-clause-room
insert_at-requires-clause-room c =
    let held =
    subst (λ ps. IsByNumber (keys_of (entries_of c.deref.result.now)) ps) (sym c.deref-2.ensures.value)
    (subst (λ ss. IsByNumber (keys_of (entries_of ss)) c.self.inside.by_number.items) (sym c.deref.ensures.value) c.self.invariant) in
    let none =
    ap (λ ss. list_any (λ p. eqb c.args.e p.0) (entries_of ss)) (sym c.deref.ensures.value)
    ∙ not_among (entries_of c.deref.result.now) c.deref-2.result.now c.args.e c.in-Err.rank held c.in-Err.ensures.below
    c.in-Err.ensures.above in
    let room = c.requires.room (ap (λ w. list_any (λ p. eqb c.args.e p.0) w.entries) (sym c.self.view_is) ∙ none) in
    let is = ap (λ w. w.room) c.self.view_is in
    omega (arith, room, is)

pub invariant_of-self-in-Err : goal.invariant_of-self-in-Err
invariant_of-self-in-Err c =
    let held =
    subst (λ ps. IsByNumber (keys_of (entries_of c.deref.result.now)) ps) (sym c.deref-2.ensures.value)
    (subst (λ ss. IsByNumber (keys_of (entries_of ss)) c.self.inside.by_number.items) (sym c.deref.ensures.value) c.self.invariant) in
    let none =
    ap (λ ss. list_any (λ p. eqb c.args.e p.0) (entries_of ss)) (sym c.deref.ensures.value)
    ∙ not_among (entries_of c.deref.result.now) c.deref-2.result.now c.args.e c.in-Err.rank held c.in-Err.ensures.below
    c.in-Err.ensures.above in
    let room = c.requires.room (ap (λ w. list_any (λ p. eqb c.args.e p.0) w.entries) (sym c.self.view_is) ∙ none) in
    let is = ap (λ w. w.room) c.self.view_is in
    let slots = c.deref.result.now in
    let ks = keys_of (entries_of slots) in
    let len = c.deref.ensures.len in
    let ok = c.self.inside.slots.ok.0 in
    let many = many_slots slots in
    let few : length ks < 0xffff_ffff = omega (arith, room, is, len, ok, many) in
    let made = with_one_more ks c.deref-2.result.now c.args.e c.in-Err.rank held few c.in-Err.ensures.below c.in-Err.ensures.above in
    let last = c.len-place.ensures ∙ (sym len ∙ sym many) in
    let places = c.insert_at.ensures.items ∙ (λ j. insert (sym c.deref-2.ensures.value j) c.in-Err.rank (last j)) in
    let entities =
    ap (λ ss. keys_of (entries_of ss)) c.push_reserved.ensures.items
    ∙ (entities_with_last c.self.inside.slots.items _ ∙ ap (λ ss. keys_of (entries_of ss) ++ c.args.e ∷ []) (sym c.deref.ensures.value)) in
    subst (λ ps. IsByNumber (keys_of (entries_of c.push_reserved.new.self.items)) ps) (sym places)
    (subst (λ es. IsByNumber es (insert c.deref-2.result.now c.in-Err.rank (length ks))) (sym entities) made)

pub returns-in-Err-clause-entries : goal.returns-in-Err-clause-entries
returns-in-Err-clause-entries c =
    let held =
    subst (λ ps. IsByNumber (keys_of (entries_of c.deref.result.now)) ps) (sym c.deref-2.ensures.value)
    (subst (λ ss. IsByNumber (keys_of (entries_of ss)) c.self.inside.by_number.items) (sym c.deref.ensures.value) c.self.invariant) in
    let none =
    ap (λ ss. list_any (λ p. eqb c.args.e p.0) (entries_of ss)) (sym c.deref.ensures.value)
    ∙ not_among (entries_of c.deref.result.now) c.deref-2.result.now c.args.e c.in-Err.rank held c.in-Err.ensures.below
    c.in-Err.ensures.above in
    let slots = c.self.inside.slots.items in
    ap entries_of c.push_reserved.ensures.items
    ∙ (entries_with_last slots _
    ∙ (sym (placed_last c.args.e c.args.version (entries_of slots) none) ∙ ap (λ w. placed c.args.e c.args.version w.entries)
    c.self.view_is))

pub returns-in-Err-clause-room : goal.returns-in-Err-clause-room
returns-in-Err-clause-room c =
    let held =
    subst (λ ps. IsByNumber (keys_of (entries_of c.deref.result.now)) ps) (sym c.deref-2.ensures.value)
    (subst (λ ss. IsByNumber (keys_of (entries_of ss)) c.self.inside.by_number.items) (sym c.deref.ensures.value) c.self.invariant) in
    let none =
    ap (λ ss. list_any (λ p. eqb c.args.e p.0) (entries_of ss)) (sym c.deref.ensures.value)
    ∙ not_among (entries_of c.deref.result.now) c.deref-2.result.now c.args.e c.in-Err.rank held c.in-Err.ensures.below
    c.in-Err.ensures.above in
    let one = ap {B = ℕ} (λ b. cond b 0 1) (ap (λ w. list_any (λ p. eqb c.args.e p.0) w.entries) (sym c.self.view_is) ∙ none) in
    let is = ap (λ w. w.room) c.self.view_is in
    let slots = ap length c.push_reserved.ensures.items ∙ length-append c.self.inside.slots.items _ in
    let more = c.push_reserved.ensures in
    let last = c.insert_at.ensures in
    omega (arith, one, is, slots, more, last)
