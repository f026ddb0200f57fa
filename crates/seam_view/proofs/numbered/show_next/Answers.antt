use Rattle.std.proofs.Common.{rules, ◌≡◌, ◌<◌, ◌-◌, ◌∙◌, ◌++◌, ◌∷◌, [], ℕ, List, drop, get_or, length, sym, ap, subst}
use Rattle.std.specs.List.{AllWithin}
use Rattle.std.specs.Map.{keys_of}
use Rattle.seam_view.specs.declared.numbered.Slot.{Slot}
use Rattle.seam_view.specs.ByNumber.{IsByNumber, entries_of}
use Rattle.seam_view.specs.Passing.{places_of}
use Rattle.seam_view.proofs.ByNumber.{rising_at, placed_last, entries_with_last, entities_with_last}
use Rattle.seam_view.proofs.Passing.{below_by_last, not_in_slots, one_between}
use Rattle.seam_view.proofs.numbered.show_next.Goals as goal

pub returns-clause-by_number : goal.returns-clause-by_number
returns-clause-by_number c =
    let slots = c.args.slots.now.items in
    let e = c.args.seen.now.entity in
    let all = c.args.passing.now in
    let mid = c.pass_below.new.self in
    let f : List Slot → ℕ → ℕ = λ ss i. get_or (keys_of (entries_of ss)) i 0 in
    let last : 0 < length all.passed.items → f slots (get_or all.passed.items (length all.passed.items - 1) 0) < e = search rules in
    let first =
    below_by_last (f slots) e all.passed.items all.all.items all.next (rising_at (f slots) (places_of all) c.requires.by_number.rising)
    last in
    let value = c.deref-else-not-is_last_below.ensures.value in
    let below =
    subst (λ ss. AllWithin (λ i. f ss i < e) (places_of mid) 0 (length mid.passed.items)) value
    (c.pass_below.ensures.below (subst (λ ss. AllWithin (λ i. f ss i < e) (places_of all) 0 (length all.passed.items)) (sym value)
    first)) in
    let next : mid.next < length mid.all.items → e < f slots (get_or mid.all.items mid.next 0) = search rules in
    let held = subst (IsByNumber (keys_of (entries_of slots))) (sym c.pass_below.ensures.same) c.requires.by_number in
    let len : length slots ≡ c.len-place.result = search rules in
    let few : length slots < 0xffff_ffff = search rules in
    let made = one_between slots e mid.passed.items mid.all.items mid.next held below next few in
    let places =
    ap (λ xs. xs ++ drop mid.next mid.all.items) c.push_reserved-2.ensures.items
    ∙ ap (λ n. (mid.passed.items ++ n ∷ []) ++ drop mid.next mid.all.items) (sym len) in
    let entities = ap (λ ss. keys_of (entries_of ss)) c.push_reserved.ensures.items ∙ entities_with_last slots _ in
    subst (λ ps. IsByNumber (keys_of (entries_of c.push_reserved.new.self.items)) ps) (sym places)
    (subst (λ es. IsByNumber es ((mid.passed.items ++ length slots ∷ []) ++ drop mid.next mid.all.items)) (sym entities) made)

pub returns-clause-shown : goal.returns-clause-shown
returns-clause-shown c =
    let slots = c.args.slots.now.items in
    let e = c.args.seen.now.entity in
    let all = c.args.passing.now in
    let mid = c.pass_below.new.self in
    let f : List Slot → ℕ → ℕ = λ ss i. get_or (keys_of (entries_of ss)) i 0 in
    let last : 0 < length all.passed.items → f slots (get_or all.passed.items (length all.passed.items - 1) 0) < e = search rules in
    let first =
    below_by_last (f slots) e all.passed.items all.all.items all.next (rising_at (f slots) (places_of all) c.requires.by_number.rising)
    last in
    let value = c.deref-else-not-is_last_below.ensures.value in
    let below =
    subst (λ ss. AllWithin (λ i. f ss i < e) (places_of mid) 0 (length mid.passed.items)) value
    (c.pass_below.ensures.below (subst (λ ss. AllWithin (λ i. f ss i < e) (places_of all) 0 (length all.passed.items)) (sym value)
    first)) in
    let next : mid.next < length mid.all.items → e < f slots (get_or mid.all.items mid.next 0) = search rules in
    let held = subst (IsByNumber (keys_of (entries_of slots))) (sym c.pass_below.ensures.same) c.requires.by_number in
    let none = not_in_slots slots e mid.passed.items mid.all.items mid.next held below next in
    ap entries_of c.push_reserved.ensures.items
    ∙ (entries_with_last slots _ ∙ sym (placed_last e c.args.seen.now.version (entries_of slots) none))
