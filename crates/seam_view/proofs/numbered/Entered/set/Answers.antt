use Rattle.std.proofs.Common.{◌≡◌, ◌<◌, ◌∙◌, ℕ, Some, length, get_or, slice_get, sym, ap, subst, arith}
use Rattle.std.specs.Map.{keys_of}
use Rattle.std.specs.Option.{option_map}
use Rattle.std.proofs.lemmas.Option.{get_or_from_slice_get, slice_get-map, slice_get_within}
use Rattle.seam_view.specs.declared.numbered.Slot.{Slot}
use Rattle.seam_view.specs.ByNumber.{IsByNumber, entries_of}
use Rattle.seam_view.specs.Replica.{placed}
use Rattle.seam_view.proofs.ByNumber.{entity_of_slot, many_slots, same_entities_set, placed_set}
use Rattle.seam_view.proofs.numbered.Entered.set.Goals as goal

pub invariant_of-self : goal.invariant_of-self
invariant_of-self c =
    let slots = c.self.inside.slots.items in
    let found = c.index_mut.result.now in
    let s : Slot = record found { version = c.args.version } in
    subst (λ ks. IsByNumber ks c.self.inside.by_number.items)
    (sym (same_entities_set slots c.in-Some.i s found (ap (λ x. x.entity) c.index_mut.ensures.value))) c.self.invariant

pub returns-clause-entries : goal.returns-clause-entries
returns-clause-entries c =
    let slots = c.self.inside.slots.items in
    let i = c.in-Some.i in
    let e = c.args.e in
    let found = c.index_mut.result.now in
    let there : slice_get (entries_of slots) i ≡ Some (e, c.in-Some.field-0-1) =
    ap (λ w. slice_get w.entries i) c.self.view_is ∙ c.in-Some.ensures.there in
    let named : slice_get (keys_of (entries_of slots)) i ≡ Some e =
    slice_get-map (λ p. p.0) (entries_of slots) i ∙ ap (option_map (λ p. p.0)) there in
    let many = many_slots slots in
    let lt : i < length slots = omega (arith, slice_get_within (keys_of (entries_of slots)) i e named, many) in
    let entity : (get_or slots i found).entity ≡ e =
    sym (entity_of_slot slots i found lt) ∙ get_or_from_slice_get (keys_of (entries_of slots)) i e 0 named in
    placed_set slots i c.args.version found found c.self.invariant.once lt (ap (λ x. x.entity) c.index_mut.ensures.value)
    ∙ ((λ j. placed (entity j) c.args.version (entries_of slots)) ∙ ap (λ w. placed e c.args.version w.entries) c.self.view_is)
