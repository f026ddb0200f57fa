use Rattle.std.proofs.Common.{◌≡◌, ◌∙◌, map, sym, ap, subst, rules}
use Rattle.std.specs.List.{filter}
use Rattle.std.specs.Map.{keys_of}
use Rattle.std.proofs.lemmas.Fn.{filter_same}
use Rattle.seam_view.specs.ByNumber.{IsByNumber, entries_of, stays}
use Rattle.seam_view.proofs.Closed.{closed_up, to_of, is_place}
use Rattle.seam_view.proofs.numbered.close_up.Goals as goal

pub returns-clause-slots : goal.returns-clause-slots
returns-clause-slots c = filter_same _ stays _ (λ x b g call. search rules) c.args.slots.now.items _ c.retain.ensures.filtered

pub returns-clause-by_number : goal.returns-clause-by_number
returns-clause-by_number c =
    let old = c.args.slots.now.items in
    let places = c.args.by_number.now.items in
    let slots : c.retain.new.self.items ≡ filter stays old =
    filter_same _ stays _ (λ x b g call. search rules) old _ c.retain.ensures.filtered in
    let moved = c.renumber.ensures.places ∙ ap (λ ss. filter is_place (map (to_of ss) places)) c.deref.ensures.value in
    subst (λ ps. IsByNumber (keys_of (entries_of c.retain.new.self.items)) ps) (sym moved)
    (subst (λ ss. IsByNumber (keys_of (entries_of ss)) (filter is_place (map (to_of old) places))) (sym slots)
    (closed_up old c.requires.order places c.requires.by_number))
