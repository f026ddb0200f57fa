use Rattle.std.proofs.Common.{◌++◌, [], ◌∷◌, get_or, ap, ◌∙◌}
use Rattle.std.specs.FinMap as map
use Rattle.seam_cell_parts.specs.Spots.{location_of_real}
use Rattle.seam_cell_parts.proofs.SpotLemmas.{find_real, never_missing, located_more, all_located}
use Rattle.seam_cell_parts.proofs.real_table.locations_of.Goals as goal

pub unreachable-requires : goal.unreachable-requires
unreachable-requires c =
    let m = c.args.items.now.items in
    let ns = c.deref-e-items.result.now in
    let are = c.deref-e-items.ensures.value ∙ c.in_ok-entities.ensures in
    let i = c.loop-e.e-index in
    never_missing location_of_real (map.entries m) (map.entries_sorted m) ns are i c.loop-e-test.true (c.in_default.ensures.item
    ∙ find_real m (get_or ns i 0))

pub loop-e-preserved : goal.loop-e-preserved
loop-e-preserved c =
    let m = c.args.items.now.items in
    let ns = c.deref-e-items.result.now in
    let are = c.deref-e-items.ensures.value ∙ c.in_ok-entities.ensures in
    let i = c.loop-e.e-index in
    located_more location_of_real (map.entries m)
    (map.entries_sorted m) ns are i c.loop-e-test.true c.in-Some.parcel.now c.loop-e.locations.items
    c.push.new.self.items
    (c.in-Some.ensures.item ∙ find_real m (get_or ns i 0)) c.loop-e.invariant
    (c.in_ok-push.ensures.items
    ∙ ap (λ p. c.loop-e.locations.items ++ (get_or ns i 0, p) ∷ []) (c.location_of.ensures ∙ ap location_of_real c.parcel.view_is))

pub returns : goal.returns
returns c =
    let m = c.args.items.now.items in
    let ns = c.deref-e-items.result.now in
    let are = c.deref-e-items.ensures.value ∙ c.in_ok-entities.ensures in
    let i = c.loop-e.e-index in
    all_located location_of_real (map.entries m)
    (map.entries_sorted m) ns are i c.loop-e.locations.items c.loop-e-test.false c.loop-e.invariant
