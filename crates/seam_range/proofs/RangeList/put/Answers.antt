use Rattle.std.proofs.Common.{◌≡◌, true, is_some, option_map, sym, ap, ◌∙◌}
use Rattle.std.specs.FinMap as map
use Rattle.std.specs.Ordering.{nat_cmp}
use Rattle.std.specs.BTreeMap.{get}
use Rattle.seam_range.specs.declared.Keyed.{Keyed}
use Rattle.seam_range.specs.Indexed.{locations_of}
use Rattle.seam_range.proofs.Kept.{location_of_entity, spot_of_key, same_when_rewritten, locations_when_same, locations_when_put, on_err}
use Rattle.seam_range.proofs.Kept.{indexed_when_same, indexed_when_moved}
use Rattle.seam_range.proofs.RangeList.put.Goals as goal

pub put_new-requires : goal.put_new-requires
put_new-requires c =
    ap (λ m. map.get (locations_of m.entries) c.args.e) c.get_mut.follows.holds-at-none
    ∙ (location_of_entity c.self.inside.locations c.args.e ∙ ap (option_map (λ x. x.location)) (sym c.in_default.ensures.value))

pub move_spot-requires-clause-there : goal.move_spot-requires-clause-there
move_spot-requires-clause-there c =
    ap is_some (spot_of_key c.self.inside.locations c.self.inside.spots c.self.inside.buckets c.self.invariant c.args.e c.in-Some.keyed.now
    (sym c.in-Some.ensures.value)).1

pub invariant_of-self-in_err-move_spot : goal.invariant_of-self-in_err-move_spot
invariant_of-self-in_err-move_spot c =
    let x = c.in-Some.keyed.now in
    let there : is_some (get nat_cmp c.self.inside.locations c.args.e) ≡ true = sym (ap is_some c.in-Some.ensures.value) in
    let n = c.get_mut.follows.lender x in
    let h = c.get_mut.follows.holds x in
    indexed_when_same c.self.inside.locations n c.self.inside.spots c.move_spot.new.spots c.self.inside.buckets c.move_spot.new.buckets
    c.self.invariant c.move_spot.ensures.linked h.4
    (same_when_rewritten c.self.inside.locations n c.args.e x (sym c.in-Some.ensures.value) (h.3 there).0)
    c.in_err-move_spot.ensures.err

pub returns-in_err-move_spot-clause-err : goal.returns-in_err-move_spot-clause-err
returns-in_err-move_spot-clause-err c =
    let x = c.in-Some.keyed.now in
    let there : is_some (get nat_cmp c.self.inside.locations c.args.e) ≡ true = sym (ap is_some c.in-Some.ensures.value) in
    let n = c.get_mut.follows.lender x in
    let h = c.get_mut.follows.holds x in
    on_err c.from_residual.result
    (locations_when_same c.self.inside.locations n
    (same_when_rewritten c.self.inside.locations n c.args.e x (sym c.in-Some.ensures.value) (h.3 there).0)
    ∙ c.self.view_is)

pub invariant_of-self-2 : goal.invariant_of-self-2
invariant_of-self-2 c =
    let x = c.in-Some.keyed.now in
    let w : Keyed = record { key = x.key; location = c.args.p } in
    let there : is_some (get nat_cmp c.self.inside.locations c.args.e) ≡ true = sym (ap is_some c.in-Some.ensures.value) in
    let n = c.get_mut.follows.lender w in
    let h = c.get_mut.follows.holds w in
    indexed_when_moved c.self.inside.locations n c.self.inside.spots c.move_spot.new.spots c.self.inside.buckets c.move_spot.new.buckets
    c.self.invariant c.move_spot.ensures.linked h.4 c.args.e x (sym c.in-Some.ensures.value) c.args.p c.in_ok-move_spot.ensures.ok
    (h.3 there).0

pub returns-clause-after : goal.returns-clause-after
returns-clause-after c =
    let w : Keyed = record { key = c.in-Some.keyed.now.key; location = c.args.p } in
    let there : is_some (get nat_cmp c.self.inside.locations c.args.e) ≡ true = sym (ap is_some c.in-Some.ensures.value) in
    locations_when_put c.self.inside.locations (c.get_mut.follows.lender w) c.args.e w ((c.get_mut.follows.holds w).3 there).0
    ∙ ap (λ m. map.insert m c.args.e c.args.p) c.self.view_is
