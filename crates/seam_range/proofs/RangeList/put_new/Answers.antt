use Rattle.std.proofs.Common.{◌≡◌, ◌++◌, ◌∷◌, [], length, sym, ap, ◌∙◌, subst, Some, None, refl, option_map}
use Rattle.std.specs.FinMap as map
use Rattle.slab.specs.Slab.{get, Updates}
use Rattle.seam_range.specs.declared.Keyed.{Keyed}
use Rattle.seam_range.specs.declared.Spot.{Spot}
use Rattle.seam_range.specs.Indexed.{bucket_of, keys_in, seen, IsBucketSet}
use Rattle.seam_range.proofs.Links.{linked_when_new, linked_again, same_set}
use Rattle.seam_range.proofs.Kept.{indexed_when_new, indexed_when_same, locations_when_put, locations_when_same, same_slots, updates_past}
use Rattle.seam_range.proofs.Kept.{same_when_back, none_of_location}
use Rattle.seam_range.proofs.RangeList.put_new.Goals as goal

pub invariant_of-self-in-Ok-push_key : goal.invariant_of-self-in-Ok-push_key
invariant_of-self-in-Ok-push_key c =
    let m = c.self.inside.locations in
    let n = c.insert.new.self in
    let s = c.self.inside.spots in
    let r = c.reserve.new.self in
    let t = c.insert_reserved.new.self in
    let b = c.self.inside.buckets in
    let d = c.push_key.new.buckets in
    let key = c.vacant_key-key.result in
    let x : Spot = record { entity = c.args.e; location = c.args.p; rank = c.in-Ok-push_key.rank } in
    let slots = same_slots s r c.reserve.ensures.rest_kept in
    let absent = none_of_location m c.args.e (ap (λ w. map.get w c.args.e) c.self.view_is ∙ c.requires) in
    let none : get s key ≡ None = sym (slots key) ∙ c.vacant_key-key.ensures.vacant in
    let u : Updates s t key (Some x) =
    updates_past s r t key (Some x) slots
    (subst (λ k. Updates r t k (Some x)) (c.insert_reserved.ensures.key ∙ sym c.vacant_key-key.ensures.value)
    c.insert_reserved.ensures.updates) in
    let set : IsBucketSet b d (bucket_of c.args.p) (keys_in b (bucket_of c.args.p) ++ key ∷ []) =
    subst (λ z. IsBucketSet b d z (keys_in b z ++ key ∷ [])) c.bucket_of.ensures c.in-Ok-push_key.ensures.after in
    let rank : x.rank ≡ length (keys_in b (bucket_of c.args.p)) =
    c.in-Ok-push_key.ensures.rank ∙ ap (λ z. length (keys_in b z)) c.bucket_of.ensures in
    indexed_when_new m n s t b d c.self.invariant (linked_when_new b d s t key x c.self.invariant.linked none u set rank)
    c.insert.ensures.ordered c.args.e key x absent none c.in-Ok.ensures.updates.0 u refl

pub returns-in-Ok-push_key-clause-after : goal.returns-in-Ok-push_key-clause-after
returns-in-Ok-push_key-clause-after c =
    locations_when_put c.self.inside.locations c.insert.new.self c.args.e (record { key = c.vacant_key-key.result; location = c.args.p })
    c.in-Ok.ensures.updates.0
    ∙ ap (λ w. map.insert w c.args.e c.args.p) c.self.view_is

pub invariant_of-self-in-Err : goal.invariant_of-self-in-Err
invariant_of-self-in-Err c =
    let m = c.self.inside.locations in
    let s = c.self.inside.spots in
    let r = c.reserve.new.self in
    let b = c.self.inside.buckets in
    let d = c.push_key.new.buckets in
    let x : Keyed = record { key = c.vacant_key-key.result; location = c.args.p } in
    let slots = same_slots s r c.reserve.ensures.rest_kept in
    let absent = none_of_location m c.args.e (ap (λ w. map.get w c.args.e) c.self.view_is ∙ c.requires) in
    indexed_when_same m c.remove.new.self s r b d c.self.invariant
    (linked_again b d s r c.self.invariant.linked (same_set b d c.bucket_of.result c.in-Err.ensures.err) slots)
    c.remove.ensures.ordered
    (same_when_back m c.insert.new.self c.remove.new.self c.args.e x absent c.in-Ok.ensures.updates.0 c.remove.ensures.updates.0)
    (λ k. ap (option_map seen) (slots k))

pub returns-in-Err-clause-err : goal.returns-in-Err-clause-err
returns-in-Err-clause-err c =
    let m = c.self.inside.locations in
    let x : Keyed = record { key = c.vacant_key-key.result; location = c.args.p } in
    let absent = none_of_location m c.args.e (ap (λ w. map.get w c.args.e) c.self.view_is ∙ c.requires) in
    locations_when_same m c.remove.new.self
    (same_when_back m c.insert.new.self c.remove.new.self c.args.e x absent c.in-Ok.ensures.updates.0 c.remove.ensures.updates.0)
    ∙ c.self.view_is
