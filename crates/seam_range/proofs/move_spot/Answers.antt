use Rattle.std.proofs.Common.{◌++◌, ◌∷◌, [], length, sym, ap, ◌∙◌, subst}
use Rattle.seam_range.specs.declared.Spot.{Spot}
use Rattle.seam_range.specs.Indexed.{bucket_of, keys_in, IsBucketSet}
use Rattle.seam_range.proofs.Links.{surplus_when_moved, apart_when_tested}
use Rattle.seam_range.proofs.move_spot.Goals as goal

pub unlink-requires : goal.unlink-requires
unlink-requires c =
    let b = c.args.buckets.now in
    let d = c.push_key.new.buckets in
    let old = c.in-Some.spot in
    let x : Spot = record { entity = old.entity; location = c.args.p; rank = c.in_ok-moved.field-0 } in
    surplus_when_moved b d c.args.spots.now c.set_spot-2.new.spots c.args.key old x c.requires.linked
    (sym (c.in-Some.ensures ∙ c.get.ensures))
    c.set_spot-2.ensures
    (subst (λ z. IsBucketSet b d z (keys_in b z ++ c.args.key ∷ [])) c.bucket_of.ensures c.in_ok-moved.ensures.after)
    (c.in_ok-moved.ensures.rank ∙ ap (λ z. length (keys_in b z)) c.bucket_of.ensures)
    (apart_when_tested (bucket_of old.location) (bucket_of c.args.p) (sym c.if-are_in_one_bucket.ensures))
