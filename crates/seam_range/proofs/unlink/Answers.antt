use Rattle.std.proofs.Common.{sym, ◌∙◌, subst, Some, None, refl}
use Rattle.seam_range.specs.Indexed.{bucket_of, IsTaken}
use Rattle.seam_range.proofs.Ranks.{none_some}
use Rattle.seam_range.proofs.Links.{linked_when_none, spot_when_moved, linked_when_moved}
use Rattle.seam_range.proofs.unlink.Goals as goal

pub returns-in_default-clause-linked : goal.returns-in_default-clause-linked
returns-in_default-clause-linked c =
    linked_when_none c.args.buckets.now c.take_key.new.buckets c.args.spots.now c.args.spots.now (bucket_of c.args.old.location)
    c.args.old.rank
    c.requires
    (subst (λ z. IsTaken c.args.buckets.now c.take_key.new.buckets z c.args.old.rank None) c.bucket_of.ensures c.in_default.ensures)

pub unreachable-requires : goal.unreachable-requires
unreachable-requires c =
    let y =
    spot_when_moved c.args.buckets.now c.take_key.new.buckets c.args.spots.now c.args.spots.now
    (bucket_of c.args.old.location) c.args.old.rank
    c.requires c.in-Some.moved
    (subst (λ z. IsTaken c.args.buckets.now c.take_key.new.buckets z c.args.old.rank (Some c.in-Some.moved)) c.bucket_of.ensures
    c.in-Some.ensures) in
    none_some y.0 (c.in_default-copied.ensures ∙ (c.get.ensures ∙ y.1))

pub returns-clause-linked : goal.returns-clause-linked
returns-clause-linked c =
    linked_when_moved c.args.buckets.now c.take_key.new.buckets c.args.spots.now c.set_spot.new.spots (bucket_of c.args.old.location)
    c.args.old.rank c.requires c.in-Some.moved c.in-Some-copied.spot
    (record { entity = c.in-Some-copied.spot.entity; location = c.in-Some-copied.spot.location; rank = c.args.old.rank })
    (subst (λ z. IsTaken c.args.buckets.now c.take_key.new.buckets z c.args.old.rank (Some c.in-Some.moved)) c.bucket_of.ensures
    c.in-Some.ensures)
    (sym (c.in-Some-copied.ensures ∙ c.get.ensures)) c.set_spot.ensures refl refl
