use Rattle.std.proofs.Common.{◌≡◌, ◌<◌, true, is_some, [], length, sym, ap, ◌∙◌, subst, Some, None, arith}
use Rattle.std.specs.Option.{option_map_or}
use Rattle.std.specs.BTreeMap.{get}
use Rattle.seam_range.specs.Indexed.{by_bucket, keys_in, IsSwapped}
use Rattle.seam_range.proofs.Links.{number_is, set_when_written, set_again, taken_when_set}
use Rattle.seam_range.proofs.Sorted.{no_length}
use Rattle.seam_range.proofs.take_key.Goals as goal

pub unreachable-requires : goal.unreachable-requires
unreachable-requires c =
    let none : keys_in c.args.buckets.now c.args.bucket ≡ [] =
    ap (λ o. option_map_or (λ v. v.items) o []) (sym c.in_default.ensures.value) in
    let lt = subst (λ ks. c.args.rank < length ks) none c.requires in
    omega (arith, lt)

pub swap_out-moved-requires : goal.swap_out-moved-requires
swap_out-moved-requires c =
    subst (λ ks. c.args.rank < length ks) (ap (λ o. option_map_or (λ v. v.items) o []) (sym c.in-Some.ensures.value)) c.requires

pub returns-then-not-is_empty : goal.returns-then-not-is_empty
returns-then-not-is_empty c =
    let there : is_some (get by_bucket c.args.buckets.now c.args.bucket) ≡ true = sym (ap is_some c.in-Some.ensures.value) in
    let w = c.swap_out-moved.new.keys in
    taken_when_set c.args.buckets.now (c.get_mut.follows.lender w) c.args.bucket w.items c.args.rank c.swap_out-moved.result
    (set_when_written c.args.buckets.now (c.get_mut.follows.lender w) c.args.bucket (Some w) ((c.get_mut.follows.holds w).3 there).0)
    (subst (λ ks. IsSwapped ks w.items c.args.rank c.swap_out-moved.result)
    (ap (λ o. option_map_or (λ v. v.items) o []) c.in-Some.ensures.value) c.swap_out-moved.ensures)

pub returns : goal.returns
returns c =
    let m = c.args.buckets.now in
    let there : is_some (get by_bucket m c.args.bucket) ≡ true = sym (ap is_some c.in-Some.ensures.value) in
    let w = c.swap_out-moved.new.keys in
    let n = c.get_mut.follows.lender w in
    let empty : w.items ≡ [] =
    no_length w.items (sym (number_is w.len 0 (sym c.is_empty.ensures ∙ c.if-not-is_empty.false) ∙ w.ok.0)) in
    taken_when_set m c.remove.new.self c.args.bucket [] c.args.rank c.swap_out-moved.result
    (set_again m n c.remove.new.self c.args.bucket w.items []
    (set_when_written m n c.args.bucket (Some w) ((c.get_mut.follows.holds w).3 there).0)
    (set_when_written n c.remove.new.self c.args.bucket None c.remove.ensures.updates.0))
    (subst (λ ls. IsSwapped (keys_in m c.args.bucket) ls c.args.rank c.swap_out-moved.result) empty
    (subst (λ ks. IsSwapped ks w.items c.args.rank c.swap_out-moved.result)
    (ap (λ o. option_map_or (λ v. v.items) o []) c.in-Some.ensures.value) c.swap_out-moved.ensures))
