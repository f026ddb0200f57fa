use Rattle.std.proofs.Common.{◌≡◌, ◌++◌, ◌∷◌, [], cond, sym, ap, ◌∙◌, Some}
use Rattle.std.specs.Option.{option_map_or}
use Rattle.seam_range.specs.Indexed.{same_bucket, keys_in}
use Rattle.seam_range.proofs.Links.{set_when_written}
use Rattle.seam_range.proofs.push_key.Goals as goal

pub returns-in-Ok-clause-after : goal.returns-in-Ok-clause-after
returns-in-Ok-clause-after c b =
    let none : keys_in c.args.buckets.now c.args.bucket ≡ [] =
    ap (λ o. option_map_or (λ v. v.items) o []) (sym c.in_default.ensures.value) in
    let items : c.push-2.new.self.items ≡ keys_in c.args.buckets.now c.args.bucket ++ c.args.key ∷ [] =
    c.in_ok-push-2.ensures.items ∙ (λ i. (c.new-keys.ensures.items ∙ sym none) i ++ c.args.key ∷ []) in
    set_when_written c.get_mut.follows.lender-at-none c.insert.new.self c.args.bucket (Some c.push-2.new.self) c.in-Ok.ensures.updates.0 b
    ∙ (λ i. cond (same_bucket c.args.bucket b) (items i) (keys_in (c.get_mut.follows.holds-at-none i) b))
