use Rattle.std.proofs.Common.{ap, ◌∙◌, ◌++◌, ◌≡◌, [], map as each}
use Rattle.std.specs.List.{filter}
use Rattle.seam_range.specs.Locations.{is_within, within}
use Rattle.seam_range.proofs.Counted.{all_within}
use Rattle.seam_range.proofs.RangeList.near_by_entity.Goals as goal

pub loop-e-init : goal.loop-e-init
loop-e-init c =
    let given : c.into_iter-e-iterator.result ≡ c.self.inside.locations.entries = c.into_iter-e-iterator.ensures.into_iter_gives.0 in
    let none : c.in_ok-found.found.items ≡ [] = c.in_ok-found.ensures.items in (
      tt,
      tt,
      ap (λ items. items ++ filter (λ e. is_within c.args.p c.args.d e.1) (each (λ r. (r.0, r.1.location)) c.into_iter-e-iterator.result))
          none
          ∙ (ap (λ es. filter (λ e. is_within c.args.p c.args.d e.1) (each (λ r. (r.0, r.1.location)) es)) given
          ∙ (all_within c.self.inside.locations c.args.p c.args.d c.self.invariant.ordered
          ∙ ap (λ m. within m c.args.p c.args.d) c.self.view_is)),
    )
