use Rattle.std.proofs.Common.{ap, ◌∙◌, map}
use Rattle.std.specs.List.{filter}
use Rattle.seam_cell_seen.specs.Merging.{seen_at_location, is_other, merged}
use Rattle.seam_cell_seen.proofs.merging.joined.Goals as goal

pub returns : goal.returns
returns c =
    c.in_ok-seen.ensures
    ∙ ap (λ l. map seen_at_location (filter (is_other c.args.own) (merged c.args.reals.now l)))
    (c.deref.ensures.value ∙ c.without_reals-only_copies.ensures)
