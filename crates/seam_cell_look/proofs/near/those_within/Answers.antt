use Rattle.std.proofs.Common.{rules}
use Rattle.std.proofs.lemmas.Fn.{filter_same}
use Rattle.seam_range.specs.Locations.{is_within}
use Rattle.seam_cell_look.proofs.near.those_within.Goals as goal

pub returns : goal.returns
returns c =
    filter_same _ (λ x. is_within c.args.p c.args.d x.1) _ (λ x b g call. search rules) c.args.locations.items _
    c.retain.ensures.filtered
