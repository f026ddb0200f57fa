use Rattle.std.proofs.Common.{not, is_some, rules}
use Rattle.std.proofs.lemmas.Fn.{filter_same}
use Rattle.std.specs.FinMap as table
use Rattle.seam_cell_seen.proofs.merging.without_reals.Goals as goal

pub returns : goal.returns
returns c =
    filter_same _ (λ x. not (is_some (table.get c.args.reals.now.items x.0))) _ (λ x b g call. search rules) c.args.entities.items _
    c.retain.ensures.filtered
