use Rattle.std.proofs.Common.{Some, sym, ap, ◌∙◌}
use Rattle.seam_cell_cases.proofs.surveying.is_moot.Goals as goal

pub is_at_rest-requires-clause-inside : goal.is_at_rest-requires-clause-inside
is_at_rest-requires-clause-inside c =
    (c.requires.there c.parcel.inside.real.core (sym (ap Some c.parcel.view_is ∙ c.in-Some.ensures.item))).inside
