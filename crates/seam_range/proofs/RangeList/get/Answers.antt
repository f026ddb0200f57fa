use Rattle.std.proofs.Common.{sym, ap, ◌∙◌, option_map}
use Rattle.std.specs.FinMap as map
use Rattle.seam_range.proofs.Kept.{location_of_entity}
use Rattle.seam_range.proofs.RangeList.get.Goals as goal

pub returns-in-Some : goal.returns-in-Some
returns-in-Some c =
    ap (option_map (λ x. x.location)) c.in-Some.ensures.value
    ∙ (sym (location_of_entity c.self.inside.locations c.args.e) ∙ ap (λ m. map.get m c.args.e) c.self.view_is)

pub returns-in-None : goal.returns-in-None
returns-in-None c =
    ap (option_map (λ x. x.location)) c.in-None.ensures.value
    ∙ (sym (location_of_entity c.self.inside.locations c.args.e) ∙ ap (λ m. map.get m c.args.e) c.self.view_is)
