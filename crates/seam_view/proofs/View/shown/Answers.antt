use Rattle.std.proofs.Common.{◌∙◌, ◌++◌, ap, sym, eqb}
use Rattle.std.specs.FinMap as versions
use Rattle.std.specs.Map.{lookup}
use Rattle.std.specs.Option.{option_or}
use Rattle.seam_view.specs.ViewLooks.{in_view}
use Rattle.seam_view.proofs.EnterOrder.{lookup_at}
use Rattle.seam_view.proofs.Shown.{shown_of_lookup, sought}
use Rattle.seam_view.proofs.View.shown.Goals as goal

pub shown_before-requires : goal.shown_before-requires
shown_before-requires c = ap (λ w. in_view w.core c.args.e) (sym c.self.view_is) ∙ c.in-None.ensures.none

pub returns-in-Some : goal.returns-in-Some
returns-in-Some c =
    let view = c.self.inside.view.entries in
    let left = c.self.inside.left.entries in
    let found = lookup_at view c.in-Some.field-0-0 c.args.e c.in-Some.version c.self.invariant.once c.in-Some.ensures.there in
    ap (λ o. option_or o (lookup (eqb c.args.e) left)) (sym found)
    ∙ (sym (sought c.args.e view left) ∙ (shown_of_lookup (view ++ left) c.args.e
    ∙ ap (λ w. versions.get w.core.shown c.args.e) c.self.view_is))
