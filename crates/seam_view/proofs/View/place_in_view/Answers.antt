use Rattle.std.proofs.Common.{◌≡◌, false, slice_get, Some, subst}
use Rattle.std.specs.Option.{IfSome, IfNone}
use Rattle.seam_view.specs.ViewLooks.{in_view}
use Rattle.seam_view.proofs.View.place_in_view.Goals as goal

pub returns-clause-there : goal.returns-clause-there
returns-clause-there c =
    subst (λ w. IfSome c.find.result (λ r. slice_get w.core.entries r.0 ≡ Some (c.args.e, r.1))) c.self.view_is c.find.ensures.there

pub returns-clause-none : goal.returns-clause-none
returns-clause-none c = subst (λ w. IfNone c.find.result (in_view w.core c.args.e ≡ false)) c.self.view_is c.find.ensures.none
