use Rattle.std.proofs.Common.{◌∙◌, ap, eqb, sym, subst}
use Rattle.seam_view.specs.Replica.{with_version_shown}
use Rattle.std.specs.List.{IsDistinct}
use Rattle.std.specs.Map.{keys_of, lookup}
use Rattle.seam_view.proofs.Kept.{once_placed}
use Rattle.seam_view.proofs.EnterOrder.{lookup_placed}
use Rattle.seam_view.proofs.Shown.{shown_when_entered, view_of_lists}
use Rattle.seam_view.proofs.View.enter.Goals as goal

pub returns-clause-core : goal.returns-clause-core
returns-clause-core c =
    let e = c.show.ensures.entries in
    let v =
    shown_when_entered c.self.inside.view.entries c.show.new.self.entries c.self.inside.left.entries c.args.e c.args.version
    (λ q. ap (lookup (eqb q)) e ∙ lookup_placed c.args.e c.args.version q c.self.inside.view.entries) in
    (λ i. record { radius = c.self.inside.radius; hysteresis = c.self.inside.hysteresis; entries = e i; shown = v i })
    ∙ ap (λ w. with_version_shown w.core c.args.e c.args.version) c.self.view_is

pub invariant_of-self : goal.invariant_of-self
invariant_of-self c =
    view_of_lists c.self.inside.radius c.self.inside.hysteresis c.show.new.self.entries c.self.inside.left.entries
    (subst (λ xs. IsDistinct eqb (keys_of xs)) (sym c.show.ensures.entries)
    (once_placed c.args.e c.args.version c.self.inside.view.entries c.self.invariant.once))
