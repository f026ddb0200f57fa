use Rattle.std.proofs.Common.{◌∙◌, ap, cond, eqb, sym, subst, ℕ, arith}
use Rattle.std.specs.List.{IsDistinct}
use Rattle.std.specs.Map.{keys_of, lookup}
use Rattle.seam_view.specs.ViewLooks.{in_view}
use Rattle.seam_view.specs.Replica.{with_version_shown}
use Rattle.seam_view.proofs.Kept.{once_placed}
use Rattle.seam_view.proofs.EnterOrder.{lookup_placed}
use Rattle.seam_view.proofs.Shown.{shown_when_entered, view_of_lists}
use Rattle.seam_view.proofs.View.set.Goals as goal

pub set-requires : goal.set-requires
set-requires c =
    let there = ap (λ w. in_view w.core c.args.e) c.self.view_is ∙ c.requires in
    there

pub invariant_of-self : goal.invariant_of-self
invariant_of-self c =
    view_of_lists c.self.inside.radius c.self.inside.hysteresis c.set.new.self.entries c.self.inside.left.entries
    (subst (λ xs. IsDistinct eqb (keys_of xs)) (sym c.set.ensures.entries)
    (once_placed c.args.e c.args.version c.self.inside.view.entries c.self.invariant.once))

pub returns-clause-core : goal.returns-clause-core
returns-clause-core c =
    let es = c.self.inside.view.entries in
    let left = c.self.inside.left.entries in
    let placed = c.set.ensures.entries in
    let shown =
    shown_when_entered es c.set.new.self.entries left c.args.e c.args.version
    (λ q. ap (lookup (eqb q)) placed ∙ lookup_placed c.args.e c.args.version q es) in
    (λ j. record { radius = c.self.inside.radius; hysteresis = c.self.inside.hysteresis; entries = placed j; shown = shown j })
    ∙ ap (λ w. with_version_shown w.core c.args.e c.args.version) c.self.view_is

pub returns-clause-enters : goal.returns-clause-enters
returns-clause-enters c =
    let there = ap (λ w. in_view w.core c.args.e) c.self.view_is ∙ c.requires in
    let none = ap {B = ℕ} (λ b. cond b 0 1) there in
    let is = ap (λ w. w.enters) c.self.view_is in
    let room = c.set.ensures.room in
    omega (arith, none, is, room)
