use Rattle.std.proofs.Common.{◌∙◌, ◌++◌, ap, sym, subst, eqb}
use Rattle.std.specs.FinMap as versions
use Rattle.std.specs.List.{IsDistinct}
use Rattle.std.specs.Map.{keys_of, lookup}
use Rattle.std.specs.Option.{option_or}
use Rattle.seam_view.proofs.Shown.{sought, same_shown, view_of_lists}
use Rattle.seam_view.proofs.View.reserve.Goals as goal

pub returns-clause-same : goal.returns-clause-same
returns-clause-same c =
    let es = c.self.inside.view.entries in
    let ls = c.self.inside.left.entries in
    let view = c.reserve.ensures.same in
    let left = c.reserve-2.new.self.entries in
    let shown =
    same_shown (es ++ ls) (es ++ left) (λ q. sought q es left ∙ (ap (option_or (lookup (eqb q) es)) (c.reserve-2.ensures.same q)
    ∙ sym (sought q es ls))) in
    (λ i. record {
      radius = c.self.inside.radius;
      hysteresis = c.self.inside.hysteresis;
      entries = view i;
      shown = ((λ j. versions.from_entries (view j ++ left)) ∙ shown) i;
    })
    ∙ ap (λ w. w.core) c.self.view_is

pub invariant_of-self-2 : goal.invariant_of-self-2
invariant_of-self-2 c =
    view_of_lists c.self.inside.radius c.self.inside.hysteresis c.reserve.new.self.entries c.reserve-2.new.self.entries
    (subst (λ es. IsDistinct eqb (keys_of es)) (sym c.reserve.ensures.same) c.self.invariant.once)
