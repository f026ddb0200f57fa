use Rattle.std.proofs.Common.{◌∙◌, ◌++◌, sym, subst}
use Rattle.std.specs.List.{IsDistinct}
use Rattle.std.specs.Map.{keys_of}
use Rattle.std.specs.Prelude.{nat_eq}
use Rattle.std.specs.FinMap as versions
use Rattle.seam_view.proofs.Shown.{shown_of_lists, view_of_lists}
use Rattle.seam_view.proofs.View.of_lists.Goals as goal

pub invariant_of-result : goal.invariant_of-result
invariant_of-result c =
    view_of_lists c.args.radius c.args.hysteresis c.in_ok-view.view.entries c.in_ok-left.left.entries
    (subst (λ es. IsDistinct nat_eq (keys_of es)) (sym c.in_ok-view.ensures) c.requires.once)

pub returns : goal.returns
returns c =
    let shown = shown_of_lists c.args.view.now c.args.shown.now c.requires.last in
    let view = c.in_ok-view.ensures in
    let left = c.in_ok-left.ensures in
    λ i. record {
      radius = c.args.radius;
      hysteresis = c.args.hysteresis;
      entries = view i;
      shown =
          ((λ j. versions.from_entries (view j ++ left j)) ∙ shown) i;
    }
