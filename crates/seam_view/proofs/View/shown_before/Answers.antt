use Rattle.std.proofs.Common.{◌≡◌, ◌∙◌, ◌++◌, ap, sym, [], eqb}
use Rattle.std.specs.FinMap as versions
use Rattle.std.specs.Map.{lookup}
use Rattle.std.specs.Option.{option_or}
use Rattle.seam_view.specs.ViewLooks.{in_view}
use Rattle.seam_view.proofs.Shown.{shown_of_lookup, sought, not_in_view}
use Rattle.seam_view.proofs.View.shown_before.Goals as goal

pub returns : goal.returns
returns c =
    let view = c.self.inside.view.entries in
    let left = c.self.inside.left.entries in
    let e = c.args.e in
    c.get.ensures
    ∙ (ap (λ o. option_or o (lookup (eqb e) left)) (sym (not_in_view e view (ap (λ w. in_view w.core e) c.self.view_is ∙ c.requires)))
    ∙ (sym (sought e view left) ∙ (shown_of_lookup (view ++ left) e ∙ ap (λ w. versions.get w.core.shown e) c.self.view_is)))

pub returns-then-is_empty : goal.returns-then-is_empty
returns-then-is_empty c =
    let view = c.self.inside.view.entries in
    let left = c.self.inside.left.entries in
    let e = c.args.e in
    let none : left ≡ [] = c.is_empty.ensures c.if-is_empty.true in
    ap (λ ls. lookup (eqb e) ls) (sym none)
    ∙ (ap (λ o. option_or o (lookup (eqb e) left)) (sym (not_in_view e view (ap (λ w. in_view w.core e) c.self.view_is ∙ c.requires)))
    ∙ (sym (sought e view left) ∙ (shown_of_lookup (view ++ left) e ∙ ap (λ w. versions.get w.core.shown e) c.self.view_is)))
