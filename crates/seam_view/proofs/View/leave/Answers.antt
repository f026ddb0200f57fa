use Rattle.std.proofs.Common.{◌∙◌, ◌++◌, ◌∷◌, [], List, ap, eqb, sym, subst}
use Rattle.std.specs.List.{IsDistinct}
use Rattle.std.specs.Map.{keys_of, lookup}
use Rattle.std.specs.Option.{option_or}
use Rattle.seam_view.specs.declared.Look.{Look}
use Rattle.seam_view.specs.declared.Look.TheVariants.{Leave}
use Rattle.seam_view.specs.Replica.{without}
use Rattle.seam_view.proofs.Shown.{sought, same_shown, view_of_lists}
use Rattle.seam_view.proofs.Together.{kept_alone, shown_together}
use Rattle.seam_view.proofs.OnceKept.{once_kept}
use Rattle.seam_view.proofs.View.leave.Goals as goal

pub invariant_of-self : goal.invariant_of-self
invariant_of-self c =
    let looks : List Look = Leave c.args.e ∷ [] in
    view_of_lists c.self.inside.radius c.self.inside.hysteresis c.take_out.new.self.entries c.take_out.new.left.entries
    (subst (λ xs. IsDistinct eqb (keys_of xs)) (sym c.take_out.ensures.kept)
    (once_kept looks c.self.inside.view.entries c.self.invariant.once))

pub returns-clause-core : goal.returns-clause-core
returns-clause-core c =
    let es = c.self.inside.view.entries in
    let ls = c.self.inside.left.entries in
    let new = c.take_out.new.self.entries in
    let left = c.take_out.new.left.entries in
    let looks : List Look = Leave c.args.e ∷ [] in
    let kept = c.take_out.ensures.kept in
    let alone = kept ∙ kept_alone c.args.e es in
    let shown =
    same_shown (es ++ ls) (new ++ left) (λ q. sought q new left
    ∙ ((λ i. option_or (lookup (eqb q) (kept i)) (c.take_out.ensures.left q i))
    ∙ (shown_together q looks es (λ x. lookup (eqb x) ls) c.self.invariant.once ∙ sym (sought q es ls)))) in
    (λ i. record { radius = c.self.inside.radius; hysteresis = c.self.inside.hysteresis; entries = alone i; shown = shown i })
    ∙ ap (λ w. record w.core { entries = without c.args.e w.core.entries }) c.self.view_is
