use Rattle.std.proofs.Common.{◌≡◌, ℕ, List, sym, ap, subst, ◌∙◌, IsPermutation}
use Rattle.seam_tree.specs.Division.{HasBoundary, NoneEmpty}
use Rattle.seam_tree.specs.Change.{with_place}
use Rattle.seam_balance.specs.Balance.{IsBest, places_divided}
use Rattle.seam_balance.proofs.Turns.{best_is_best, shift_moves}
use Rattle.seam_balance.proofs.move_to_best.Goals as goal

pub returns-clause-best : goal.returns-clause-best
returns-clause-best c =
    let same : IsPermutation (places_divided c.args.tree.now c.args.b c.args.positions.now) c.deref.result.now =
    subst (λ (xs : List ℕ). IsPermutation (places_divided c.args.tree.now c.args.b c.args.positions.now) xs) (sym c.deref.ensures.value)
    c.in_ok-places.ensures.same in
    best_is_best c.args.tree.now c.args.b c.args.shift c.args.positions.now c.deref.result.now _ _ c.best_place-best.result same
    c.allowed_range-lowest.ensures.allowed c.best_place-best.ensures.from c.best_place-best.ensures.to c.best_place-best.ensures.least
    c.best_place-best.ensures.lowest

pub returns-clause-moved : goal.returns-clause-moved
returns-clause-moved c =
    let best : IsBest c.args.tree.now c.args.b c.args.shift c.args.positions.now c.best_place-best.result = returns-clause-best c in
    let number : c.from.result ≡ c.args.b = c.from.ensures in
    let there : HasBoundary c.args.tree.now c.from.result = subst (HasBoundary c.args.tree.now) (sym number) c.requires.there in
    let none : NoneEmpty (with_place c.args.tree.now c.from.result c.best_place-best.result) =
    subst (λ (b : ℕ). NoneEmpty (with_place c.args.tree.now b c.best_place-best.result)) (sym number) best.allowed.none_empty in
    shift_moves c.shift-moved.result c.args.tree.now c.shift-moved.new.self c.from.result c.best_place-best.result
    c.shift-moved.ensures.moved c.shift-moved.ensures.no_boundary.0 c.shift-moved.ensures.would_empty.0 there none
    ∙ ap (λ (b : ℕ). with_place c.args.tree.now b c.best_place-best.result) number
