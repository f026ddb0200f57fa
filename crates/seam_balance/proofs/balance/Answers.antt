use Rattle.std.proofs.Common.{◌≡◌, ◌+◌, ℕ, take, get_or, refl, ◌∙◌, arith}
use Rattle.std.proofs.lemmas.Grind.{take_at_read}
use Rattle.seam_tree.specs.Division.{HasBoundary}
use Rattle.seam_tree.specs.Change.{as_it_was}
use Rattle.seam_balance.specs.Order.{boundaries_from_root}
use Rattle.seam_balance.proofs.Turns.{TurnsDone, order_has, same_cuts_refl, turns_more}
use Rattle.seam_balance.proofs.balance.Goals as goal

pub loop-b-init : goal.loop-b-init
loop-b-init c = record { chosen = refl; tree = c.in_ok-order.ensures.tree; came = as_it_was; cuts = same_cuts_refl c.args.tree.now }

pub move_to_best-requires-clause-there : goal.move_to_best-requires-clause-there
move_to_best-requires-clause-there c =
    order_has c.args.tree.now c.loop-b.balanced c.deref-b-items.result.now c.loop-b.b-index (c.deref-b-items.ensures.value
    ∙ c.in_ok-order.ensures.order) c.loop-b.invariant.cuts.cells (omega arith)

pub loop-b-preserved : goal.loop-b-preserved
loop-b-preserved c =
    let order_is : c.deref-b-items.result.now ≡ boundaries_from_root c.args.tree.now =
    c.deref-b-items.ensures.value ∙ c.in_ok-order.ensures.order in
    let b : ℕ = get_or c.deref-b-items.result.now c.loop-b.b-index 0 in
    let there : HasBoundary c.loop-b.balanced b =
    order_has c.args.tree.now c.loop-b.balanced c.deref-b-items.result.now c.loop-b.b-index order_is c.loop-b.invariant.cuts.cells
    (omega arith) in
    let was : TurnsDone c.args.positions.now c.args.shift c.args.tree.now (take c.loop-b.b-index c.deref-b-items.result.now)
    c.loop-b.balanced = record {
      chosen = c.loop-b.invariant.chosen;
      tree = c.loop-b.invariant.tree;
      came = c.loop-b.invariant.came;
      cuts = c.loop-b.invariant.cuts;
    } in
    let now : TurnsDone c.args.positions.now c.args.shift c.args.tree.now (take (c.loop-b.b-index + 1) c.deref-b-items.result.now)
    c.move_to_best.new.tree =
    turns_more c.args.positions.now c.args.shift c.args.tree.now c.loop-b.balanced c.move_to_best.new.tree _ _ b
    c.in_ok-move_to_best.field-0 was there c.in_ok-move_to_best.ensures.best c.in_ok-move_to_best.ensures.moved
    c.in_ok-move_to_best.ensures.tree (take_at_read c.deref-b-items.result.now c.loop-b.b-index 0 (omega arith)).1 in
    record { chosen = now.chosen; tree = now.tree; came = now.came; cuts = now.cuts }
