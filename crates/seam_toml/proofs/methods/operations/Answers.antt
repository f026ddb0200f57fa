use Rattle.std.proofs.Common.{◌≡◌, ◌+◌, [], drop, sym, arith}
use Rattle.std.proofs.lemmas.Grind.{common_steps}
use Rattle.toml.specs.View.{view, items_view}
use Rattle.toml.proofs.Views.{items_view-drop}
use Rattle.seam_toml.specs.Definitions.{IsOperationData}
use Rattle.seam_toml.proofs.Eaches.{one_more_item, no_more_items, all_items_read}
use Rattle.seam_toml.proofs.Soundness.{as_many_items}
use Rattle.seam_toml.proofs.methods.operations.Goals as goal

pub items-preserved : goal.items-preserved
items-preserved c =
    let xs = c.args.items.now in
    let i = c.items.value-index in
    let v = c.value-item.result in
    let step = items_view-drop xs i v c.items-test.true in
    let op = c.in-Some.operation in
    rw c.in_ok-push-in-Some.ensures.items
    (one_more_item (IsOperationData c.args.properties.now c.args.part c.args.args.now) (items_view xs) (view v)
    (items_view (drop (i + 1) xs))
    c.items.operations.items op (rw c.in-Some.is at c.in_ok-operation.ensures) (rw (step, sym c.value-item.is) at c.items.invariant))

pub returns-then-items-gt-MOST_OPERATIONS-clause-says : goal.returns-then-items-gt-MOST_OPERATIONS-clause-says
returns-then-items-gt-MOST_OPERATIONS-clause-says c ops each few =
    let same = as_many_items (IsOperationData c.args.properties.now c.args.part c.args.args.now) c.args.items.now ops each in
    let long = c.if-items-gt-MOST_OPERATIONS.true in
    absurd (omega (arith, same, long, few))

pub returns-in-None-clause-says : goal.returns-in-None-clause-says
returns-in-None-clause-says c ops each few =
    let xs = c.args.items.now in
    let i = c.items.value-index in
    let v = c.value-item.result in
    let step = items_view-drop xs i v c.items-test.true in
    no_more_items (IsOperationData c.args.properties.now c.args.part c.args.args.now) (items_view xs) (view v)
    (items_view (drop (i + 1) xs))
    c.items.operations.items (rw c.in-None.is at c.in_ok-operation.ensures) (rw (step, sym c.value-item.is) at c.items.invariant) ops each

pub returns-clause-says : goal.returns-clause-says
returns-clause-says c =
    let xs = c.args.items.now in
    let none : drop c.items.value-index xs ≡ [] = grind (arith, common_steps) in
    all_items_read (IsOperationData c.args.properties.now c.args.part c.args.args.now)
    (items_view xs) c.items.operations.items (rw none at c.items.invariant)

pub returns-clause-few : goal.returns-clause-few
returns-clause-few c =
    let each = returns-clause-says c in
    let same = as_many_items
    (IsOperationData c.args.properties.now c.args.part c.args.args.now) c.args.items.now c.items.operations.items each in
    let short = c.if-items-gt-MOST_OPERATIONS.false in
    omega (arith, same, short)
