use Rattle.std.proofs.Common.{◌≡◌, ◌+◌, [], drop, sym, arith}
use Rattle.std.proofs.lemmas.Grind.{common_steps}
use Rattle.toml.specs.View.{view, items_view}
use Rattle.toml.proofs.Views.{items_view-drop}
use Rattle.seam_toml.specs.Definitions.{NamesType}
use Rattle.seam_toml.proofs.Eaches.{no_more_items, all_items_read}
use Rattle.seam_toml.proofs.bodies.types_named.Goals as goal

pub returns-in-None : goal.returns-in-None
returns-in-None c =
    let xs = c.args.items.now in
    let i = c.items.value-index in
    let v = c.value-item.result in
    let step = items_view-drop xs i v c.items-test.true in
    no_more_items NamesType (items_view xs) (view v) (items_view (drop (i + 1) xs)) c.items.types.items c.in-None.ensures
    (rw (step, sym c.value-item.is) at c.items.invariant)

pub returns : goal.returns
returns c =
    let xs = c.args.items.now in
    let none : drop c.items.value-index xs ≡ [] = grind (arith, common_steps) in
    all_items_read NamesType (items_view xs) c.items.types.items (rw none at c.items.invariant)
