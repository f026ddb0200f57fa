use Rattle.std.proofs.Common.{sym, ap, subst, option_map, is_some, not, Some, ◌∙◌}
use Rattle.std.specs.FinMap as table
use Rattle.seam_entity.specs.WitnessLooks.{with_witness}
use Rattle.seam_node_steps.specs.Maps.{set_at}
use Rattle.seam_cell_parts.specs.Kept.{here_in, IsOpen}
use Rattle.seam_cell_parts.proofs.MarkLemmas.{put_again, put_back, remove_none}
use Rattle.seam_cell_cases.proofs.Lookups.{none_there}
use Rattle.seam_cell_parts.proofs.RealLemmas.{witness_marked}
use Rattle.seam_cell_cases.proofs.loads.give_witness.Goals as goal

pub returns-then-is_none-clause-after : goal.returns-then-is_none-clause-after
returns-then-is_none-clause-after c =
    let k = c.args.known.now in
    let m = c.args.reals.now.items.items in
    let none = none_there c.get.result (table.get m c.args.e) c.get.ensures.item (c.is_none.ensures ∙ ap not c.if-is_none.true) in
    sym (ap (λ o. set_at m c.args.e (option_map (with_witness (here_in k)) o)) none ∙ remove_none m c.args.e none)

pub returns-in-Err-clause-err : goal.returns-in-Err-clause-err
returns-in-Err-clause-err c =
    let m = c.args.reals.now.items.items in
    let x = c.in_ok-real.real.core in
    c.put_in.ensures.items
    ∙ (ap (λ w. table.insert w c.args.e x) c.in_ok-real.ensures.items ∙ put_back m c.args.e x c.in_ok-real.ensures.real)

pub put_in-requires-2 : goal.put_in-requires-2
put_in-requires-2 c =
    let k = c.args.known.now in
    let s = c.take_out.new.reals in
    subst (λ o. IsOpen (record { items = s.items; ready = s.ready; witnesses = c.insert.new.self }) c.args.e (is_some o))
    (sym (ap (λ x. x.witness) c.put_witness.ensures))
    (witness_marked s c.args.e (is_some c.in_ok-real.real.core.witness) c.insert.new.self c.in_ok-real.ensures.place
    c.in_default.ensures.ok)

pub returns-clause-after : goal.returns-clause-after
returns-clause-after c =
    let k = c.args.known.now in
    let m = c.args.reals.now.items.items in
    let x = c.in_ok-real.real.core in
    let given = c.put_witness.ensures ∙ ap (λ w. record x { witness = Some w }) c.in_ok-witness.ensures in
    c.put_in-2.ensures.items
    ∙ ((λ i. table.insert (c.in_ok-real.ensures.items i) c.args.e (given i))
    ∙ (put_again m c.args.e (with_witness (here_in k) x)
    ∙ ap (λ o. set_at m c.args.e (option_map (with_witness (here_in k)) o)) (sym c.in_ok-real.ensures.real)))
