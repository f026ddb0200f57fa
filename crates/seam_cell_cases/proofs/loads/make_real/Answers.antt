use Rattle.std.proofs.Common.{sym, ap, subst, is_some, ◌∙◌}
use Rattle.std.specs.FinMap as table
use Rattle.seam_cell_parts.specs.Kept.{IsOpen}
use Rattle.seam_cell_cases.proofs.loads.make_real.Goals as goal

pub put_in-requires : goal.put_in-requires
put_in-requires c =
    let k = c.args.known.now in
    subst (λ o. IsOpen c.make_room.new.reals c.args.create.entity (is_some o))
    (sym (ap (λ x. x.witness) (c.in_ok-real.ensures k.me k.settings))) c.in_ok-make_room.ensures.place

pub returns-clause-after : goal.returns-clause-after
returns-clause-after c =
    let k = c.args.known.now in
    c.put_in.ensures.items
    ∙ (λ i. table.insert (c.make_room.ensures.items i) c.args.create.entity (c.in_ok-real.ensures k.me k.settings i))
