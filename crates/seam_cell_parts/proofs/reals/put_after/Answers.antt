use Rattle.std.proofs.Common.{sym, ap, subst, option_map, ◌∙◌}
use Rattle.seam_node_steps.specs.Maps.{set_at}
use Rattle.seam_cell_parts.specs.Kept.{IsOpenFor}
use Rattle.seam_cell_parts.specs.Stepping.{core_of}
use Rattle.seam_cell_parts.proofs.MarkLemmas.{remove_none}
use Rattle.seam_cell_parts.proofs.reals.put_after.Goals as goal

pub returns-in-None-clause-items : goal.returns-in-None-clause-items
returns-in-None-clause-items c =
    let m = c.args.reals.now.items.items in
    let place = subst (λ o. IsOpenFor c.args.reals.now c.args.e (option_map core_of o)) c.in-None.is c.requires in
    c.close.ensures.items
    ∙ sym (ap (λ o. set_at m c.args.e (option_map core_of o)) c.in-None.is ∙ remove_none m c.args.e place.1.gone)
