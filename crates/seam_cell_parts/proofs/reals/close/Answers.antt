use Rattle.std.proofs.Common.{ap, ◌∙◌}
use Rattle.seam_cell_parts.proofs.MarkLemmas.{remove_none}
use Rattle.seam_cell_parts.proofs.RealLemmas.{is_closed}
use Rattle.seam_cell_parts.proofs.reals.close.Goals as goal

pub returns-clause-items : goal.returns-clause-items
returns-clause-items c = ap (λ w. w.items) c.remove.ensures.after ∙ remove_none c.args.reals.now.items.items c.args.e c.requires

pub returns-clause-kept : goal.returns-clause-kept
returns-clause-kept c witness place =
    is_closed c.args.reals.now (record { items = c.remove.new.self; ready = c.remove-2.new.self; witnesses = c.remove-3.new.self })
    c.args.e witness place
    (ap (λ w. w.items) c.remove.ensures.after ∙ remove_none c.args.reals.now.items.items c.args.e c.requires) c.remove-2.ensures
    c.remove-3.ensures
