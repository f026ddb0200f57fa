use Rattle.std.proofs.Common.{sym, ap, subst, nat_eq, ◌∙◌}
use Rattle.std.specs.List.{IsDistinct}
use Rattle.seam_table.specs.Tables.{with_each}
use Rattle.seam_table.proofs.ChangeLemmas.{table_changed}
use Rattle.seam_table.proofs.Table.change_each.Goals as goal

pub returns-clause-after : goal.returns-clause-after
returns-clause-after g c f leaves =
    table_changed f c.self.inside.entries.entries c.change_entries.new.entries.entries c.self.invariant c.change_entries.ensures.keys
    (c.change_entries.ensures.after f leaves)
    ∙ ap (with_each f) c.self.view_is

pub invariant_of-self : goal.invariant_of-self
invariant_of-self g c = subst (IsDistinct nat_eq) (sym c.change_entries.ensures.keys) c.self.invariant
