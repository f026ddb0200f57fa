use Rattle.std.proofs.Common.{sym, ap, ◌∙◌}
use Rattle.std.specs.FinMap as map
use Rattle.std.specs.Option.{option_flatten}
use Rattle.indexmap.specs.IndexMap.{with_value_at}
use Rattle.seam_table.specs.Tables.{without_item}
use Rattle.seam_table.specs.Entries.{table_of}
use Rattle.seam_table.proofs.TableLemmas.{item-slot, table-absent, distinct_at, item_at, emptied_at, room_at}
use Rattle.seam_table.proofs.Table.take.Goals as goal

pub returns-in_err-place-clause-item : goal.returns-in_err-place-clause-item
returns-in_err-place-clause-item g c =
    c.from_residual.ensures
    ∙ sym (ap option_flatten c.in_err-place.ensures.none)
    ∙ sym (item-slot c.self.inside.entries.entries c.args.n c.self.invariant)
    ∙ ap (λ w. map.get w.items c.args.n) c.self.view_is

pub returns-in_err-place-clause-after : goal.returns-in_err-place-clause-after
returns-in_err-place-clause-after g c =
    table-absent c.self.inside.entries.entries c.args.n c.self.invariant c.in_err-place.ensures.none
    ∙ ap (λ w. without_item w c.args.n) c.self.view_is

pub invariant_of-self-2 : goal.invariant_of-self-2
invariant_of-self-2 g c =
    distinct_at c.self.inside.entries c.self.view_is c.self.invariant c.in_ok-place.place c.in_ok-place.ensures.there
    c.pair_mut-slot.ensures.value c.take.new.self

pub returns-clause-item : goal.returns-clause-item
returns-clause-item g c =
    c.take.ensures.value
    ∙ item_at c.self.inside.entries c.self.view_is c.self.invariant c.in_ok-place.place c.in_ok-place.ensures.there
    c.pair_mut-slot.ensures.value

pub returns-clause-after : goal.returns-clause-after
returns-clause-after g c =
    ap (λ w. table_of (with_value_at c.self.inside.entries c.in_ok-place.place w).entries) c.take.ensures.after
    ∙ emptied_at c.self.inside.entries c.self.view_is c.self.invariant c.in_ok-place.place c.in_ok-place.ensures.there
    c.pair_mut-slot.ensures.value

pub returns-clause-room : goal.returns-clause-room
returns-clause-room g c =
    room_at c.self.inside.entries c.self.view_is c.self.invariant c.in_ok-place.place c.in_ok-place.ensures.there
    c.pair_mut-slot.ensures.value c.take.new.self c.take.result
