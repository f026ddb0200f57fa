use Rattle.std.proofs.Common.{sym, ap, ◌∙◌, is_some, true≢false}
use Rattle.std.specs.FinSet as set
use Rattle.indexmap.specs.IndexMap.{with_value_at}
use Rattle.indexmap.proofs.CallerLemmas.{keys-with_value_at}
use Rattle.std.specs.Ordering.{nat_cmp}
use Rattle.seam_table.specs.Entries.{table_of}
use Rattle.seam_table.proofs.TableLemmas.{room-slot, distinct_at, item_at, put_at}
use Rattle.seam_table.proofs.Table.put_reserved.Goals as goal

pub unreachable-requires : goal.unreachable-requires
unreachable-requires g c =
    true≢false (sym c.requires
    ∙ (sym (ap (λ w. set.contains w.room c.args.n) c.self.view_is)
    ∙ (room-slot c.self.inside.entries.entries c.args.n ∙ ap is_some c.in_default.ensures.none)))

pub invariant_of-self : goal.invariant_of-self
invariant_of-self g c =
    distinct_at c.self.inside.entries c.self.view_is c.self.invariant c.in-Some.place c.in-Some.ensures.there
    c.pair_mut-slot.ensures.value c.replace.new.self

pub returns-clause-old : goal.returns-clause-old
returns-clause-old g c =
    c.replace.ensures.value
    ∙ item_at c.self.inside.entries c.self.view_is c.self.invariant c.in-Some.place c.in-Some.ensures.there
    c.pair_mut-slot.ensures.value

pub returns-clause-after : goal.returns-clause-after
returns-clause-after g c =
    ap (λ w. table_of (with_value_at c.self.inside.entries c.in-Some.place w).entries) c.replace.ensures.after
    ∙ put_at c.self.inside.entries c.self.view_is c.self.invariant c.in-Some.place c.in-Some.ensures.there
    c.pair_mut-slot.ensures.value c.args.item

pub returns-clause-room : goal.returns-clause-room
returns-clause-room g c =
    ap (set.from_list {R = nat_cmp}) (keys-with_value_at c.self.inside.entries c.in-Some.place c.replace.new.self)
    ∙ ap (λ w. w.room) c.self.view_is
