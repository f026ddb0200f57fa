use Rattle.std.proofs.Common.{sym, subst}
use Rattle.std.specs.List.Sorted.{IsStrictlySortedBy}
use Rattle.std.specs.Ordering.{nat_cmp}
use Rattle.std.specs.FinMap as table
use Rattle.seam_cell_cases.proofs.RoundLemmas.{keys_rise}
use Rattle.seam_cell_cases.proofs.loads.all_queued.Goals as goal

pub of-requires : goal.of-requires
of-requires c =
    let m = c.args.reals.now.items.items in
    subst (IsStrictlySortedBy nat_cmp) (sym c.in_ok-all.ensures) (keys_rise (table.entries m) (table.entries_sorted m))
