use Rattle.std.proofs.Common.{◌<◌, get_or}
use Rattle.std.specs.List.{AllWithin}
use Rattle.std.specs.Map.{keys_of}
use Rattle.seam_view.specs.ByNumber.{entries_of}
use Rattle.seam_view.proofs.numbered.few_below.Given as goal

abbrev pub invariant-loop-rank : goal.invariant-loop-rank
invariant-loop-rank l = AllWithin (λ i. get_or (keys_of (entries_of l.slots)) i 0 < l.e) l.by_number 0 l.rank
