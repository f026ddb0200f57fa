use Rattle.std.proofs.Common.{◌≡◌, ◌++◌, is_some}
use Rattle.std.specs.List.{filter}
use Rattle.std.specs.Map.{keys_of}
use Rattle.seam_table.proofs.kept_numbers.Given as goal

abbrev pub invariant-loop-n : goal.invariant-loop-n
invariant-loop-n g l = l.numbers.items ++ keys_of (filter (λ s. is_some s.1) l.n-iterator)
    ≡ keys_of (filter (λ s. is_some s.1) l.entries.entries)
