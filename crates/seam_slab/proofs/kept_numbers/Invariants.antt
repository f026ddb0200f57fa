use Rattle.std.proofs.Common.{◌≡◌, ◌++◌, is_some}
use Rattle.std.specs.List.{filter}
use Rattle.std.specs.Map.{keys_of}
use Rattle.seam_slab.specs.Slotted.{slotted}
use Rattle.seam_slab.proofs.kept_numbers.Given as goal

abbrev pub invariant-loop-n : goal.invariant-loop-n
invariant-loop-n g l = l.numbers.items ++ keys_of (filter (λ s. is_some s.1) (slotted l.slots l.n-iterator))
    ≡ keys_of (filter (λ s. is_some s.1) (slotted l.slots l.keys.entries))
