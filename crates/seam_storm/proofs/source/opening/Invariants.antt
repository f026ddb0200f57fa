use Rattle.std.proofs.Common.{◌≡◌, ◌++◌, ◌-◌}
use Rattle.std.specs.List.{flat_map, range_with_len}
use Rattle.seam_storm.specs.Storm.{cuts, create_line, client_line}
use Rattle.seam_storm.proofs.source.opening.Given as goal

abbrev pub invariant-loop-e : goal.invariant-loop-e
invariant-loop-e l = l.text.items ≡ cuts ++ flat_map create_line (range_with_len 1 (l.e - 1))

abbrev pub invariant-loop-e-2 : goal.invariant-loop-e-2
invariant-loop-e-2 l =
    l.text.items ≡ cuts ++ flat_map create_line (range_with_len 1 64) ++ flat_map client_line (range_with_len 1 (l.e - 1))
