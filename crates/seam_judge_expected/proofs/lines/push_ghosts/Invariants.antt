use Rattle.std.proofs.Common.{◌≡◌, ◌++◌, map}
use Rattle.std.specs.Prelude.{filter}
use Rattle.std.specs.List.{range_with_len}
use Rattle.std.specs.FinSet as set
use Rattle.seam_judge_expected.proofs.lines.push_ghosts.Given as goal

abbrev pub invariant-loop-cell : goal.invariant-loop-cell
invariant-loop-cell l = l.ghosts.items ≡ l.initial.ghosts.items
    ++ map (λ x. record { entity = l.entity; cell = x; version = l.version })
    (filter (λ x. set.contains l.cells x) (range_with_len 0 l.cell))
