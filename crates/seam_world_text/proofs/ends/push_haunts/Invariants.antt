use Rattle.std.proofs.Common.{◌≡◌, ◌++◌}
use Rattle.std.specs.List.{flat_map, range_with_len}
use Rattle.seam_rule_rounds.specs.RoundTexts.{ghost_text}
use Rattle.seam_world_text.specs.Finding.{haunt_line}
use Rattle.seam_world_text.proofs.ends.push_haunts.Given as goal

abbrev pub invariant-loop-cell : goal.invariant-loop-cell
invariant-loop-cell l =
    l.out.items ≡ l.initial.out.items ++ flat_map ghost_text (flat_map (haunt_line l.entity l.real.core) (range_with_len 0 l.cell))
