use Rattle.std.proofs.Common.{◌≡◌, ◌++◌, take}
use Rattle.seam_world_text.specs.RoundParts.{lines_text}
use Rattle.seam_world_text.proofs.farewells.push_all.Given as goal

abbrev pub invariant-loop-line : goal.invariant-loop-line
invariant-loop-line l = l.out.items ≡ l.initial.out.items ++ lines_text l.defs l.made (take l.line-index l.lines)
