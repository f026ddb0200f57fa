use Rattle.std.proofs.Common.{◌≡◌, ◌++◌, take}
use Rattle.std.specs.List.{flat_map}
use Rattle.seam_world_text.specs.RoundParts.{base_of}
use Rattle.seam_world_text.proofs.ends.push_bases.Given as goal

abbrev pub invariant-loop-resident : goal.invariant-loop-resident
invariant-loop-resident l =
    l.out.items ≡ l.initial.out.items ++ flat_map (base_of l.defs l.world) (take l.resident-index l.residents)
