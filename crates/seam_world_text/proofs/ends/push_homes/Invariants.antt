use Rattle.std.proofs.Common.{◌≡◌, ◌++◌, take}
use Rattle.std.specs.List.{flat_map}
use Rattle.seam_world_text.specs.Finding.{RoutesLeadHome}
use Rattle.seam_world_text.specs.RoundParts.{home_of, ghosts_of}
use Rattle.seam_world_text.proofs.ends.push_homes.Given as goal

abbrev pub invariant-loop-resident : goal.invariant-loop-resident
invariant-loop-resident l = record {
  homes : RoutesLeadHome l.world →
      l.out.items ≡ l.initial.out.items ++ flat_map (home_of l.defs l.world) (take l.resident-index l.residents);
  ghosts : RoutesLeadHome l.world →
      l.ghosts.items ≡ l.initial.ghosts.items ++ flat_map (ghosts_of l.world) (take l.resident-index l.residents);
}
