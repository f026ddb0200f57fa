use Rattle.std.proofs.Common.{◌≡◌, ◌++◌, take}
use Rattle.std.specs.List.{All, flat_map}
use Rattle.seam_report.specs.Spelled.{Versions, GoesBy}
use Rattle.seam_world_text.specs.RoundParts.{shown_of}
use Rattle.seam_world_text.specs.Told.{ShowOf, told_by}
use Rattle.seam_world_text.proofs.ends.push_clients.Given as goal

abbrev pub invariant-loop-resident : goal.invariant-loop-resident
invariant-loop-resident l = record {
  types : l.spellings.defs ≡ l.defs;
  told : (vs : Versions) → All (λ r. ShowOf vs (told_by l.kept l.world r)) l.residents → GoesBy vs l.spellings
      × (l.out.items ≡ l.initial.out.items ++ flat_map (shown_of l.defs l.kept l.world) (take l.resident-index l.residents));
}
