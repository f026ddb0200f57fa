use Rattle.std.proofs.Common.{◌≡◌, ◌++◌, take}
use Rattle.std.specs.List.{flat_map}
use Rattle.std.specs.Prelude.{codes}
use Rattle.seam_defs.specs.declared.flags.Part.TheVariants as part
use Rattle.seam_world_text.specs.Finding.{RoutesLeadHome}
use Rattle.seam_world_text.specs.RoundParts.{done_of}
use Rattle.seam_world_text.proofs.calls.push_did.Given as goal

abbrev pub invariant-loop-resident : goal.invariant-loop-resident
invariant-loop-resident l =
    RoutesLeadHome l.world →
    l.out.items ≡ l.initial.out.items ++ flat_map (done_of (codes "did ") l.defs part.Cell l.world) (take l.resident-index l.residents)
