use Rattle.std.proofs.Common.{◌≡◌, ◌++◌, take}
use Rattle.std.specs.List.{flat_map}
use Rattle.std.specs.Prelude.{codes}
use Rattle.seam_defs.specs.declared.flags.Part.TheVariants as part
use Rattle.seam_world_text.specs.RoundParts.{done_of}
use Rattle.seam_world_text.proofs.calls.push_dob.Given as goal

abbrev pub invariant-loop-resident : goal.invariant-loop-resident
invariant-loop-resident l =
    l.out.items ≡ l.initial.out.items ++ flat_map (done_of (codes "dob ") l.defs part.Base l.world) (take l.resident-index l.residents)
