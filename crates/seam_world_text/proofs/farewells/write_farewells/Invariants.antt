use Rattle.std.proofs.Common.{take}
use Rattle.seam_world_text.specs.Farewells.{AreOf}
use Rattle.seam_world_text.proofs.farewells.write_farewells.Given as goal

abbrev pub invariant-loop-e : goal.invariant-loop-e
invariant-loop-e l = AreOf l.round.defs.now l.called l.residents (take l.e-index l.destroys) l.kept.items
