use Rattle.std.proofs.Common.{sym, subst}
use Rattle.seam_core.specs.Worlds.{IsWorld}
use Rattle.seam_core.proofs.Loading.{are_numbered, world_looks}
use Rattle.seam_core.proofs.world.World.load_look.Goals as goal

pub give-requires : goal.give-requires
give-requires c = are_numbered c.self.inside.net c.self.invariant

pub invariant_of-result : goal.invariant_of-result
invariant_of-result c = subst IsWorld (sym c.in_ok-give.ensures) (world_looks c.self.inside.net c.self.invariant)
