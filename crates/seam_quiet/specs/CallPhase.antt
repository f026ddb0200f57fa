-- The first phase of a round, and where it begins.
use Rattle.std.specs.Prelude.{◌≡◌}
use Rattle.seam_node_steps.specs.Prelude.{IsQuiet, Batch, World, node_has_work, loaded}
use Rattle.seam_core.specs.Worlds.{Leads}
use Rattle.seam_quiet.specs.declared.round.Called.{Called}

-- where a round begins: a world, and the batch that it is given
pub record Beginning : Type 0 where
  pub world : World
  pub batch : Batch

-- The calls of the batch b ended, from the world w on: its events left it quiet, and the batch's destroys are yet to die.
pub record HasCalled (w : World) (b : Batch) (c : Called) : Type 0 where
  pub leads : Leads (loaded w b) c.events c.world
  pub quiet : IsQuiet node_has_work c.world
  pub destroys : c.destroys ≡ b.destroys
