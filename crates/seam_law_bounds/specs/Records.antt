-- What bounds the phases of a world's next round, beside the records between rounds.
use Rattle.seam_node_steps.specs.Nodes.{World}
use Rattle.seam_law_bounds.specs.Looking.{EachSeenIsHeld}
use Rattle.seam_law_bounds.specs.Phases.{HoldsNothing}

pub record IsBounded (w : World) : Type 0 where
  -- no base part holds a call, and no client an update
  pub nothing : HoldsNothing w
  -- views name what is there
  pub sees : EachSeenIsHeld w
