-- Who has an entity's real.
use Rattle.std.specs.Prelude.{ℕ, ◌==◌, Option, None, Some, if◌then◌else◌}
use Rattle.std.specs.FinMap as table
use Rattle.seam_net_runs.specs.Weights.{weight}
use Rattle.seam_entity.specs.Reals.{RealView}
use Rattle.seam_entity.specs.declared.message.Msg.{Msg}
use Rattle.seam_entity.specs.declared.message.Msg.TheVariants.{Hand}
use Rattle.seam_node_steps.specs.Nodes.{NodeView, World}
use Rattle.seam_node_steps.specs.Nodes.NodeView.{Cell, Base}

abbrev pub one_if_real : Option RealView → ℕ
one_if_real None = 0
one_if_real (Some r) = 1

abbrev pub held_at : ℕ → NodeView → ℕ
held_at e (Cell c) = one_if_real (table.get c.reals e)
held_at e (Base b) = 0

abbrev pub carried : ℕ → ℕ → Msg → ℕ
carried e to (Hand r b) = if r.entity == e then 1 else 0
carried e to m = 0

-- in how many cells the entity's real is, and how many Hands carry it
abbrev pub holders : World → ℕ → ℕ
holders w e = weight (held_at e) (carried e) w
