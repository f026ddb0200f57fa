-- An entity crosses a boundary between two witnesses, event by event.
use Rattle.std.proofs.Common.{◌≡◌}
use Rattle.seam_node_steps.specs.Prelude.{IsQuiet, node_has_work, loaded, IsRow, empty_world}
use Rattle.seam_law_clients.specs.Prelude.{batch, steps}
use Rattle.seam_node_steps.proofs.Tables.{computing}
use Rattle.seam_node_steps.proofs.Quiet.{quiet_of}
use Rattle.seam_node_steps.proofs.Walks.{walked}
use Rattle.seam_law_clients.specs.Crossing.{world_0, world_1, world_2, world_3, world_4, world_5, world_6, world_7, world_8, world_9}

pub load : loaded empty_world batch ≡ world_0
unfolding world_0
load = simp computing

pub row : IsRow 3 1 world_0 steps
unfolding world_0 world_1 world_2 world_3 world_4 world_5 world_6 world_7 world_8 world_9
row = walked 3 1 world_0 steps (simp computing)

pub quiet : IsQuiet node_has_work world_9
unfolding world_9
quiet = quiet_of world_9 (simp computing)
