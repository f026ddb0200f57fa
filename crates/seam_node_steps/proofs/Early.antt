-- "An early call is held", event by event, and "Passing on".
use Rattle.std.proofs.Common.{◌≡◌, [], ◌∷◌, Some}
use Rattle.seam_node_steps.specs.Prelude.{IsQuiet, node_has_work, loaded, IsRow, empty_world, done_in_cell, steps, the_move, hit_1, hit_2}
use Rattle.seam_node_steps.proofs.Tables.{computing}
use Rattle.seam_node_steps.proofs.Quiet.{quiet_of}
use Rattle.seam_node_steps.proofs.Walks.{walked}
use Rattle.seam_node_steps.specs.EarlyCall.{batch, world_0, world_1, world_2, world_3, world_4, world_5, world_6, world_7, world_8, world_9}
use Rattle.seam_node_steps.specs.EarlyCall.{world_10, world_11, world_12, passing_2, passing_3, passing_4, passing_5, passing_6, passing_7}
use Rattle.seam_node_steps.specs.EarlyCall.{passing_8, passing_9, passing_10, passing_11, passing_steps}

pub load : loaded empty_world batch ≡ world_0
unfolding world_0
load = simp computing

pub row : IsRow 1 1 world_0 steps
unfolding world_0 world_1 world_2 world_3 world_4 world_5 world_6 world_7 world_8 world_9 world_10 world_11 world_12
row = walked 1 1 world_0 steps (simp computing)

pub quiet : IsQuiet node_has_work world_12
unfolding world_12
quiet = quiet_of world_12 (simp computing)

pub done : done_in_cell world_12 1 1 ≡ Some (the_move ∷ hit_1 ∷ hit_2 ∷ [])
unfolding world_12
done = simp computing

pub passing_done : done_in_cell passing_11 1 1 ≡ Some (hit_1 ∷ the_move ∷ hit_2 ∷ [])
unfolding passing_11
passing_done = simp computing

pub passing_row : IsRow 1 1 world_0 passing_steps
unfolding world_0 world_1 passing_2 passing_3 passing_4 passing_5 passing_6 passing_7 passing_8 passing_9 passing_10 passing_11
passing_row = walked 1 1 world_0 passing_steps (simp computing)

pub passing_quiet : IsQuiet node_has_work passing_11
unfolding passing_11
passing_quiet = quiet_of passing_11 (simp computing)

-- what each row's contract says
pub ruleset early_call = (load, row, quiet, done)

pub ruleset passed_call = (load, passing_row, passing_quiet, passing_done)
