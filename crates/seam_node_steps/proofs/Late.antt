-- "A late ghost message", event by event, and the reap after it.
use Rattle.std.proofs.Common.{◌≡◌, [], ◌∷◌, Some, None, refl}
use Rattle.seam_node_steps.specs.Prelude.{IsQuiet, node_has_work, loaded, reaps_loaded, IsRow, empty_world, copy_at, done_in_cell}
use Rattle.seam_node_steps.specs.Prelude.{copy_in_cell, batch, move_1, move_2}
use Rattle.seam_node_steps.proofs.Tables.{computing}
use Rattle.seam_node_steps.proofs.Quiet.{quiet_of}
use Rattle.seam_node_steps.proofs.Walks.{walked}
use Rattle.seam_node_steps.specs.LateGhost.{world_0, world_1, world_2, world_3, world_4, world_5, world_6, world_7, world_8, world_9}
use Rattle.seam_node_steps.specs.LateGhost.{world_10, world_11, world_12, world_13, world_14, steps, reap_0, reap_1, reap_2, reap_3}
use Rattle.seam_node_steps.specs.LateGhost.{until_reaped, from_reaped}

pub load : loaded empty_world batch ≡ world_0
unfolding world_0
load = simp computing

pub row : IsRow 1 1 world_0 steps
unfolding world_0 world_1 world_2 world_3 world_4 world_5 world_6 world_7 world_8 world_9 world_10 world_11 world_12 world_13 world_14
row = walked 1 1 world_0 steps (simp computing)

pub quiet : IsQuiet node_has_work world_14
unfolding world_14
quiet = quiet_of world_14 (simp computing)

pub done : done_in_cell world_14 1 1 ≡ Some (move_1 ∷ move_2 ∷ [])
unfolding world_14
done = simp computing

pub copy_0 : copy_in_cell world_14 0 1 ≡ Some (copy_at 2 5100 4000)
unfolding world_14
copy_0 = simp computing

pub copy_2 : copy_in_cell world_14 2 1 ≡ None
unfolding world_14
copy_2 = simp computing

pub reap_copy : copy_in_cell reap_3 0 1 ≡ None
unfolding reap_3
reap_copy = simp computing

pub reap_load : reaps_loaded world_14 (1 ∷ []) ≡ reap_0
unfolding world_14 reap_0
reap_load = refl

pub until_row : IsRow 1 1 reap_0 until_reaped
unfolding reap_0 reap_1
until_row = walked 1 1 reap_0 until_reaped (simp computing)

pub reap_row : IsRow 1 0 reap_1 from_reaped
unfolding reap_1 reap_2 reap_3
reap_row = walked 1 0 reap_1 from_reaped (simp computing)

pub reap_quiet : IsQuiet node_has_work reap_3
unfolding reap_3
reap_quiet = quiet_of reap_3 (simp computing)

-- what each row's contract says
pub ruleset late_message = (load, row, quiet, done, copy_0, copy_2)

pub ruleset reaped_entity = (reap_load, until_row, reap_row, reap_quiet, reap_copy)
