-- The witnesses on both sides of the boundary look, event by event.
use Rattle.std.proofs.Common.{◌≡◌, [], ◌∷◌, Some, refl}
use Rattle.seam_node_steps.specs.Prelude.{IsQuiet, node_has_work, look_loaded, IsRow, lines_of_client, base_line, line, other_at, Enter}
use Rattle.seam_law_clients.specs.Prelude.{look_steps}
use Rattle.seam_node_steps.proofs.Quiet.{quiet_of}
use Rattle.seam_node_steps.proofs.Walks.{walked}
use Rattle.seam_law_clients.specs.Crossing.{world_9, own_at, look_0, look_1, look_2, look_3, look_4, look_5, look_6, look_7, look_8, look_9}
use Rattle.seam_law_clients.specs.Crossing.{look_10, look_11}
use Rattle.seam_node_steps.proofs.Tables.{computing}

pub load : look_loaded world_9 ≡ look_0
unfolding world_9 look_0
load = refl

pub row : IsRow 3 1 look_0 look_steps
unfolding look_0 look_1 look_2 look_3 look_4 look_5 look_6 look_7 look_8 look_9 look_10 look_11
row = walked 3 1 look_0 look_steps (simp computing)

pub quiet : IsQuiet node_has_work look_11
unfolding look_11
quiet = quiet_of look_11 (simp computing)

pub lines_1 : lines_of_client look_11 17 1
    ≡ Some (base_line ∷ line 2 (own_at 4850) ∷ line 3 (Enter 2 (other_at 0 5150)) ∷ line 4 (Enter 3 (other_at 1 5100)) ∷ [])
unfolding look_11
lines_1 = simp computing

pub lines_2 : lines_of_client look_11 16 2
    ≡ Some (base_line ∷ line 2 (own_at 5150) ∷ line 3 (Enter 1 (other_at 0 4850)) ∷ line 4 (Enter 3 (other_at 1 5100)) ∷ [])
unfolding look_11
lines_2 = simp computing
