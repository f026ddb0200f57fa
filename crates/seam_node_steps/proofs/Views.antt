-- "View hysteresis", event by event.
use Rattle.std.proofs.Common.{◌≡◌, [], ◌∷◌, Some, refl}
use Rattle.seam_node_steps.specs.Prelude.{IsQuiet, node_has_work, loaded, look_loaded, IsRow, empty_world, lines_of_client, batch_1}
use Rattle.seam_node_steps.specs.Prelude.{batch_of, move_to, first_steps, first_looks, second_steps, second_looks, base_line, line, own}
use Rattle.seam_node_steps.specs.Prelude.{enter_2}
use Rattle.seam_node_steps.proofs.Tables.{computing}
use Rattle.seam_node_steps.proofs.Quiet.{quiet_of}
use Rattle.seam_node_steps.proofs.Walks.{walked}
use Rattle.seam_node_steps.specs.ViewRounds.{third_steps, third_looks, set_2, leave_2, first_0, first_1, first_2, first_look_0}
use Rattle.seam_node_steps.specs.ViewRounds.{first_look_1, first_look_2, first_look_3, first_look_4, first_look_5, second_0, second_1}
use Rattle.seam_node_steps.specs.ViewRounds.{second_2, second_3, second_4, second_look_0, second_look_1, second_look_2, second_look_3}
use Rattle.seam_node_steps.specs.ViewRounds.{second_look_4, third_0, third_1, third_2, third_3, third_4, third_look_0, third_look_1}
use Rattle.seam_node_steps.specs.ViewRounds.{third_look_2, third_look_3, third_look_4}

pub first_load : loaded empty_world batch_1 ≡ first_0
unfolding first_0
first_load = simp computing

pub first_row : IsRow 2 1 first_0 first_steps
unfolding first_0 first_1 first_2
first_row = walked 2 1 first_0 first_steps (simp computing)

pub first_quiet : IsQuiet node_has_work first_2
unfolding first_2
first_quiet = quiet_of first_2 (simp computing)

pub first_look_load : look_loaded first_2 ≡ first_look_0
unfolding first_2 first_look_0
first_look_load = refl

pub first_look_row : IsRow 2 1 first_look_0 first_looks
unfolding first_look_0 first_look_1 first_look_2 first_look_3 first_look_4 first_look_5
first_look_row = walked 2 1 first_look_0 first_looks (simp computing)

pub first_look_quiet : IsQuiet node_has_work first_look_5
unfolding first_look_5
first_look_quiet = quiet_of first_look_5 (simp computing)

pub second_load : loaded first_look_5 (batch_of (move_to 1 1310)) ≡ second_0
unfolding first_look_5 second_0
second_load = simp computing

pub second_row : IsRow 2 1 second_0 second_steps
unfolding second_0 second_1 second_2 second_3 second_4
second_row = walked 2 1 second_0 second_steps (simp computing)

pub second_quiet : IsQuiet node_has_work second_4
unfolding second_4
second_quiet = quiet_of second_4 (simp computing)

pub second_look_load : look_loaded second_4 ≡ second_look_0
unfolding second_4 second_look_0
second_look_load = refl

pub second_look_row : IsRow 2 1 second_look_0 second_looks
unfolding second_look_0 second_look_1 second_look_2 second_look_3 second_look_4
second_look_row = walked 2 1 second_look_0 second_looks (simp computing)

pub second_look_quiet : IsQuiet node_has_work second_look_4
unfolding second_look_4
second_look_quiet = quiet_of second_look_4 (simp computing)

pub third_load : loaded second_look_4 (batch_of (move_to 2 1311)) ≡ third_0
unfolding second_look_4 third_0
third_load = simp computing

pub third_row : IsRow 2 1 third_0 third_steps
unfolding third_0 third_1 third_2 third_3 third_4
third_row = walked 2 1 third_0 third_steps (simp computing)

pub third_quiet : IsQuiet node_has_work third_4
unfolding third_4
third_quiet = quiet_of third_4 (simp computing)

pub third_look_load : look_loaded third_4 ≡ third_look_0
unfolding third_4 third_look_0
third_look_load = refl

pub third_look_row : IsRow 2 1 third_look_0 third_looks
unfolding third_look_0 third_look_1 third_look_2 third_look_3 third_look_4
third_look_row = walked 2 1 third_look_0 third_looks (simp computing)

pub third_look_quiet : IsQuiet node_has_work third_look_4
unfolding third_look_4
third_look_quiet = quiet_of third_look_4 (simp computing)

pub first_lines : lines_of_client first_look_5 17 1 ≡ Some (base_line ∷ line 2 own ∷ line 3 enter_2 ∷ [])
unfolding first_look_5
first_lines = simp computing

pub second_lines : lines_of_client second_look_4 17 1 ≡ Some (line 4 set_2 ∷ [])
unfolding second_look_4
second_lines = simp computing

pub third_lines : lines_of_client third_look_4 17 1 ≡ Some (line 5 leave_2 ∷ [])
unfolding third_look_4
third_lines = simp computing

-- what each row's contract says
pub ruleset entering = (first_load, first_row, first_quiet, first_look_load, first_look_row, first_look_quiet, first_lines)

pub ruleset changing = (second_load, second_row, second_quiet, second_look_load, second_look_row, second_look_quiet, second_lines)

pub ruleset leaving = (third_load, third_row, third_quiet, third_look_load, third_look_row, third_look_quiet, third_lines)
