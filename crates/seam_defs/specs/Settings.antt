-- The settings of a world.
use Rattle.std.specs.Prelude.{ℕ, ◌+◌, ◌≤◌}
use Rattle.seam_defs.specs.declared.settings.Settings.{Settings}
use Rattle.seam_defs.specs.declared.settings.TheConstants.{LARGEST_SIZE, LONGEST_DISTANCE}
use Rattle.seam_defs.specs.declared.limits.TheConstants.{MOST_BASE_NODES}

-- the settings where a header sets none
abbrev pub standard : Settings
standard = record {
  size = 10000;
  view_radius = 300;
  view_hysteresis = 10;
  offload_hysteresis = 10;
  ghost_distance = 400;
  ghost_hysteresis = 20;
  balance_shift = 1000;
  bases = 2;
}

-- a distance that a setting may name
abbrev pub IsDistance : ℕ → Type 0
IsDistance d = d ≤ LONGEST_DISTANCE

-- each setting is in its range
pub record AreInRange (s : Settings) : Type 0 where
  pub some_size : 1 ≤ s.size
  pub size : s.size ≤ LARGEST_SIZE
  pub view_radius : IsDistance s.view_radius
  pub view_hysteresis : IsDistance s.view_hysteresis
  pub offload_hysteresis : IsDistance s.offload_hysteresis
  pub ghost_distance : IsDistance s.ghost_distance
  pub ghost_hysteresis : IsDistance s.ghost_hysteresis
  pub balance_shift : IsDistance s.balance_shift
  pub some_bases : 1 ≤ s.bases
  pub bases : s.bases ≤ MOST_BASE_NODES

-- a cell has a ghost of each entity that a witness in it may have in view, also of a witness that is about to leave it
abbrev pub GhostsReach : Settings → Type 0
GhostsReach s = s.view_radius + s.view_hysteresis + s.offload_hysteresis ≤ s.ghost_distance

-- settings that a header may set
pub record AreLegal (s : Settings) : Type 0 where
  pub in_range : AreInRange s
  pub reach : GhostsReach s
