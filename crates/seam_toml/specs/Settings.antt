-- What the table of settings of a header sets.
use Rattle.std.specs.Prelude.{◌≡◌, ◌≤◌, ℕ, ℤ, pos, negsuc, ◌&&◌, nat_le, if◌then◌else◌, List, codes, Option, Some, None, option_and_then}
use Rattle.toml.specs.Data.{Data, Members, as_integer, get_member}
use Rattle.seam_defs.specs.Settings.{standard}
use Rattle.seam_defs.specs.declared.settings.Settings.{Settings}
use Rattle.seam_defs.specs.declared.settings.TheConstants.{LARGEST_SIZE, LONGEST_DISTANCE}
use Rattle.seam_defs.specs.declared.limits.TheConstants.{MOST_BASE_NODES}
use Rattle.seam_toml.specs.declared.settings.Setting.{Setting}
use Rattle.seam_toml.specs.declared.settings.Setting.TheVariants as setting

-- the key of a setting
abbrev pub key_of : Setting → List ℕ
key_of setting.Size = codes "size"
key_of setting.ViewRadius = codes "view_radius"
key_of setting.ViewHysteresis = codes "view_hysteresis"
key_of setting.OffloadHysteresis = codes "offload_hysteresis"
key_of setting.GhostDistance = codes "ghost_distance"
key_of setting.GhostHysteresis = codes "ghost_hysteresis"
key_of setting.BalanceShift = codes "balance_shift"
key_of setting.Bases = codes "bases"

-- a setting among those of a world
abbrev pub field_of : Settings → Setting → ℕ
field_of s setting.Size = s.size
field_of s setting.ViewRadius = s.view_radius
field_of s setting.ViewHysteresis = s.view_hysteresis
field_of s setting.OffloadHysteresis = s.offload_hysteresis
field_of s setting.GhostDistance = s.ghost_distance
field_of s setting.GhostHysteresis = s.ghost_hysteresis
field_of s setting.BalanceShift = s.balance_shift
field_of s setting.Bases = s.bases

-- the least and the greatest number that a setting may be
abbrev pub least_of : Setting → ℕ
least_of setting.Size = 1
least_of setting.Bases = 1
least_of s = 0

abbrev pub greatest_of : Setting → ℕ
greatest_of setting.Size = LARGEST_SIZE
greatest_of setting.Bases = MOST_BASE_NODES
greatest_of s = LONGEST_DISTANCE

-- a number that the setting may be
pub record IsInRange (s : Setting) (n : ℕ) : Type 0 where
  pub low : least_of s ≤ n
  pub high : n ≤ greatest_of s

-- a whole number as one from the least to the greatest
abbrev pub in_range : ℕ → ℕ → ℤ → Option ℕ
in_range least greatest (pos n) = if nat_le least n && nat_le n greatest then Some n else None
in_range least greatest (negsuc n) = None

-- a value as a setting: it has to be a whole number in the setting's range
abbrev pub number_of : Setting → Data → Option ℕ
number_of s d = option_and_then (in_range (least_of s) (greatest_of s)) (as_integer d)

-- the same of what is under a setting's key: where nothing is, the setting is the standard one
abbrev pub number_or_standard : Setting → Option Data → Option ℕ
number_or_standard s None = Some (field_of standard s)
number_or_standard s (Some d) = number_of s d

-- the table sets these settings: each is what is under its key, or the standard one where nothing is
abbrev pub Sets : Members → Settings → Type 0
Sets ms s = (one : Setting) → number_or_standard one (get_member (key_of one) ms) ≡ Some (field_of s one)

-- what is under the key of a setting is no whole number in its range
abbrev pub HasBadSetting : Members → Type 0
HasBadSetting ms = (one : Setting) × (number_or_standard one (get_member (key_of one) ms) ≡ None)
