-- The grammar of a header: which keys its tables have, and what the value under each key is for.
use Rattle.std.specs.Prelude.{ℕ, Bool, true, false, ◌&&◌, not, bytes_eq, if◌then◌else◌, List, [], ◌∷◌, codes, Option, Some, None}
use Rattle.seam_defs.specs.Types.{is_name}
use Rattle.seam_toml.specs.declared.settings.Setting.{Setting}
use Rattle.seam_toml.specs.declared.settings.Setting.TheVariants as setting
use Rattle.seam_toml.specs.declared.roles.Role.{Role}
use Rattle.seam_toml.specs.declared.roles.Role.TheVariants as role
use Rattle.seam_toml.specs.Settings.{key_of}

-- keys, each with what the value under it is for
abbrev pub Keys : Type 0
Keys = List (List ℕ × Role)

-- what the value under a key is for, by the first of such keys that it is
abbrev pub role_in : Keys → List ℕ → Option Role
role_in [] key = None
role_in (e ∷ es) key = if bytes_eq key e.0 then Some e.1 else role_in es key

abbrev setting_key : Setting → List ℕ × Role
setting_key s = (key_of s, role.Setting s)

abbrev pub setting_keys : Keys
setting_keys =
    setting_key setting.Size ∷ setting_key setting.ViewRadius
    ∷ setting_key setting.ViewHysteresis ∷ setting_key setting.OffloadHysteresis
    ∷ setting_key setting.GhostDistance ∷ setting_key setting.GhostHysteresis
    ∷ setting_key setting.BalanceShift ∷ setting_key setting.Bases ∷ []

abbrev pub method_keys : Keys
method_keys = (codes "part", role.Part) ∷ (codes "exposed", role.Exposed) ∷ (codes "args", role.Arguments) ∷ (codes "body", role.Body) ∷ []

-- a method is not named as a change of place is
abbrev pub is_method_name : List ℕ → Bool
is_method_name key = is_name key && not (bytes_eq key (codes "move"))

-- what the value under a key of a table is for, by what the table is for: None where such a table may not have the key
abbrev pub role_under : Role → List ℕ → Option Role
role_under role.Header key =
    role_in ((codes "version", role.Version) ∷ (codes "settings", role.Settings) ∷ (codes "type", role.Types) ∷ []) key
role_under role.Settings key = role_in setting_keys key
role_under role.Types key = if is_name key then Some role.Type else None
role_under role.Type key = role_in ((codes "properties", role.Properties) ∷ (codes "methods", role.Methods) ∷ []) key
role_under role.Properties key = if is_name key then Some role.Property else None
role_under role.Property key =
    role_in ((codes "type", role.TypeName) ∷ (codes "flag", role.Flag) ∷ (codes "default", role.Default) ∷ []) key
role_under role.Methods key = if is_method_name key then Some role.Method else None
role_under role.Method key = role_in method_keys key
role_under r key = None

-- whether what is for this has to be a table
abbrev pub is_table : Role → Bool
is_table role.Header = true
is_table role.Settings = true
is_table role.Types = true
is_table role.Type = true
is_table role.Properties = true
is_table role.Property = true
is_table role.Methods = true
is_table role.Method = true
is_table r = false
