-- What may be under a key of a table is less deep than the table, so that a search of a header ends.
use Rattle.std.proofs.Common.{◌≡◌, ℕ, ◌<◌, Bool, true, false, if◌then◌else◌, List, [], ◌∷◌, codes, Option, Some, None, unwrap_or, ap, arith}
use Rattle.std.specs.Bool.{⊤}
use Rattle.std.proofs.lemmas.Option.{none-some}
use Rattle.seam_defs.specs.Types.{is_name}
use Rattle.seam_toml.specs.declared.roles.Role.{Role}
use Rattle.seam_toml.specs.declared.roles.Role.TheVariants as role
use Rattle.seam_toml.specs.Roles.{Keys, role_in, role_under, is_method_name}
use Rattle.seam_toml.specs.Roles.{setting_keys, method_keys}

-- how many tables what is for this is deep, at most
abbrev pub depth : Role → ℕ
depth role.Header = 5
depth role.Types = 4
depth role.Type = 3
depth role.Properties = 2
depth role.Methods = 2
depth role.Property = 1
depth role.Method = 1
depth role.Settings = 1
depth r = 0

abbrev AllBelow : ℕ → Keys → Type 0
AllBelow n [] = ⊤
AllBelow n (e ∷ es) = (depth e.1 < n) × AllBelow n es

depth_of_if : (n : ℕ) (b : Bool) (x c : Role) (rest : Option Role) →
    depth x < n → (rest ≡ Some c → depth c < n) → (if b then Some x else rest) ≡ Some c → depth c < n
depth_of_if n true x c rest here more is = let same : depth x ≡ depth c = ap (λ o. depth (unwrap_or o x)) is in omega (arith, here, same)
depth_of_if n false x c rest here more is = more is

depth_in : (n : ℕ) (es : Keys) (key : List ℕ) (c : Role) → AllBelow n es → role_in es key ≡ Some c → depth c < n
depth_in n [] key c below is = absurd (none-some _ is)
depth_in n (e ∷ es) key c below is = depth_of_if n _ e.1 c (role_in es key) below.0 (depth_in n es key c below.1) is

abbrev header_keys : Keys
header_keys = (codes "version", role.Version) ∷ (codes "settings", role.Settings) ∷ (codes "type", role.Types) ∷ []

abbrev type_keys : Keys
type_keys = (codes "properties", role.Properties) ∷ (codes "methods", role.Methods) ∷ []

abbrev property_keys : Keys
property_keys = (codes "type", role.TypeName) ∷ (codes "flag", role.Flag) ∷ (codes "default", role.Default) ∷ []

pub depth_under : (r : Role) (key : List ℕ) (c : Role) → role_under r key ≡ Some c → depth c < depth r
depth_under role.Header key c is = depth_in 5 header_keys key c (omega arith, (omega arith, (omega arith, tt))) is
depth_under role.Settings key c is =
    let one : 0 < 1 = omega arith in
    depth_in 1 setting_keys key c (one, (one, (one, (one, (one, (one, (one, (one, tt)))))))) is
depth_under role.Types key c is = depth_of_if 4 (is_name key) role.Type c None (omega arith) (λ e. absurd (none-some _ e)) is
depth_under role.Type key c is = depth_in 3 type_keys key c (omega arith, (omega arith, tt)) is
depth_under role.Properties key c is = depth_of_if 2 (is_name key) role.Property c None (omega arith) (λ e. absurd (none-some _ e)) is
depth_under role.Property key c is = depth_in 1 property_keys key c (omega arith, (omega arith, (omega arith, tt))) is
depth_under role.Methods key c is = depth_of_if 2 (is_method_name key) role.Method c None (omega arith) (λ e. absurd (none-some _ e)) is
depth_under role.Method key c is = depth_in 1 method_keys key c (omega arith, (omega arith, (omega arith, (omega arith, tt)))) is
depth_under r key c is = absurd (none-some _ is)
