-- Which versions of an entity a client may be shown.
use Rattle.std.specs.Prelude.{ℕ, Bool, true, nat_le, Option, None, Some}

-- the version is not older than the one shown, if any was
abbrev pub not_older : Option ℕ → ℕ → Bool
not_older None v = true
not_older (Some n) v = nat_le n v
