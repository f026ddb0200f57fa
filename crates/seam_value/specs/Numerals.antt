-- Texts of digits, as the reading of a number tests them: no clause of a public call cites these.
use Rattle.std.specs.Prelude.{◌≡◌, ◌≢◌, ℕ, ◌<◌, ◌&&◌, Bool, true, false, List, ◌∷◌, length, nat_le, slice_index, ℤ, pos, neg_ℤ}
use Rattle.std.specs.List.{list_all}

-- a decimal digit
abbrev pub is_digit : ℕ → Bool
is_digit b = nat_le 48 b && nat_le b 57

-- one digit or more, of which the first is 0 only where it is the only one
pub record IsNumeral (digits : List ℕ) : Type 0 where
  pub all : list_all is_digit digits ≡ true
  pub some : 0 < length digits
  pub first : slice_index digits 0 ≡ 48 → length digits ≡ 1

-- the digits after the sign, if there is one
abbrev pub SplitsSign : List ℕ → Bool → List ℕ → Type 0
SplitsSign bytes true digits = bytes ≡ 45 ∷ digits
SplitsSign bytes false digits = (bytes ≡ digits) × (slice_index bytes 0 ≢ 45)

-- a number of this size
abbrev pub signed : Bool → ℕ → ℤ
signed true size = neg_ℤ (pos size)
signed false size = pos size
