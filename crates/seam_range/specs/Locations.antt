-- Where entities are, and which of them are near a position.
use Rattle.std.specs.Prelude.{ℕ, Bool, nat_le, List}
use Rattle.std.specs.Ordering.{nat_cmp}
use Rattle.std.specs.List.{filter}
use Rattle.std.specs.FinMap as map
use Rattle.std.specs.Coded.{Coded, code_by, coded×, coded_ℕ}
use Rattle.std.proofs.Common.{refl}
use Rattle.seam_geo.specs.declared.pos.Pos.{Pos}
use Rattle.seam_geo.specs.Pos.{distance}
use Rattle.seam_range.specs.declared.Location.{Location}

-- the location of each entity that was put
abbrev pub Locations : Type 0
Locations = map.FinMap nat_cmp Location

abbrev pub location_code : Coded Location
location_code =
    code_by (ℕ × (ℕ × ℕ)) (coded× coded_ℕ (coded× coded_ℕ coded_ℕ)) (λ p. (p.version, (p.pos.x, p.pos.z)))
    (λ q. record { version = q.0; pos = record { x = q.1.0; z = q.1.1 } }) (λ _. refl)

-- the location is at distance at most d from the position
abbrev pub is_within : Pos → ℕ → Location → Bool
is_within p d q = nat_le (distance p q.pos) d

-- the entities at distance at most d from a position, in rising number, each with its location
abbrev pub within : Locations → Pos → ℕ → List (ℕ × Location)
within locations p d = filter (λ e. is_within p d e.1) (map.entries locations)
