-- The looks of a witness: which entities leave its view, which have changed, and which enter.
use Rattle.std.specs.Prelude.{ℕ, ◌+◌, Bool, true, false, not, ◌&&◌, ◌||◌, nat_eq, nat_lt, nat_le, List, ◌++◌, map, filter, Option, None}
use Rattle.std.specs.Prelude.{Some}
use Rattle.std.specs.List.{list_any}
use Rattle.std.specs.FinMap as versions
use Rattle.seam_geo.specs.declared.pos.Pos.{Pos}
use Rattle.seam_geo.specs.Pos.{distance}
pub use Rattle.seam_version.specs.Versions.{not_older}
use Rattle.seam_view.specs.declared.Seen.{Seen}
use Rattle.seam_view.specs.declared.Look.{Look}
use Rattle.seam_view.specs.declared.Look.TheVariants.{Leave, Set, Enter}
use Rattle.seam_view.specs.Replica.{Replica, seen_of}

-- the position is farther than radius and hysteresis together
abbrev pub is_far : Replica → Pos → Pos → Bool
is_far r own p = nat_lt (r.radius + r.hysteresis) (distance own p)

-- whether an entity in view, shown at this version, leaves: nothing is known of it, or it is known to be far and is not older than shown
abbrev pub leaves : Replica → Pos → ℕ → Option Seen → Bool
leaves r own v None = true
leaves r own v (Some s) = is_far r own s.pos && nat_le v s.version

-- whether it stays, and is known at a greater version
abbrev pub has_changed : Replica → Pos → ℕ → Option Seen → Bool
has_changed r own v None = false
has_changed r own v (Some s) = not (is_far r own s.pos) && nat_lt v s.version

abbrev pub in_view : Replica → ℕ → Bool
in_view r e = list_any (λ p. nat_eq e p.0) r.entries

-- whether a known entity enters: it is not in view, at distance at most the radius, and not older than it was ever shown
abbrev pub enters : Replica → Pos → Seen → Bool
enters r own s = not (in_view r s.entity) && nat_le (distance own s.pos) r.radius && not_older (versions.get r.shown s.entity) s.version

abbrev pub leaving : Replica → Pos → List Seen → List (ℕ × ℕ) → List Look
leaving r own known es = map (λ p. Leave p.0) (filter (λ p. leaves r own p.1 (seen_of p.0 known)) es)

abbrev pub changed : Replica → Pos → List Seen → List (ℕ × ℕ) → List Look
changed r own known es = map (λ p. Set p.0) (filter (λ p. has_changed r own p.1 (seen_of p.0 known)) es)

abbrev pub entering : Replica → Pos → List Seen → List Look
entering r own known = map (λ s. Enter s.entity) (filter (enters r own) known)

-- one look: those that leave, in enter order, then those that have changed, in enter order, then those that enter, in the order in which
-- they are known
abbrev pub one_look : Replica → Pos → List Seen → List Look
one_look r own known = leaving r own known r.entries ++ changed r own known r.entries ++ entering r own known

-- what is known of the entity can matter to the view: it is in view, or not far
abbrev pub matters : Replica → Pos → Seen → Bool
matters r own s = in_view r s.entity || not (is_far r own s.pos)
