-- The looks at a flat table, which has each entity as it is now: no guard against older versions is needed.
use Rattle.std.specs.Prelude.{◌≡◌, Bool, true, not, ◌&&◌, nat_le, List, ◌++◌, map, filter, Option, None, Some}
use Rattle.std.specs.List.{AllByRecursion}
use Rattle.std.specs.FinMap as versions
use Rattle.seam_geo.specs.declared.pos.Pos.{Pos}
use Rattle.seam_geo.specs.Pos.{distance}
use Rattle.seam_view.specs.declared.Seen.{Seen}
use Rattle.seam_view.specs.declared.Look.{Look}
use Rattle.seam_view.specs.declared.Look.TheVariants.{Leave, Set, Enter}
use Rattle.seam_view.specs.Replica.{Replica, seen_of}
use Rattle.seam_view.specs.ViewLooks.{is_far, has_changed, in_view, not_older}

-- an entity in view is not in the table, or is far
abbrev pub is_gone : Replica → Pos → Option Seen → Bool
is_gone r own None = true
is_gone r own (Some s) = is_far r own s.pos

-- an entity of the table is not in view, and at distance at most the radius
abbrev pub is_new : Replica → Pos → Seen → Bool
is_new r own s = not (in_view r s.entity) && nat_le (distance own s.pos) r.radius

-- one look at a flat table: those in view that are gone leave, in enter order; those that stay and have a greater version than was shown
-- are set, in enter order; those that are new enter, in the table's order
abbrev pub plain_look : Replica → Pos → List Seen → List Look
plain_look r own table =
    map (λ p. Leave p.0) (filter (λ p. is_gone r own (seen_of p.0 table)) r.entries)
    ++ map (λ p. Set p.0) (filter (λ p. has_changed r own p.1 (seen_of p.0 table)) r.entries)
    ++ map (λ s. Enter s.entity) (filter (is_new r own) table)

-- nothing was shown at a greater version than the table has
abbrev pub AreNotOlder : Replica → List Seen → Type 0
AreNotOlder r table = AllByRecursion (λ s. not_older (versions.get r.shown s.entity) s.version ≡ true) table
