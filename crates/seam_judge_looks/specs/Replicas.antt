-- What a client shows, by all that it was shown of cell parts.
use Rattle.std.specs.Prelude.{◌≡◌, ℕ, ◌<◌, true, false, List, [], length, map, take, ◌==◌, nat_eq, if◌then◌else◌, Option, None, Some}
use Rattle.std.specs.Prelude.{slice_index_or}
use Rattle.std.specs.List.{list_any}
use Rattle.std.specs.Option.{option_map}
use Rattle.std.specs.FinMap as table
use Rattle.seam_rule_rounds.specs.Prelude.{Pos, Shown, Own, Enter, Set, Leave, ClientReplica, after_all_shown}
use Rattle.seam_view.specs.Replica.{placed, without}
use Rattle.seam_judge_looks.specs.declared.replica.Replica.{Replica}

-- a client of these distances that was shown nothing
abbrev pub empty_client : ℕ → ℕ → ClientReplica
empty_client radius hysteresis = record {
  own = None;
  others = record { radius = radius; hysteresis = hysteresis; entries = []; shown = table.empty };
  copies = table.empty;
}

-- the client of these distances that was shown all of this
abbrev pub client_of : Replica → ClientReplica
client_of r = after_all_shown (empty_client r.radius r.hysteresis) (map (λ x. x.now) r.shown.items)

-- ---- what one thing shown changes

-- the version and the place at which the own entity was last shown
abbrev pub last_own : ClientReplica → Option (ℕ × Pos)
last_own c = option_map (λ p. (p.0, p.1.pos)) c.own

abbrev pub own_after : Option (ℕ × Pos) → Shown → Option (ℕ × Pos)
own_after own (Own version state) = Some (version, state.pos)
own_after own (Enter e copy) = own
own_after own (Set e copy) = own
own_after own (Leave e) = own

-- the version at which an entity was last shown
abbrev pub version_after : ℕ → Option ℕ → Shown → Option ℕ
version_after e version (Own v state) = version
version_after e version (Enter f copy) = if e == f then Some copy.version else version
version_after e version (Set f copy) = if e == f then Some copy.version else version
version_after e version (Leave f) = version

-- the entities in view, with the version last shown of each
abbrev pub entries_after : List (ℕ × ℕ) → Shown → List (ℕ × ℕ)
entries_after entries (Own version state) = entries
entries_after entries (Enter e copy) = placed e copy.version entries
entries_after entries (Set e copy) = placed e copy.version entries
entries_after entries (Leave e) = without e entries

-- ---- the entities in view

-- the entity is at none of the first places
abbrev pub IsNotBefore : ℕ → List (ℕ × ℕ) → ℕ → Type 0
IsNotBefore e entries i = list_any (λ p. nat_eq e p.0) (take i entries) ≡ false

-- it is at none
abbrev pub IsNotAmong : ℕ → List (ℕ × ℕ) → Type 0
IsNotAmong e entries = list_any (λ p. nat_eq e p.0) entries ≡ false

-- it is at this place, and at none before
abbrev pub IsIndexOf : ℕ → List (ℕ × ℕ) → ℕ → Type 0
IsIndexOf e entries i = (i < length entries) × IsNotBefore e entries i × (nat_eq e (slice_index_or entries i (0, 0)).0 ≡ true)
