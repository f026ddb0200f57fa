-- What a query finds, strip after strip.
use Rattle.std.specs.Prelude.{◌≡◌, ℕ, ◌+◌, ◌-◌, ◌/◌, Bool, ◌&&◌, nat_eq, List, Option, None, Some, if◌then◌else◌}
use Rattle.std.specs.List.{All, count_by, filter, filter_map, flat_map}
use Rattle.std.specs.FinMap as map
use Rattle.std.specs.Prelude.{Vec}
use Rattle.std.specs.BTreeMap.Range.{range_contains}
use Rattle.std.specs.declared.ops.Bound.TheVariants.{Included, Excluded}
use Rattle.seam_geo.specs.declared.pos.Pos.{Pos}
use Rattle.seam_range.specs.Locations.{Locations, is_within}
use Rattle.seam_range.specs.Indexed.{by_bucket}
use Rattle.seam_range.specs.declared.Location.{Location}
use Rattle.seam_range.specs.declared.Spot.{Spot}
use Rattle.seam_range.specs.declared.TheConstants.{STRIP_WIDTH, ROW_WIDTH}
use Rattle.slab.specs.Slab.{Slab, get}

-- how often the entity is in the list
abbrev pub count_of : ℕ → List (ℕ × Location) → ℕ
count_of q xs = count_by (λ x. nat_eq x.0 q) xs

-- each is in the list at its own location
abbrev pub AreLocated : Locations → List (ℕ × Location) → Type 0
AreLocated locations xs = All (λ x. map.get locations x.0 ≡ Some x.1) xs

-- 1 where there is a location that passes the test, else 0
abbrev pub one_if : (Location → Bool) → Option Location → ℕ
one_if test None = 0
one_if test (Some p) = if test p then 1 else 0

-- a location in the strip, at distance at most d from p
abbrev pub is_in_strip : ℕ → Pos → ℕ → Location → Bool
is_in_strip strip p d q = nat_eq (q.pos.x / STRIP_WIDTH) strip && is_within p d q

-- the entity of a spot with its location, if that is near
abbrev pub near_at : Pos → ℕ → Option Spot → Option (ℕ × Location)
near_at p d None = None
near_at p d (Some s) = if is_within p d s.location then Some (s.entity, s.location) else None

-- the near entities of the spots with these keys
abbrev pub hits : Pos → ℕ → Slab Spot → List ℕ → List (ℕ × Location)
hits p d spots keys = filter_map (λ k. near_at p d (get spots k)) keys

-- whether a bucket is in the strip, and in a row with positions at distance at most d from p
abbrev pub in_run : ℕ → Pos → ℕ → ℕ × ℕ → Bool
in_run strip p d k =
    range_contains by_bucket (Included (strip, (p.z - d) / ROW_WIDTH)) (Excluded (strip, (p.z + d) / ROW_WIDTH + 1)) k

abbrev pub Entry : Type 0 → Type 0
Entry Z = (ℕ × ℕ) × Vec ℕ Z

-- the buckets of the strip that may have something near
abbrev pub run_of : {Z : Type 0} → ℕ → Pos → ℕ → List (Entry Z) → List (Entry Z)
run_of strip p d es = filter (λ r. in_run strip p d r.0) es

-- the near entities of the buckets, one bucket after another
abbrev pub hits_of : {Z : Type 0} → Pos → ℕ → Slab Spot → List (Entry Z) → List (ℕ × Location)
hits_of p d spots rs = flat_map (λ r. hits p d spots r.1.items) rs

-- the strips from the first one on, below the end, have all positions at distance at most d from p
abbrev pub first_strip : Pos → ℕ → ℕ
first_strip p d = (p.x - d) / STRIP_WIDTH

abbrev pub end_strip : Pos → ℕ → ℕ
end_strip p d = (p.x + d) / STRIP_WIDTH + 1
