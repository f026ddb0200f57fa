-- How entries, spots and buckets refine the locations.
use Rattle.std.specs.Prelude.{◌≡◌, ◌<◌, ℕ, ◌/◌, Bool, ◌&&◌, ◌++◌, List, [], ◌∷◌, length, Option, None, Some, nat_eq, nat_lt, option_map}
use Rattle.std.specs.Prelude.{slice_get}
use Rattle.std.specs.Prelude.{slice_set, map as each, if◌then◌else◌}
use Rattle.std.specs.Option.{option_map_or}
use Rattle.std.specs.Ordering.{nat_cmp, ordering_then}
use Rattle.std.specs.declared.cmp.Ordering.{Ordering}
use Rattle.std.specs.Prelude.{Vec}
use Rattle.std.specs.BTreeMap as tree
use Rattle.std.specs.FinMap as map
use Rattle.slab.specs.Slab.{Slab, get}
use Rattle.seam_range.specs.declared.Location.{Location}
use Rattle.seam_range.specs.declared.Keyed.{Keyed}
use Rattle.seam_range.specs.declared.Spot.{Spot}
use Rattle.seam_range.specs.declared.TheConstants.{STRIP_WIDTH, ROW_WIDTH}
use Rattle.seam_range.specs.Locations.{Locations}

-- the bucket of a location: its strip of x, and its row of z
abbrev pub bucket_of : Location → ℕ × ℕ
bucket_of p = (p.pos.x / STRIP_WIDTH, p.pos.z / ROW_WIDTH)

abbrev pub same_bucket : ℕ × ℕ → ℕ × ℕ → Bool
same_bucket a b = nat_eq a.0 b.0 && nat_eq a.1 b.1

-- buckets by strip, then by row
abbrev pub by_bucket : ℕ × ℕ → ℕ × ℕ → Ordering
by_bucket a b = ordering_then (nat_cmp a.0 b.0) (nat_cmp a.1 b.1)

-- the entity of the spot at a key, and its location
abbrev pub seen : Spot → ℕ × Location
seen s = (s.entity, s.location)

abbrev pub seen_at : Slab Spot → ℕ → Option (ℕ × Location)
seen_at spots k = option_map seen (get spots k)

abbrev pub moved_to : Location → ℕ × Location → ℕ × Location
moved_to p x = (x.0, p)

-- the location of each entity that has an entry
abbrev pub locations_of : List (ℕ × Keyed) → Locations
locations_of es = map.from_entries (each (λ r. (r.0, r.1.location)) es)

abbrev pub Buckets : Type 0 → Type 0
Buckets Z = tree.BTreeMap (ℕ × ℕ) (Vec ℕ Z)

-- the spot at the key has a location in this bucket, and this rank
abbrev pub IsSpotAt : Slab Spot → ℕ × ℕ → ℕ → ℕ → Type 0
IsSpotAt spots b i k = (s : Spot) × ((get spots k ≡ Some s) × ((bucket_of s.location ≡ b) × (s.rank ≡ i)))

-- of these keys the one at the rank is out, and the last one has its rank
pub record IsSwapped (old new : List ℕ) (rank : ℕ) (moved : Option ℕ) : Type 0 where
  pub kept : List ℕ
  pub last : ℕ
  pub was : old ≡ kept ++ last ∷ []
  pub now : new ≡ (if nat_lt rank (length kept) then slice_set kept rank last else kept)
  pub told : moved ≡ (if nat_lt rank (length kept) then Some last else None)

module _ {Z : Type 0} where
  -- the keys of a bucket, by rank
  abbrev pub keys_in : Buckets Z → ℕ × ℕ → List ℕ
  keys_in buckets b = option_map_or (λ v. v.items) (tree.get by_bucket buckets b) []

  -- the bucket has these keys, and every other bucket keeps its own
  abbrev pub IsBucketSet : Buckets Z → Buckets Z → ℕ × ℕ → List ℕ → Type 0
  IsBucketSet old new b ks = (c : ℕ × ℕ) → keys_in new c ≡ (if same_bucket b c then ks else keys_in old c)

  -- the key at the rank of the bucket is out, and every other bucket keeps its own
  pub record IsTaken (old new : Buckets Z) (b : ℕ × ℕ) (rank : ℕ) (moved : Option ℕ) : Type 0 where
    pub here : IsSwapped (keys_in old b) (keys_in new b) rank moved
    pub others : IsBucketSet old new b (keys_in new b)

  -- each spot's key is in its bucket at its rank, and a bucket has no other keys
  pub record AreLinked (spots : Slab Spot) (buckets : Buckets Z) : Type 0 where
    pub ranked : (k : ℕ) (s : Spot) → get spots k ≡ Some s → slice_get (keys_in buckets (bucket_of s.location)) s.rank ≡ Some k
    pub listed : (b : ℕ × ℕ) (i k : ℕ) → slice_get (keys_in buckets b) i ≡ Some k → IsSpotAt spots b i k

  -- the same, but for one rank of one bucket, which is no spot's
  pub record HasSurplus (spots : Slab Spot) (buckets : Buckets Z) (b : ℕ × ℕ) (i : ℕ) : Type 0 where
    pub ranked : (k : ℕ) (s : Spot) → get spots k ≡ Some s → slice_get (keys_in buckets (bucket_of s.location)) s.rank ≡ Some k
    pub listed : (c : ℕ × ℕ) (j k : ℕ) → slice_get (keys_in buckets c) j ≡ Some k → ((c ≡ b) × (j ≡ i) → ⊥) → IsSpotAt spots c j k
    pub apart : (k : ℕ) (s : Spot) → get spots k ≡ Some s → (bucket_of s.location ≡ b) × (s.rank ≡ i) → ⊥
    pub within : i < length (keys_in buckets b)

  -- entries, spots and buckets agree: at an entry's key is its entity at its location, each spot's entity has that entry, and spots and
  -- buckets are linked
  pub record IsIndexed (locations : tree.BTreeMap ℕ Keyed) (spots : Slab Spot) (buckets : Buckets Z) : Type 0 where
    pub ordered : tree.IsOrdered nat_cmp locations
    pub keyed : (e : ℕ) (x : Keyed) → tree.get nat_cmp locations e ≡ Some x → seen_at spots x.key ≡ Some (e, x.location)
    pub known : (k e : ℕ) (p : Location) → seen_at spots k ≡ Some (e, p) →
        tree.get nat_cmp locations e ≡ Some (record { key = k; location = p })
    pub linked : AreLinked spots buckets

-- at each key the entity and the location stay
abbrev pub AreSameLocations : Slab Spot → Slab Spot → Type 0
AreSameLocations old new = (k : ℕ) → seen_at new k ≡ seen_at old k

-- the entity at the key is at the location, and the others stay
abbrev pub IsMoved : Slab Spot → Slab Spot → ℕ → Location → Type 0
IsMoved old new key p = (k : ℕ) → seen_at new k ≡ (if nat_eq key k then option_map (moved_to p) (seen_at old k) else seen_at old k)
