-- How often an entity is among the near entities of a strip, and of all strips.
use Rattle.std.proofs.Common.{◌≡◌, ◌≤◌, ◌<◌, ◌-◌, ◌+◌, ◌/◌, ℕ, Bool, true, false, cond, not, ◌&&◌, eqb, ltb, List, [], ◌∷◌, ◌++◌}
use Rattle.std.proofs.Common.{Option}
use Rattle.std.proofs.Common.{None, Some, refl, sym, ap, ◌∙◌, subst, is_some, option_map, slice_get, arith}
use Rattle.std.specs.Prelude.{nat_le, nat_lt}
use Rattle.std.proofs.Common.{Result, Ok, Err, IfOk}
use Rattle.std.specs.Option.{option_map_or}
use Rattle.std.specs.Ordering.{nat_cmp, eq_by_cmp, is_eq, is_le, ordering_then}
use Rattle.std.specs.declared.cmp.Ordering.{Ordering}
use Rattle.std.specs.declared.cmp.Ordering.TheVariants.{Less, Equal, Greater}
use Rattle.std.specs.Prelude.{Vec}
use Rattle.std.specs.Map.{lookup, keys_of}
use Rattle.std.specs.BTreeMap as tree
use Rattle.std.specs.BTreeMap.{is_at}
use Rattle.std.specs.List.{IsDistinct, AllByRecursion, All, filter, cons_option, count_by}
use Rattle.std.proofs.lemmas.Bool.Decides.{nat_tests}
use Rattle.std.proofs.lemmas.List.Sums.{sum_by-append}
use Rattle.std.proofs.lemmas.List.Elements.{All-append, All-nil, All-push}
use Rattle.std.proofs.lemmas.Nat.{le-div}
use Rattle.std.proofs.Math.Nat.{div-mul-le_self}
use Rattle.std.proofs.lemmas.Map.Keys.{IsDistinct-from_sorted, IsDistinct-head, IsDistinct-tail}
use Rattle.seam_geo.specs.declared.pos.Pos.{Pos}
use Rattle.seam_geo.specs.Pos.{distance}
use Rattle.slab.specs.Slab.{Slab, get}
use Rattle.seam_range.specs.declared.Location.{Location}
use Rattle.seam_range.specs.declared.Keyed.{Keyed}
use Rattle.seam_range.specs.declared.Spot.{Spot}
use Rattle.seam_range.specs.Locations.{is_within}
use Rattle.seam_range.specs.Indexed.{bucket_of, same_bucket, by_bucket, seen, locations_of, Buckets, keys_in, IsIndexed}
use Rattle.seam_range.specs.Found.{count_of, AreLocated, one_if, is_in_strip, first_strip, end_strip, near_at, hits, in_run, Entry, run_of}
use Rattle.seam_range.specs.Found.{hits_of}
use Rattle.seam_range.specs.declared.TheConstants.{STRIP_WIDTH, ROW_WIDTH}
use Rattle.std.specs.FinMap as map
use Rattle.seam_range.proofs.Ranks.{none_some}
use Rattle.seam_range.proofs.Links.{bucket_is, bucket_itself, tied}
use Rattle.seam_range.proofs.Kept.{location_of_entity}
use Rattle.seam_range.proofs.Hits.{count_cons, count_agree, count_nothing, no_more, and_no, in_bucket, home, count_in_bucket}
use Rattle.seam_range.proofs.Hits.{spot_of}

-- ---- buckets by strip and row

key_is : (a b : ℕ × ℕ) → is_eq (by_bucket a b) ≡ true → b ≡ a
key_is a b t = bucket_is a b (sym (tied a b) ∙ t)

key_itself : (a : ℕ × ℕ) → is_eq (by_bucket a a) ≡ true
key_itself a = tied a a ∙ bucket_itself a

key_other : (a b : ℕ × ℕ) → is_eq (by_bucket a b) ≡ false → is_eq (by_bucket b a) ≡ false
key_other a b h = elim (is_eq (by_bucket b a)) as (λ t. is_eq (by_bucket b a) ≡ t → t ≡ false) [
  | true ↦ λ t. let f : true ≡ false = sym (key_itself b) ∙ (ap (λ x. is_eq (by_bucket x b)) (sym (key_is b a t)) ∙ h) in cc
  | false ↦ λ t. refl
] refl

module _ {X : Type 0} where
  filtered_by : (b f : X → Bool) (x : X) (xs : List X) (v : Bool) → count_by f (filter b xs) ≡ count_by (λ x. b x && f x) xs →
      count_by f (cond v (x ∷ filter b xs) (filter b xs)) ≡ cond (v && f x) 1 0 + count_by (λ x. b x && f x) xs
  filtered_by b f x xs true rest = count_cons f x (filter b xs) ∙ ap (λ n. cond (f x) 1 0 + n) rest
  filtered_by b f x xs false rest = rest ∙ sym (no_more _)

  -- of what a filter leaves those count that pass both tests
  count_by_filter : (b f : X → Bool) (xs : List X) → count_by f (filter b xs) ≡ count_by (λ x. b x && f x) xs
  count_by_filter b f [] = refl
  count_by_filter b f (x ∷ xs) = filtered_by b f x xs (b x) (count_by_filter b f xs) ∙ sym (count_cons (λ x. b x && f x) x xs)

  none_of_all : (xs : List X) → AllByRecursion (λ _. false ≡ false) xs
  none_of_all [] = tt
  none_of_all (x ∷ xs) = (refl, none_of_all xs)

  all_or_none : (b : Bool) (u : X → Bool) (xs : List X) → count_by (λ x. b && u x) xs ≡ cond b (count_by u xs) 0
  all_or_none true u xs = refl
  all_or_none false u xs = count_nothing (λ _. false) xs (none_of_all xs)

module _ {V : Type 0} where
  absent_keys : (k : ℕ × ℕ) (es : List ((ℕ × ℕ) × V)) → AllByRecursion (λ y. is_eq (by_bucket k y) ≡ false) (keys_of es) →
      AllByRecursion (λ r. is_at (by_bucket k) r.0 ≡ false) es
  absent_keys k [] h = tt
  absent_keys k (r ∷ es) h = (h.0, absent_keys k es h.1)

  count_step : (k : ℕ × ℕ) (r : (ℕ × ℕ) × V) (es : List ((ℕ × ℕ) × V)) (b : Bool) → is_eq (by_bucket k r.0) ≡ b →
      AllByRecursion (λ y. eq_by_cmp by_bucket r.0 y ≡ false) (keys_of es) →
      count_by (λ r. is_at (by_bucket k) r.0) es ≡ cond (is_some (lookup (is_at (by_bucket k)) es)) 1 0 →
      cond b 1 0 + count_by (λ r. is_at (by_bucket k) r.0) es ≡ cond (is_some (cond b (Some r.1) (lookup (is_at (by_bucket k)) es))) 1 0
  count_step k r es true e h rest =
      let apart = subst (λ l. AllByRecursion (λ y. is_eq (by_bucket l y) ≡ false) (keys_of es)) (key_is k r.0 e) h in
      ap (λ n. 1 + n) (count_nothing (λ r. is_at (by_bucket k) r.0) es (absent_keys k es apart))
  count_step k r es false e h rest = no_more _ ∙ rest

  -- of entries whose keys differ at most one has the key
  count_of_key : (k : ℕ × ℕ) (es : List ((ℕ × ℕ) × V)) → IsDistinct (eq_by_cmp by_bucket) (keys_of es) →
      count_by (λ r. is_at (by_bucket k) r.0) es ≡ cond (is_some (lookup (is_at (by_bucket k)) es)) 1 0
  count_of_key k [] u = refl
  count_of_key k (r ∷ es) u =
      count_cons (λ r. is_at (by_bucket k) r.0) r es
      ∙ count_step k r es (is_eq (by_bucket k r.0)) refl (IsDistinct-head (eq_by_cmp by_bucket) r.0 (keys_of es) u)
      (count_of_key k es (IsDistinct-tail (eq_by_cmp by_bucket) r.0 (keys_of es) u))

  abbrev Found : List ((ℕ × ℕ) × V) → List ((ℕ × ℕ) × V) → Type 0
  Found es rs = AllByRecursion (λ r. lookup (is_at (by_bucket r.0)) es ≡ Some r.1) rs

  found_past : (p : (ℕ × ℕ) × V) (es rs : List ((ℕ × ℕ) × V)) → AllByRecursion (λ y. is_eq (by_bucket p.0 y) ≡ false) (keys_of rs) →
      Found es rs → Found (p ∷ es) rs
  found_past p es [] h k = tt
  found_past p es (r ∷ rs) h k =
      (ap (λ b. cond b (Some p.1) (lookup (is_at (by_bucket r.0)) es)) (key_other p.0 r.0 h.0) ∙ k.0, found_past p es rs h.1 k.1)

  found_each : (es : List ((ℕ × ℕ) × V)) → IsDistinct (eq_by_cmp by_bucket) (keys_of es) → Found es es
  found_each [] u = tt
  found_each (p ∷ es) u = (
    ap (λ b. cond b (Some p.1) (lookup (is_at (by_bucket p.0)) es)) (key_itself p.0),
    found_past p es es (IsDistinct-head (eq_by_cmp by_bucket) p.0 (keys_of es) u)
        (found_each es (IsDistinct-tail (eq_by_cmp by_bucket) p.0 (keys_of es) u)),
  )

  found_by_filter : (es : List ((ℕ × ℕ) × V)) (t : (ℕ × ℕ) × V → Bool) (rs : List ((ℕ × ℕ) × V)) → Found es rs → Found es (filter t rs)
  found_by_filter es t [] h = tt
  found_by_filter es t (r ∷ rs) h =
      elim (t r) as (λ b. Found es (cond b (r ∷ filter t rs) (filter t rs)))
      [ true ↦ (h.0, found_by_filter es t rs h.1) | false ↦ found_by_filter es t rs h.1 ]

-- ---- the run of a strip

le_of : (a b : ℕ) → nat_le a b ≡ true → a ≤ b
le_of a b t = grind (arith, nat_tests)

low_by : (low z : ℕ) (r : Ordering) → nat_cmp low z ≡ r → low ≤ z → is_le r ≡ true
low_by low z Less e le = refl
low_by low z Equal e le = refl
low_by low z Greater e le = absurd (let lt : z < low = grind (arith, nat_tests) in omega (arith, lt, le))

high_by : (high z : ℕ) (r : Ordering) → nat_cmp high z ≡ r → z < high → is_le r ≡ false
high_by high z Less e lt = absurd (let l : high < z = grind (arith, nat_tests) in omega (arith, lt, l))
high_by high z Equal e lt = absurd (let l : high ≡ z = grind (arith, nat_tests) in omega (arith, lt, l))
high_by high z Greater e lt = refl

run_by : (strip x low high z : ℕ) (r : Ordering) → nat_cmp strip x ≡ r → low ≤ z → z < high →
    (is_le (ordering_then r (nat_cmp low z)) && not (is_le (ordering_then r (nat_cmp high z)))) ≡ eqb x strip
run_by strip x low high z Less e le lt = let other : eqb x strip ≡ false = grind (arith, nat_tests) in sym other
run_by strip x low high z Equal e le lt =
    let same : eqb x strip ≡ true = grind (arith, nat_tests) in
    (λ i. low_by low z (nat_cmp low z) refl le i && not (high_by high z (nat_cmp high z) refl lt i)) ∙ sym same
run_by strip x low high z Greater e le lt = let other : eqb x strip ≡ false = grind (arith, nat_tests) in sym other

and_and : (a b : Bool) → (a && (b && true)) ≡ ((a && b) && true)
and_and true b = refl
and_and false b = refl

all_from_recursion : {X : Type 0} (P : X → Type 0) (xs : List X) → AllByRecursion P xs → All P xs
all_from_recursion P [] h = All-nil P
all_from_recursion P (x ∷ xs) h = All-append P (x ∷ []) xs (All-push P [] x (All-nil P) h.0) (all_from_recursion P xs h.1)

-- a greater number is in no lower part of that width
part_rises : (a b w : ℕ) → 0 < w → a ≤ b → a / w ≤ b / w
part_rises a b w some le =
    let part = div-mul-le_self a w in
    le-div (a / w) b w some (omega (arith, part, le))

z_within : (p : Pos) (o : Location) (d : ℕ) → is_within p d o ≡ true → (p.z - d ≤ o.pos.z) × (o.pos.z ≤ p.z + d)
z_within p o d t = let h = le_of (distance p o.pos) d t in (omega (arith, h), omega (arith, h))

row_within : (p : Pos) (o : Location) (d : ℕ) → is_within p d o ≡ true →
    ((p.z - d) / ROW_WIDTH ≤ o.pos.z / ROW_WIDTH) × (o.pos.z / ROW_WIDTH < (p.z + d) / ROW_WIDTH + 1)
row_within p o d t =
    let z = z_within p o d t in
    let low = part_rises (p.z - d) o.pos.z ROW_WIDTH (omega arith) z.0 in
    let high = part_rises o.pos.z (p.z + d) ROW_WIDTH (omega arith) z.1 in
    (low, omega (arith, high))

strip_by : (strip : ℕ) (p : Pos) (o : Location) (d : ℕ) (w : Bool) → is_within p d o ≡ w →
    (in_run strip p d (bucket_of o) && w) ≡ (eqb (o.pos.x / STRIP_WIDTH) strip && w)
strip_by strip p o d true e =
    let row = row_within p o d e in
    ap (λ b. b && true)
    (run_by strip (o.pos.x / STRIP_WIDTH) ((p.z - d) / ROW_WIDTH) ((p.z + d) / ROW_WIDTH + 1) (o.pos.z / ROW_WIDTH)
    (nat_cmp strip (o.pos.x / STRIP_WIDTH)) refl row.0 row.1)
strip_by strip p o d false e = and_no (in_run strip p d (bucket_of o)) ∙ sym (and_no (eqb (o.pos.x / STRIP_WIDTH) strip))

-- ---- what is found there

abbrev near_in : {Z : Type 0} → Pos → ℕ → Option Location → Entry Z → Bool
near_in p d None r = false
near_in p d (Some v) r = in_bucket p d r.0 v

near_once : {Z : Type 0} (p : Pos) (d : ℕ) (o : Option Location) (r : Entry Z) → one_if (in_bucket p d r.0) o ≡ cond (near_in p d o r) 1 0
near_once p d None r = refl
near_once p d (Some v) r = refl

swap_by : {Z : Type 0} (strip : ℕ) (p : Pos) (d : ℕ) (v : Location) (r : Entry Z) (t : Bool) → same_bucket (bucket_of v) r.0 ≡ t →
    (in_run strip p d r.0 && (is_within p d v && t)) ≡ ((in_run strip p d (bucket_of v) && is_within p d v) && t)
swap_by strip p d v r true e = and_and (in_run strip p d r.0) (is_within p d v) ∙ ap (λ c. (in_run strip p d c && is_within p d v) && true)
    (bucket_is (bucket_of v) r.0 e)
swap_by strip p d v r false e =
    ap (λ b. in_run strip p d r.0 && b) (and_no (is_within p d v))
    ∙ (and_no (in_run strip p d r.0) ∙ sym (and_no (in_run strip p d (bucket_of v) && is_within p d v)))

swapped : {Z : Type 0} (strip : ℕ) (p : Pos) (d : ℕ) (v : Location) (es : List (Entry Z)) →
    AllByRecursion (λ r. (in_run strip p d r.0 && in_bucket p d r.0 v)
    ≡ ((in_run strip p d (bucket_of v) && is_within p d v) && is_at (by_bucket (bucket_of v)) r.0)) es
swapped strip p d v [] = tt
swapped strip p d v (r ∷ es) = (
  swap_by strip p d v r (same_bucket (bucket_of v) r.0) refl
      ∙ ap (λ b. (in_run strip p d (bucket_of v) && is_within p d v) && b) (sym (tied (bucket_of v) r.0)),
  swapped strip p d v es,
)

no_and : {X : Type 0} (b : X → Bool) (xs : List X) → AllByRecursion (λ x. (b x && false) ≡ false) xs
no_and b [] = tt
no_and b (x ∷ xs) = (and_no (b x), no_and b xs)

module _ {Z : Type 0} (m : tree.BTreeMap ℕ Keyed) (s : Slab Spot) (b : Buckets Z) (i : IsIndexed m s b) (p : Pos) (d q : ℕ) where
  listed_in : (rs : List (Entry Z)) → Found b.entries rs → count_of q (hits_of p d s rs) ≡ count_by (near_in p d (home m s b i p d q)) rs
  listed_in [] h = refl
  listed_in (r ∷ rs) h =
      sum_by-append (λ x. cond (eqb x.0 q) 1 0) (hits p d s r.1.items) (hits_of p d s rs)
      ∙ ((λ j. ((ap (λ o. count_of q (hits p d s (option_map_or (λ v. v.items) o []))) (sym h.0)
      ∙ count_in_bucket m s b i p d q r.0) ∙ near_once p d (home m s b i p d q) r) j + listed_in rs h.1 j)
      ∙ sym (count_cons (near_in p d (home m s b i p d q)) r rs))

  there_by : (c : ℕ × ℕ) (o : Option (Vec ℕ Z)) (r k : ℕ) → slice_get (option_map_or (λ v. v.items) o []) r ≡ Some k → is_some o ≡ true
  there_by c None r k h = absurd (none_some k h)
  there_by c (Some v) r k h = refl

  run_by_home : (strip : ℕ) (o : Option Keyed) → tree.get nat_cmp m q ≡ o → tree.IsOrdered by_bucket b →
      count_by (λ r. in_run strip p d r.0 && near_in p d (option_map (λ x. x.location) o) r) b.entries
      ≡ one_if (is_in_strip strip p d) (option_map (λ x. x.location) o)
  run_by_home strip None at ord = count_nothing _ b.entries (no_and (λ r. in_run strip p d r.0) b.entries)
  run_by_home strip (Some z) at ord =
      let v = z.location in
      let x = spot_of (get s z.key) q z.location (i.keyed q z at) in
      let location : v ≡ x.0.location = sym x.1.1.1 in
      let there : is_some (lookup (is_at (by_bucket (bucket_of v))) b.entries) ≡ true =
      there_by (bucket_of v) _ x.0.rank z.key (ap (λ w. slice_get (keys_in b (bucket_of w)) x.0.rank) location
      ∙ i.linked.ranked z.key x.0 x.1.0) in
      count_agree _ _ b.entries (swapped strip p d v b.entries)
      ∙ (all_or_none (in_run strip p d (bucket_of v) && is_within p d v) (λ r. is_at (by_bucket (bucket_of v)) r.0) b.entries
      ∙ (ap (λ n. cond (in_run strip p d (bucket_of v) && is_within p d v) n 0)
      (count_of_key (bucket_of v) b.entries (IsDistinct-from_sorted by_bucket (keys_of b.entries) ord) ∙ ap (λ t. cond t 1 0) there)
      ∙ ap (λ t. cond t 1 0) (strip_by strip p v d (is_within p d v) refl)))

  -- of the near entities of the run one or none is the entity
  pub count_in_run : (strip : ℕ) → tree.IsOrdered by_bucket b →
      count_of q (hits_of p d s (run_of strip p d b.entries)) ≡ one_if (is_in_strip strip p d) (map.get (locations_of m.entries) q)
  count_in_run strip ord =
      let each = found_each b.entries (IsDistinct-from_sorted by_bucket (keys_of b.entries) ord) in
      listed_in (run_of strip p d b.entries) (found_by_filter b.entries (λ r. in_run strip p d r.0) b.entries each)
      ∙ (count_by_filter (λ r. in_run strip p d r.0) (near_in p d (home m s b i p d q)) b.entries
      ∙ (run_by_home strip (tree.get nat_cmp m q) refl ord ∙ ap (one_if (is_in_strip strip p d)) (sym (location_of_entity m q))))

-- ---- and at its location

module _ {Z : Type 0} (m : tree.BTreeMap ℕ Keyed) (s : Slab Spot) (b : Buckets Z) (i : IsIndexed m s b) (p : Pos) (d : ℕ) where
  abbrev IsLocated : ℕ × Location → Type 0
  IsLocated x = map.get (locations_of m.entries) x.0 ≡ Some x.1

  located_spot : (k : ℕ) (x : Spot) → get s k ≡ Some x → IsLocated (seen x)
  located_spot k x at =
      location_of_entity m x.entity
      ∙ ap (option_map (λ z. z.location)) (i.known k x.entity x.location (ap (option_map seen) at))

  located_by : (rest : List (ℕ × Location)) (x : Spot) (w : Bool) → IsLocated (seen x) → AllByRecursion IsLocated rest →
      AllByRecursion IsLocated (cons_option (cond w (Some (seen x)) None) rest)
  located_by rest x true h k = (h, k)
  located_by rest x false h k = k

  located_step : (k : ℕ) (o : Option Spot) (rest : List (ℕ × Location)) → get s k ≡ o → AllByRecursion IsLocated rest →
      AllByRecursion IsLocated (cons_option (near_at p d o) rest)
  located_step k None rest at h = h
  located_step k (Some x) rest at h = located_by rest x (is_within p d x.location) (located_spot k x at) h

  located_hits : (ks : List ℕ) → AllByRecursion IsLocated (hits p d s ks)
  located_hits [] = tt
  located_hits (k ∷ ks) = located_step k (get s k) (hits p d s ks) refl (located_hits ks)

  pub located_in_run : (rs : List (Entry Z)) → AreLocated (locations_of m.entries) (hits_of p d s rs)
  located_in_run [] = All-nil IsLocated
  located_in_run (r ∷ rs) =
      All-append IsLocated (hits p d s r.1.items) (hits_of p d s rs)
      (all_from_recursion IsLocated (hits p d s r.1.items) (located_hits r.1.items)) (located_in_run rs)

-- ---- after a strip

module _ {Z : Type 0} (m : tree.BTreeMap ℕ Keyed) (s : Slab Spot) (b : Buckets Z) (i : IsIndexed m s b) (ord : tree.IsOrdered by_bucket b)
    (p : Pos)
    (d strip : ℕ) (old new : List (ℕ × Location)) where
  pub counted_after : {E : Type 0} (r : Result Bool E) →
      IfOk r (λ w. w ≡ true → new ≡ old ++ hits_of p d s (run_of strip p d b.entries)) →
      IfOk r (λ w. w ≡ true → (q : ℕ) →
      count_of q new ≡ count_of q old + one_if (is_in_strip strip p d) (map.get (locations_of m.entries) q))
  counted_after (Err e) h = tt
  counted_after (Ok w) h = λ whole q.
      ap (count_of q) (h whole)
      ∙ (sum_by-append (λ x. cond (eqb x.0 q) 1 0) old (hits_of p d s (run_of strip p d b.entries))
      ∙ ap (λ n. count_of q old + n) (count_in_run m s b i p d q strip ord))

  pub located_after : {E : Type 0} (r : Result Bool E) →
      IfOk r (λ w. w ≡ true → new ≡ old ++ hits_of p d s (run_of strip p d b.entries)) → AreLocated (locations_of m.entries) old →
      IfOk r (λ w. w ≡ true → AreLocated (locations_of m.entries) new)
  located_after (Err e) h k = tt
  located_after (Ok w) h k = λ whole.
      subst (AreLocated (locations_of m.entries)) (sym (h whole))
      (All-append (λ x. map.get (locations_of m.entries) x.0 ≡ Some x.1) old (hits_of p d s (run_of strip p d b.entries)) k
      (located_in_run m s b i p d (run_of strip p d b.entries)))

-- ---- all strips

-- a location in a strip below this one, at distance at most d from p
abbrev pub is_below_strip : ℕ → Pos → ℕ → Location → Bool
is_below_strip strip p d o = nat_lt (o.pos.x / STRIP_WIDTH) strip && is_within p d o

one_more : (x strip : ℕ) (w : Bool) → cond (ltb x strip && w) 1 0 + cond (eqb x strip && w) 1 0 ≡ cond (ltb x (strip + 1) && w) 1 0
one_more x strip true = grind (arith, nat_tests)
one_more x strip false =
    (λ i. cond (and_no (ltb x strip) i) 1 0 + cond (and_no (eqb x strip) i) 1 0) ∙ ap (λ b. cond b 1 0) (sym (and_no (ltb x (strip + 1))))

pub one_strip_more : (strip : ℕ) (p : Pos) (d : ℕ) (o : Option Location) →
    one_if (is_below_strip strip p d) o + one_if (is_in_strip strip p d) o ≡ one_if (is_below_strip (strip + 1) p d) o
one_strip_more strip p d None = refl
one_strip_more strip p d (Some o) = one_more (o.pos.x / STRIP_WIDTH) strip (is_within p d o)

x_within : (p : Pos) (o : Location) (d : ℕ) → is_within p d o ≡ true → (p.x - d ≤ o.pos.x) × (o.pos.x ≤ p.x + d)
x_within p o d t = let h = le_of (distance p o.pos) d t in (omega (arith, h), omega (arith, h))

first_by : (p : Pos) (o : Location) (d : ℕ) (w : Bool) → is_within p d o ≡ w → (nat_lt (o.pos.x / STRIP_WIDTH) (first_strip p d) && w)
    ≡ false
first_by p o d true e =
    let le = part_rises (p.x - d) o.pos.x STRIP_WIDTH (omega arith) (x_within p o d e).0 in
    let no : ltb (o.pos.x / STRIP_WIDTH) (first_strip p d) ≡ false = grind (arith, nat_tests) in
    ap (λ b. b && true) no
first_by p o d false e = and_no _

pub none_below_first : (p : Pos) (d : ℕ) (o : Option Location) → one_if (is_below_strip (first_strip p d) p d) o ≡ 0
none_below_first p d None = refl
none_below_first p d (Some o) = ap (λ b. cond b 1 0) (first_by p o d (is_within p d o) refl)

end_by : (p : Pos) (o : Location) (d : ℕ) (w : Bool) → is_within p d o ≡ w → (nat_lt (o.pos.x / STRIP_WIDTH) (end_strip p d) && w) ≡ w
end_by p o d true e =
    let le = part_rises o.pos.x (p.x + d) STRIP_WIDTH (omega arith) (x_within p o d e).1 in
    let yes : ltb (o.pos.x / STRIP_WIDTH) (end_strip p d) ≡ true = grind (arith, nat_tests) in
    ap (λ b. b && true) yes
end_by p o d false e = and_no _

pub all_below_end : (p : Pos) (d : ℕ) (o : Option Location) → one_if (is_below_strip (end_strip p d) p d) o ≡ one_if (is_within p d) o
all_below_end p d None = refl
all_below_end p d (Some o) = ap (λ b. cond b 1 0) (end_by p o d (is_within p d o) refl)
