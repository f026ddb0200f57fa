-- How often an entity is among what a query finds: in a bucket, in a strip, and in all strips.
use Rattle.std.proofs.Common.{◌≡◌, ◌+◌, ℕ, zero, suc, Bool, true, false, cond, ◌&&◌}
use Rattle.std.proofs.Common.{eqb}
use Rattle.std.proofs.Common.{List, [], ◌∷◌, Option, None, Some, refl, sym, ap, ◌∙◌, option_map, slice_get}
use Rattle.std.proofs.Common.{arith}
use Rattle.std.specs.Ordering.{nat_cmp}
use Rattle.std.specs.BTreeMap as tree
use Rattle.std.specs.List.{AllByRecursion, cons_option, count_by}
use Rattle.std.proofs.lemmas.List.Sums.{sum_by-cons}
use Rattle.seam_geo.specs.declared.pos.Pos.{Pos}
use Rattle.slab.specs.Slab.{Slab, get}
use Rattle.seam_range.specs.declared.Location.{Location}
use Rattle.seam_range.specs.declared.Keyed.{Keyed}
use Rattle.seam_range.specs.declared.Spot.{Spot}
use Rattle.seam_range.specs.Locations.{is_within}
use Rattle.seam_range.specs.Indexed.{bucket_of, same_bucket, seen, Buckets, keys_in, IsIndexed}
use Rattle.seam_range.specs.Found.{count_of, one_if, near_at, hits}
use Rattle.seam_range.proofs.Ranks.{none_some, some_is}
use Rattle.seam_range.proofs.Links.{number_is, same_again, bucket_is, bucket_itself}

-- ---- counts

pub count_cons : {X : Type 0} (t : X → Bool) (x : X) (xs : List X) → count_by t (x ∷ xs) ≡ cond (t x) 1 0 + count_by t xs
count_cons t x xs = sum_by-cons (λ y. cond (t y) 1 0) x xs

pub no_more : (n : ℕ) → 0 + n ≡ n
no_more n = omega arith

-- none passes
pub count_none : {X : Type 0} (t : X → Bool) (xs : List X) → ((i : ℕ) (x : X) → slice_get xs i ≡ Some x → t x ≡ false) → count_by t xs ≡ 0
count_none t [] h = refl
count_none t (x ∷ xs) h = count_cons t x xs ∙ (λ j. cond (h 0 x refl j) 1 0 + count_none t xs (λ i y at. h (suc i) y at) j)

-- one alone passes
pub count_one : {X : Type 0} (t : X → Bool) (xs : List X) (i : ℕ) (x : X) → slice_get xs i ≡ Some x → t x ≡ true →
    ((j : ℕ) (y : X) → slice_get xs j ≡ Some y → (j ≡ i → ⊥) → t y ≡ false) → count_by t xs ≡ 1
count_one t [] i x at hit h = absurd (none_some x at)
count_one t (y ∷ xs) zero x at hit h =
    count_cons t y xs
    ∙ (λ j. cond ((ap t (some_is y x at) ∙ hit) j) 1 0 + count_none t xs (λ k z there. h (suc k) z there (λ e. omega (arith, e))) j)
count_one t (y ∷ xs) (suc i) x at hit h =
    count_cons t y xs
    ∙ (λ j. cond (h 0 y refl (λ e. omega (arith, e)) j) 1 0
    + count_one t xs i x at hit (λ k z there n. h (suc k) z there (λ e. n (omega (arith, e)))) j)

pub count_agree : {X : Type 0} (t u : X → Bool) (xs : List X) → AllByRecursion (λ x. t x ≡ u x) xs → count_by t xs ≡ count_by u xs
count_agree t u [] h = refl
count_agree t u (x ∷ xs) h =
    count_cons t x xs ∙ ((λ i. cond (h.0 i) 1 0 + count_agree t u xs h.1 i) ∙ sym (count_cons u x xs))

pub count_nothing : {X : Type 0} (t : X → Bool) (xs : List X) → AllByRecursion (λ x. t x ≡ false) xs → count_by t xs ≡ 0
count_nothing t [] h = refl
count_nothing t (x ∷ xs) h = count_cons t x xs ∙ (λ i. cond (h.0 i) 1 0 + count_nothing t xs h.1 i)

pub and_no : (a : Bool) → (a && false) ≡ false
and_no true = refl
and_no false = refl

not_true : (b : Bool) → (b ≡ true → ⊥) → b ≡ false
not_true true h = absurd (h refl)
not_true false h = refl

pub and_parts : (a b : Bool) → (a && b) ≡ true → (a ≡ true) × (b ≡ true)
and_parts true b h = (refl, h)
and_parts false b h = cc

both : (a b : Bool) → a ≡ true → b ≡ true → (a && b) ≡ true
both a b h k = λ i. h i && k i

-- ---- a bucket

-- whether the entity is at the key, and near
abbrev hit_is : Pos → ℕ → ℕ → Option Spot → Bool
hit_is p d q None = false
hit_is p d q (Some x) = is_within p d x.location && eqb x.entity q

hits_by : (q : ℕ) (x : Spot) (rest : List (ℕ × Location)) (w : Bool) →
    count_of q (cons_option (cond w (Some (seen x)) None) rest) ≡ cond (w && eqb x.entity q) 1 0 + count_of q rest
hits_by q x rest true = count_cons (λ r. eqb r.0 q) (seen x) rest
hits_by q x rest false = sym (no_more _)

hits_step : (p : Pos) (d q : ℕ) (o : Option Spot) (rest : List (ℕ × Location)) →
    count_of q (cons_option (near_at p d o) rest) ≡ cond (hit_is p d q o) 1 0 + count_of q rest
hits_step p d q None rest = sym (no_more _)
hits_step p d q (Some x) rest = hits_by q x rest (is_within p d x.location)

count_hits : (p : Pos) (d q : ℕ) (s : Slab Spot) (ks : List ℕ) → count_of q (hits p d s ks) ≡ count_by (λ k. hit_is p d q (get s k)) ks
count_hits p d q s [] = refl
count_hits p d q s (k ∷ ks) =
    hits_step p d q (get s k) (hits p d s ks)
    ∙ ((λ i. cond (hit_is p d q (get s k)) 1 0 + count_hits p d q s ks i) ∙ sym (count_cons (λ k. hit_is p d q (get s k)) k ks))

no_true : false ≡ true → ⊥
no_true e = cc

hit_spot : (p : Pos) (d q : ℕ) (o : Option Spot) → hit_is p d q o ≡ true →
    (y : Spot) × ((o ≡ Some y) × ((is_within p d y.location ≡ true) × (eqb y.entity q ≡ true)))
hit_spot p d q None h = absurd (no_true h)
hit_spot p d q (Some y) h = let f = and_parts (is_within p d y.location) (eqb y.entity q) h in (y, (refl, f))

pub spot_of : (o : Option Spot) (e : ℕ) (p : Location) → option_map seen o ≡ Some (e, p) →
    (x : Spot) × ((o ≡ Some x) × ((x.entity ≡ e) × (x.location ≡ p)))
spot_of None e p h = absurd (none_some (e, p) h)
spot_of (Some x) e p h = let f = some_is (seen x) (e, p) h in (x, (refl, (ap (λ r. r.0) f, ap (λ r. r.1) f)))

-- a near location in the bucket
abbrev pub in_bucket : Pos → ℕ → ℕ × ℕ → Location → Bool
in_bucket p d c v = is_within p d v && same_bucket (bucket_of v) c

module _ {Z : Type 0} (m : tree.BTreeMap ℕ Keyed) (s : Slab Spot) (b : Buckets Z) (i : IsIndexed m s b) (p : Pos) (d q : ℕ) where
  -- at a key where the entity is near it has its entry
  hit_key : (k : ℕ) → hit_is p d q (get s k) ≡ true → (y : Spot) ×
      ((get s k ≡ Some y) × ((is_within p d y.location ≡ true) × (tree.get nat_cmp m q ≡ Some (record { key = k; location = y.location }))))
  hit_key k h =
      let f = hit_spot p d q (get s k) h in
      let name : f.0.entity ≡ q = sym (number_is f.0.entity q f.1.1.1) in
      (f.0, (f.1.0, (f.1.1.0, i.known k q f.0.location (ap (option_map seen) f.1.0 ∙ (λ j. Some (name j, f.0.location))))))

  -- that key is the one of its entry
  key_of_hit : (z : Keyed) (k : ℕ) (v : Location) → tree.get nat_cmp m q ≡ Some z →
      tree.get nat_cmp m q ≡ Some (record { key = k; location = v }) →
      z.key ≡ k
  key_of_hit z k v at hit = ap (λ w. w.key) (some_is z (record { key = k; location = v }) (sym at ∙ hit))

  bucket_by : (c : ℕ × ℕ) (z : Keyed) (x : Spot) (t : Bool) → tree.get nat_cmp m q ≡ Some z → get s z.key ≡ Some x → x.entity ≡ q →
      in_bucket p d c x.location ≡ t → count_by (λ k. hit_is p d q (get s k)) (keys_in b c) ≡ cond t 1 0
  bucket_by c z x true at there name inside =
      let f = and_parts (is_within p d x.location) (same_bucket (bucket_of x.location) c) inside in
      let home : c ≡ bucket_of x.location = bucket_is (bucket_of x.location) c f.1 in
      count_one (λ k. hit_is p d q (get s k)) (keys_in b c) x.rank z.key
      (ap (λ e. slice_get (keys_in b e) x.rank) home ∙ i.linked.ranked z.key x there)
      (ap (hit_is p d q) there ∙ both (is_within p d x.location) (eqb x.entity q) f.0 (ap (λ e. eqb e q) name ∙ same_again q))
      (λ j k listed other. not_true (hit_is p d q (get s k)) (λ hit.
      let y = hit_key k hit in
      let same : z.key ≡ k = key_of_hit z k y.0.location at y.1.1.1 in
      let l = i.linked.listed c j k listed in
      let one : l.0 ≡ x = some_is l.0 x (sym l.1.0 ∙ (ap (get s) (sym same) ∙ there)) in
      other (sym l.1.1.1 ∙ ap (λ w. w.rank) one)))
  bucket_by c z x false at there name outside =
      count_none (λ k. hit_is p d q (get s k)) (keys_in b c) (λ j k listed. not_true (hit_is p d q (get s k)) (λ hit.
      let y = hit_key k hit in
      let same : z.key ≡ k = key_of_hit z k y.0.location at y.1.1.1 in
      let l = i.linked.listed c j k listed in
      let one : l.0 ≡ x = some_is l.0 x (sym l.1.0 ∙ (ap (get s) (sym same) ∙ there)) in
      let seen : y.0 ≡ x = some_is y.0 x (sym y.1.0 ∙ (ap (get s) (sym same) ∙ there)) in
      let home : bucket_of x.location ≡ c = ap (λ w. bucket_of w.location) (sym one) ∙ l.1.1.0 in
      let in_it = both (is_within p d x.location) (same_bucket (bucket_of x.location) c)
      (ap (λ w. is_within p d w.location) (sym seen) ∙ y.1.1.0)
      (ap (same_bucket (bucket_of x.location)) (sym home) ∙ bucket_itself (bucket_of x.location)) in
      let f : false ≡ true = sym outside ∙ in_it in cc))

  bucket_of_entity : (c : ℕ × ℕ) (o : Option Keyed) → tree.get nat_cmp m q ≡ o →
      count_by (λ k. hit_is p d q (get s k)) (keys_in b c) ≡ one_if (in_bucket p d c) (option_map (λ x. x.location) o)
  bucket_of_entity c None at =
      count_none (λ k. hit_is p d q (get s k)) (keys_in b c) (λ j k listed. not_true (hit_is p d q (get s k)) (λ hit.
      let y = hit_key k hit in
      none_some (record { key = k; location = y.0.location }) (sym at ∙ y.1.1.1)))
  bucket_of_entity c (Some z) at =
      let x = spot_of (get s z.key) q z.location (i.keyed q z at) in
      bucket_by c z x.0 (in_bucket p d c x.0.location) at x.1.0 x.1.1.0 refl
      ∙ ap (λ v. cond (in_bucket p d c v) 1 0) x.1.1.1

  -- the location of the entity
  abbrev pub home : Option Location
  home = option_map (λ x. x.location) (tree.get nat_cmp m q)

  pub count_in_bucket : (c : ℕ × ℕ) → count_of q (hits p d s (keys_in b c)) ≡ one_if (in_bucket p d c) home
  count_in_bucket c = count_hits p d q s (keys_in b c) ∙ bucket_of_entity c (tree.get nat_cmp m q) refl
