-- Spots and buckets keep up with each other when a key is put into a bucket, or taken out.
use Rattle.std.proofs.Common.{◌≡◌, ◌≢◌, ◌<◌, ◌≤◌, ltb, ◌⊎◌, inl, inr, ℕ, Bool, true, false, cond, ◌&&◌, eqb, ◌+◌, List, [], ◌∷◌, ◌++◌}
use Rattle.std.proofs.Common.{length, Option}
use Rattle.std.proofs.Common.{None, Some, refl, sym, ap, ◌∙◌, subst, arith}
use Rattle.std.specs.Prelude.{slice_get, slice_set}
use Rattle.std.proofs.lemmas.Bool.Decides.{nat_tests}
use Rattle.std.specs.Ordering.{nat_cmp, is_eq, ordering_then}
use Rattle.std.specs.declared.cmp.Ordering.{Ordering}
use Rattle.std.specs.declared.cmp.Ordering.TheVariants.{Less, Equal, Greater}
use Rattle.std.specs.Cmp.{unsigned_tied}
use Rattle.std.specs.Option.{option_map_or}
use Rattle.std.specs.Prelude.{Vec}
use Rattle.std.specs.BTreeMap as tree
use Rattle.std.specs.BTreeMap.{is_at}
use Rattle.std.proofs.Math.Logic.{⊎_elim}
use Rattle.slab.specs.Slab.{Slab, get, Updates}
use Rattle.seam_range.specs.declared.Spot.{Spot}
use Rattle.seam_range.specs.Indexed.{bucket_of, same_bucket, by_bucket, Buckets, keys_in, IsBucketSet, IsSwapped, IsTaken, IsSpotAt}
use Rattle.seam_range.specs.Indexed.{AreLinked, HasSurplus}
use Rattle.seam_range.proofs.Ranks.{none_some, some_is, get_within, get_kept, get_last, get_of_push, get_of_set, get_set_here}
use Rattle.seam_range.proofs.Ranks.{get_set_other}

pub number_is : (a b : ℕ) → eqb a b ≡ true → b ≡ a
number_is a b t = grind (arith, nat_tests)

pub same_again : (a : ℕ) → eqb a a ≡ true
same_again a = grind (arith, nat_tests)

and_parts : (a b : Bool) → (a && b) ≡ true → (a ≡ true) × (b ≡ true)
and_parts true b h = (refl, h)
and_parts false b h = cc

-- the second bucket is the first, or another
pub bucket_is : (b c : ℕ × ℕ) → same_bucket b c ≡ true → c ≡ b
bucket_is b c t = let h = and_parts (eqb b.0 c.0) (eqb b.1 c.1) t in λ i. (number_is b.0 c.0 h.0 i, number_is b.1 c.1 h.1 i)

pub bucket_itself : (b : ℕ × ℕ) → same_bucket b b ≡ true
bucket_itself b = λ i. same_again b.0 i && same_again b.1 i

then_eq : (r t : Ordering) → is_eq (ordering_then r t) ≡ (is_eq r && is_eq t)
then_eq Less t = refl
then_eq Equal t = refl
then_eq Greater t = refl

-- whether two keys of the map of buckets are one
pub tied : (a b : ℕ × ℕ) → is_eq (by_bucket a b) ≡ same_bucket a b
tied a b = then_eq (nat_cmp a.0 b.0) (nat_cmp a.1 b.1) ∙ (λ i. unsigned_tied a.0 b.0 i && unsigned_tied a.1 b.1 i)

other_bucket : (b c : ℕ × ℕ) → same_bucket b c ≡ false → c ≡ b → ⊥
other_bucket b c f e = let h : true ≡ false = sym (bucket_itself b) ∙ (ap (same_bucket b) (sym e) ∙ f) in cc

pub is_or_not : (a k : ℕ) → (k ≡ a) ⊎ (k ≢ a)
is_or_not a k = elim (eqb a k) as (λ t. eqb a k ≡ t → (k ≡ a) ⊎ (k ≢ a)) [
  | true ↦ λ t. inl (number_is a k t)
  | false ↦ λ t. inr (λ e. let h : true ≡ false = sym (same_again a) ∙ (ap (eqb a) (sym e) ∙ t) in cc)
] refl

-- what is at a key after a write of a slot
pub at_key : (s t : Slab Spot) (key k : ℕ) (slot : Option Spot) (x : Spot) → Updates s t key slot → get t k ≡ Some x →
    ((k ≡ key) × (slot ≡ Some x)) ⊎ ((k ≢ key) × (get s k ≡ Some x))
at_key s t key k slot x u h = elim (is_or_not key k) [
  | inl e ↦ inl (e, sym u.changed ∙ (ap (get t) (sym e) ∙ h))
  | inr n ↦ inr (n, sym (u.others k n) ∙ h)
]

module _ {Z : Type 0} (m n : Buckets Z) (b : ℕ × ℕ) where
  -- the keys of a bucket after those of one were set
  set_by : (c : ℕ × ℕ) (ks : List ℕ) (t : Bool) → same_bucket b c ≡ t → keys_in n c ≡ cond t ks (keys_in m c) →
      ((c ≡ b) × (keys_in n c ≡ ks)) ⊎ ((c ≡ b → ⊥) × (keys_in n c ≡ keys_in m c))
  set_by c ks true e h = inl (bucket_is b c e, h)
  set_by c ks false e h = inr (other_bucket b c e, h)

  pub keys_at : (c : ℕ × ℕ) (ks : List ℕ) → IsBucketSet m n b ks →
      ((c ≡ b) × (keys_in n c ≡ ks)) ⊎ ((c ≡ b → ⊥) × (keys_in n c ≡ keys_in m c))
  keys_at c ks h = set_by c ks (same_bucket b c) refl (h c)

  -- what is listed in the bucket that one key was pushed to
  pub listed_push : (key : ℕ) (c : ℕ × ℕ) (i k : ℕ) → IsBucketSet m n b (keys_in m b ++ key ∷ []) → slice_get (keys_in n c) i ≡ Some k →
      (slice_get (keys_in m c) i ≡ Some k) ⊎ ((c ≡ b) × ((i ≡ length (keys_in m b)) × (k ≡ key)))
  listed_push key c i k h at = elim (keys_at c (keys_in m b ++ key ∷ []) h) [
    | inl p ↦ ⊎_elim (λ q. inl (ap (λ d. slice_get (keys_in m d) i) p.0 ∙ q)) (λ q. inr (p.0, q))
        (get_of_push (keys_in m b) key i k (ap (λ ks. slice_get ks i) (sym p.1) ∙ at))
    | inr p ↦ inl (ap (λ ks. slice_get ks i) (sym p.1) ∙ at)
  ]

  -- what was listed is listed
  pub kept_push : (key : ℕ) (c : ℕ × ℕ) (i k : ℕ) → IsBucketSet m n b (keys_in m b ++ key ∷ []) → slice_get (keys_in m c) i ≡ Some k →
      slice_get (keys_in n c) i ≡ Some k
  kept_push key c i k h at = elim (keys_at c (keys_in m b ++ key ∷ []) h) [
    | inl p ↦ ap (λ ks. slice_get ks i) p.1 ∙ get_kept (keys_in m b) (key ∷ []) i k (ap (λ d. slice_get (keys_in m d) i) (sym p.0) ∙ at)
    | inr p ↦ ap (λ ks. slice_get ks i) p.1 ∙ at
  ]

  pub pushed : (key : ℕ) → IsBucketSet m n b (keys_in m b ++ key ∷ []) → slice_get (keys_in n b) (length (keys_in m b)) ≡ Some key
  pushed key h =
      ap (λ ks. slice_get ks (length (keys_in m b))) (h b ∙ ap (λ t. cond t (keys_in m b ++ key ∷ []) (keys_in m b)) (bucket_itself b))
      ∙ get_last (keys_in m b) key

module _ {Z : Type 0} (m n : Buckets Z) (s t : Slab Spot) where
  -- a new spot, whose key is pushed
  pub linked_when_new : (key : ℕ) (x : Spot) → AreLinked s m → get s key ≡ None → Updates s t key (Some x) →
      IsBucketSet m n (bucket_of x.location) (keys_in m (bucket_of x.location) ++ key ∷ []) →
      x.rank ≡ length (keys_in m (bucket_of x.location)) →
      AreLinked t n
  linked_when_new key x l none u h r = record {
    ranked = λ k y at. elim (at_key s t key k (Some x) y u at) [
      | inl p ↦ subst (λ z. slice_get (keys_in n (bucket_of z.location)) z.rank ≡ Some k) (some_is x y p.1)
          (ap (slice_get (keys_in n (bucket_of x.location))) r ∙ (pushed m n (bucket_of x.location) key h ∙ ap Some (sym p.0)))
      | inr p ↦ kept_push m n (bucket_of x.location) key (bucket_of y.location) y.rank k h (l.ranked k y p.1)
    ];
    listed = λ c i k at. elim (listed_push m n (bucket_of x.location) key c i k h at) [
      | inl p ↦ let f = l.listed c i k p in
          (f.0, (u.others k (λ e. none_some f.0 (sym none ∙ (ap (get s) (sym e) ∙ f.1.0))) ∙ f.1.0, f.1.1))
      | inr p ↦ (x, (ap (get t) p.1.1 ∙ u.changed, (sym p.0, r ∙ sym p.1.0)))
    ];
  }

  -- a spot that was written over, and its key pushed to another bucket: its former rank is left
  pub surplus_when_moved : (key : ℕ) (old x : Spot) → AreLinked s m → get s key ≡ Some old → Updates s t key (Some x) →
      IsBucketSet m n (bucket_of x.location) (keys_in m (bucket_of x.location) ++ key ∷ []) →
      x.rank ≡ length (keys_in m (bucket_of x.location)) →
      (bucket_of old.location ≡ bucket_of x.location → ⊥) → HasSurplus t n (bucket_of old.location) old.rank
  surplus_when_moved key old x l was u h r other = record {
    ranked = λ k y at. elim (at_key s t key k (Some x) y u at) [
      | inl p ↦ subst (λ z. slice_get (keys_in n (bucket_of z.location)) z.rank ≡ Some k) (some_is x y p.1)
          (ap (slice_get (keys_in n (bucket_of x.location))) r ∙ (pushed m n (bucket_of x.location) key h ∙ ap Some (sym p.0)))
      | inr p ↦ kept_push m n (bucket_of x.location) key (bucket_of y.location) y.rank k h (l.ranked k y p.1)
    ];
    listed = λ c i k at no. elim (listed_push m n (bucket_of x.location) key c i k h at) [
      | inl p ↦ let f = l.listed c i k p in
          let apart : k ≢ key = λ e.
          let same : f.0 ≡ old = some_is f.0 old (sym f.1.0 ∙ (ap (get s) e ∙ was)) in
          no (sym f.1.1.0 ∙ ap (λ z. bucket_of z.location) same, sym f.1.1.1 ∙ ap (λ z. z.rank) same) in
          (f.0, (u.others k apart ∙ f.1.0, f.1.1))
      | inr p ↦ (x, (ap (get t) p.1.1 ∙ u.changed, (sym p.0, r ∙ sym p.1.0)))
    ];
    apart = λ k y at same. elim (at_key s t key k (Some x) y u at) [
      | inl p ↦ other (sym same.0 ∙ ap (λ z. bucket_of z.location) (sym (some_is x y p.1)))
      | inr p ↦ p.0 (some_is k key (sym (l.ranked k y p.1)
          ∙ ((λ i. slice_get (keys_in m (same.0 i)) (same.1 i)) ∙ l.ranked key old was)))
    ];
    within = get_within (keys_in n (bucket_of old.location)) old.rank key
        (kept_push m n (bucket_of x.location) key (bucket_of old.location) old.rank key h (l.ranked key old was));
  }

  -- a spot that was taken out, while its key is in its bucket
  pub surplus_when_removed : (key : ℕ) (old : Spot) → AreLinked s m → get s key ≡ Some old → Updates s t key None →
      HasSurplus t m (bucket_of old.location) old.rank
  surplus_when_removed key old l was u = record {
    ranked = λ k y at. elim (at_key s t key k None y u at) [
      | inl p ↦ absurd (none_some y p.1)
      | inr p ↦ l.ranked k y p.1
    ];
    listed = λ c i k at no.
        let f = l.listed c i k at in
        let apart : k ≢ key = λ e.
        let same : f.0 ≡ old = some_is f.0 old (sym f.1.0 ∙ (ap (get s) e ∙ was)) in
        no (sym f.1.1.0 ∙ ap (λ z. bucket_of z.location) same, sym f.1.1.1 ∙ ap (λ z. z.rank) same) in
        (f.0, (u.others k apart ∙ f.1.0, f.1.1));
    apart = λ k y at same. elim (at_key s t key k None y u at) [
      | inl p ↦ none_some y p.1
      | inr p ↦ p.0 (some_is k key (sym (l.ranked k y p.1)
          ∙ ((λ i. slice_get (keys_in m (same.0 i)) (same.1 i)) ∙ l.ranked key old was)))
    ];
    within = get_within (keys_in m (bucket_of old.location)) old.rank key (l.ranked key old was);
  }

-- ---- the key at the surplus rank goes

length_push : (ks : List ℕ) (x : ℕ) → length (ks ++ x ∷ []) ≡ length ks + 1
length_push [] x = omega arith
length_push (y ∷ ks) x = let h = length_push ks x in omega (arith, h)

module _ {Z : Type 0} (m n : Buckets Z) (s : Slab Spot) (b : ℕ × ℕ) (i : ℕ) (l : HasSurplus s m b i) (kept : List ℕ) (last : ℕ)
    (was : keys_in m b ≡ kept ++ last ∷ []) where
  was_kept : (j k : ℕ) → slice_get kept j ≡ Some k → slice_get (keys_in m b) j ≡ Some k
  was_kept j k h = ap (λ ks. slice_get ks j) was ∙ get_kept kept (last ∷ []) j k h

  -- the key of a spot of the bucket is kept, or the last
  spot_in : (k : ℕ) (y : Spot) → get s k ≡ Some y → bucket_of y.location ≡ b →
      (slice_get kept y.rank ≡ Some k) ⊎ ((y.rank ≡ length kept) × (k ≡ last))
  spot_in k y at e =
      get_of_push kept last y.rank k
      (ap (λ ks. slice_get ks y.rank) (sym was) ∙ (ap (λ d. slice_get (keys_in m d) y.rank) (sym e) ∙ l.ranked k y at))

  -- the rank was the last
  pub linked_when_last : IsBucketSet m n b kept → (i < length kept → ⊥) → AreLinked s n
  linked_when_last h past =
      let end : i ≡ length kept = let w = l.within in let e = ap length was ∙ length_push kept last in omega (arith, w, e, past) in record {
        ranked = λ k y at. elim (keys_at m n b (bucket_of y.location) kept h) [
          | inl p ↦ ap (λ ks. slice_get ks y.rank) p.1
              ∙ ⊎_elim (λ q. q) (λ q. absurd (l.apart k y at (p.0, q.0 ∙ sym end))) (spot_in k y at p.0)
          | inr p ↦ ap (λ ks. slice_get ks y.rank) p.1 ∙ l.ranked k y at
        ];
        listed = λ c j k at. elim (keys_at m n b c kept h) [
          | inl p ↦ let here = ap (λ ks. slice_get ks j) (sym p.1) ∙ at in
              l.listed c j k (ap (λ d. slice_get (keys_in m d) j) p.0 ∙ was_kept j k here)
              (λ e. past (subst (λ x. x < length kept) e.1 (get_within kept j k here)))
          | inr p ↦ l.listed c j k (ap (λ ks. slice_get ks j) (sym p.1) ∙ at) (λ e. p.0 e.0)
        ];
      }

  -- the spot of the last key, where that is not the surplus
  pub last_spot : i < length kept → IsSpotAt s b (length kept) last
  last_spot lt =
      l.listed b (length kept) last (ap (λ ks. slice_get ks (length kept)) was ∙ get_last kept last) (λ e. let r = e.1 in
      omega (arith, lt, r))

  module _ (t : Slab Spot) where
    -- the last key has the rank, and its spot is told
    pub linked_when_told : (old told : Spot) → IsBucketSet m n b (slice_set kept i last) → i < length kept → get s last ≡ Some old →
        Updates s t last (Some told) → told.location ≡ old.location → told.rank ≡ i → AreLinked t n
    linked_when_told old told h lt was_last u location rank =
        let f = last_spot lt in
        let same : f.0 ≡ old = some_is f.0 old (sym f.1.0 ∙ was_last) in
        let home : bucket_of told.location ≡ b = ap bucket_of location ∙ (ap (λ z. bucket_of z.location) (sym same) ∙ f.1.1.0) in
        let end : old.rank ≡ length kept = ap (λ z. z.rank) (sym same) ∙ f.1.1.1 in record {
          ranked = λ k y at. elim (at_key s t last k (Some told) y u at) [
            | inl p ↦ subst (λ z. slice_get (keys_in n (bucket_of z.location)) z.rank ≡ Some k) (some_is told y p.1)
                ((λ j. slice_get (keys_in n (home j)) (rank j))
                ∙ (ap (λ ks. slice_get ks i)
                (h b ∙ ap (λ v. cond v (slice_set kept i last) (keys_in m b)) (bucket_itself b))
                ∙ (get_set_here kept i last lt ∙ ap Some (sym p.0))))
            | inr p ↦ elim (keys_at m n b (bucket_of y.location) (slice_set kept i last) h) [
              | inl q ↦ ap (λ ks. slice_get ks y.rank) q.1
                  ∙ get_set_other kept i last y.rank k (λ e. l.apart k y p.1 (q.0, e))
                  (⊎_elim (λ r. r) (λ r. absurd (p.0 r.1)) (spot_in k y p.1 q.0))
              | inr q ↦ ap (λ ks. slice_get ks y.rank) q.1 ∙ l.ranked k y p.1
            ]
          ];
          listed = λ c j k at. elim (keys_at m n b c (slice_set kept i last) h) [
            | inl p ↦ elim (get_of_set kept i last j k (ap (λ ks. slice_get ks j) (sym p.1) ∙ at)) [
              | inl q ↦ (told, (ap (get t) q.1 ∙ u.changed, (home ∙ sym p.0, rank ∙ sym q.0)))
              | inr q ↦ let g = l.listed b j k (was_kept j k q.1) (λ e. q.0 e.1) in
                  let apart : k ≢ last = λ e.
                  let one : g.0 ≡ old = some_is g.0 old (sym g.1.0 ∙ (ap (get s) e ∙ was_last)) in
                  let r : j ≡ length kept = sym g.1.1.1 ∙ (ap (λ z. z.rank) one ∙ end) in
                  let w = get_within kept j k q.1 in omega (arith, r, w) in
                  (g.0, (u.others k apart ∙ g.1.0, (g.1.1.0 ∙ sym p.0, g.1.1.1)))
            ]
            | inr p ↦ let g = l.listed c j k (ap (λ ks. slice_get ks j) (sym p.1) ∙ at) (λ e. p.0 e.0) in
                let apart : k ≢ last = λ e.
                let one : g.0 ≡ old = some_is g.0 old (sym g.1.0 ∙ (ap (get s) e ∙ was_last)) in
                p.0 (sym g.1.1.0 ∙ (ap (λ z. bucket_of z.location) one ∙ (ap bucket_of (sym location) ∙ home))) in
                (g.0, (u.others k apart ∙ g.1.0, g.1.1))
          ];
        }

-- ---- a key that was taken out of its bucket

no_longer : (i n : ℕ) → ltb i n ≡ false → i < n → ⊥
no_longer i n f lt = absurd (let ge : n ≤ i = grind (arith, nat_tests) in omega (arith, ge, lt))

is_below : (i n : ℕ) → ltb i n ≡ true → i < n
is_below i n t = grind (arith, nat_tests)

module _ {Z : Type 0} (m n : Buckets Z) (s t : Slab Spot) (b : ℕ × ℕ) (i : ℕ) (l : HasSurplus s m b i) where
  none_by : (k : IsTaken m n b i None) (v : Bool) → ltb i (length k.here.kept) ≡ v → AreLinked s n
  none_by k true e = absurd (none_some k.here.last (k.here.told ∙ ap (λ w. cond w (Some k.here.last) None) e))
  none_by k false e =
      linked_when_last m n s b i l k.here.kept k.here.last k.here.was
      (subst (IsBucketSet m n b) (k.here.now ∙ ap (λ w. cond w (slice_set k.here.kept i k.here.last) k.here.kept) e) k.others)
      (no_longer i (length k.here.kept) e)

  -- none has its rank
  pub linked_when_none : IsTaken m n b i None → AreLinked s n
  linked_when_none k = none_by k (ltb i (length k.here.kept)) refl

  moved_by : (x : ℕ) (k : IsTaken m n b i (Some x)) (v : Bool) → ltb i (length k.here.kept) ≡ v →
      (i < length k.here.kept) × ((x ≡ k.here.last) × IsBucketSet m n b (slice_set k.here.kept i k.here.last))
  moved_by x k true e = (
    is_below i (length k.here.kept) e,
    (
      some_is x k.here.last (k.here.told ∙ ap (λ w. cond w (Some k.here.last) None) e),
      subst (IsBucketSet m n b) (k.here.now ∙ ap (λ w. cond w (slice_set k.here.kept i k.here.last) k.here.kept) e) k.others,
    ),
  )
  moved_by x k false e = absurd (none_some x (sym (k.here.told ∙ ap (λ w. cond w (Some k.here.last) None) e)))

  -- the one that has its rank now is a spot's
  pub spot_when_moved : (x : ℕ) → IsTaken m n b i (Some x) → (y : Spot) × (get s x ≡ Some y)
  spot_when_moved x k =
      let f = moved_by x k (ltb i (length k.here.kept)) refl in
      let g = last_spot m n s b i l k.here.kept k.here.last k.here.was f.0 in
      (g.0, ap (get s) f.1.0 ∙ g.1.0)

  pub linked_when_moved : (x : ℕ) (old told : Spot) → IsTaken m n b i (Some x) → get s x ≡ Some old → Updates s t x (Some told) →
      told.location ≡ old.location → told.rank ≡ i → AreLinked t n
  linked_when_moved x old told k was u location rank =
      let f = moved_by x k (ltb i (length k.here.kept)) refl in
      linked_when_told m n s b i l k.here.kept k.here.last k.here.was t old told f.1.1 f.0 (ap (get s) (sym f.1.0) ∙ was)
      (subst (λ y. Updates s t y (Some told)) f.1.0 u) location rank

pub same_set : {Z : Type 0} (m n : Buckets Z) (b : ℕ × ℕ) → IsBucketSet m n b (keys_in m b) → (c : ℕ × ℕ) → keys_in n c ≡ keys_in m c
same_set m n b h c = ⊎_elim (λ p. p.1 ∙ ap (keys_in m) (sym p.0)) (λ p. p.1) (keys_at m n b c (keys_in m b) h)

-- the same keys in each bucket
pub linked_again : {Z : Type 0} (m n : Buckets Z) (s t : Slab Spot) → AreLinked s m → ((c : ℕ × ℕ) → keys_in n c ≡ keys_in m c) →
    ((k : ℕ) → get t k ≡ get s k) → AreLinked t n
linked_again m n s t l h g = record {
  ranked = λ k y at. ap (λ ks. slice_get ks y.rank) (h (bucket_of y.location)) ∙ l.ranked k y (sym (g k) ∙ at);
  listed = λ c j k at. let f = l.listed c j k (ap (λ ks. slice_get ks j) (sym (h c)) ∙ at) in (f.0, (g k ∙ f.1.0, f.1.1));
}

-- ---- the map of buckets

set_at : {Z : Type 0} (t : Bool) (v o : Option (Vec ℕ Z)) → option_map_or (λ v. v.items) (cond t v o) [] ≡
    cond t (option_map_or (λ v. v.items) v []) (option_map_or (λ v. v.items) o [])
set_at true v o = refl
set_at false v o = refl

-- a bucket that was written, or taken out
pub set_when_written : {Z : Type 0} (m n : Buckets Z) (b : ℕ × ℕ) (v : Option (Vec ℕ Z)) →
    ((c : ℕ × ℕ) → tree.get by_bucket n c ≡ cond (is_at (by_bucket b) c) v (tree.get by_bucket m c)) →
    IsBucketSet m n b (option_map_or (λ v. v.items) v [])
set_when_written m n b v h c =
    ap (λ o. option_map_or (λ v. v.items) o []) (h c ∙ ap (λ t. cond t v (tree.get by_bucket m c)) (tied b c))
    ∙ set_at (same_bucket b c) v (tree.get by_bucket m c)

-- a bucket that is set twice
pub set_again : {Z : Type 0} (m n o : Buckets Z) (b : ℕ × ℕ) (ks ls : List ℕ) → IsBucketSet m n b ks → IsBucketSet n o b ls →
    IsBucketSet m o b ls
set_again m n o b ks ls h g c = elim (same_bucket b c) as (λ t. keys_in n c ≡ cond t ks (keys_in m c) →
    keys_in o c ≡ cond t ls (keys_in n c) → keys_in o c ≡ cond t ls (keys_in m c)) [
      | true ↦ λ h g. g
      | false ↦ λ h g. g ∙ h
    ] (h c) (g c)

pub apart_when_tested : (a b : ℕ × ℕ) → same_bucket a b ≡ false → a ≡ b → ⊥
apart_when_tested a b f e = other_bucket a b f (sym e)

-- ---- a key that is taken out

module _ {Z : Type 0} (m n : Buckets Z) (b : ℕ × ℕ) where
  -- the keys of a bucket that was set
  pub keys_when_set : (ks : List ℕ) → IsBucketSet m n b ks → keys_in n b ≡ ks
  keys_when_set ks h = h b ∙ ap (λ t. cond t ks (keys_in m b)) (bucket_itself b)

  pub taken_when_set : (ks : List ℕ) (rank : ℕ) (moved : Option ℕ) → IsBucketSet m n b ks → IsSwapped (keys_in m b) ks rank moved →
      IsTaken m n b rank moved
  taken_when_set ks rank moved h k = record {
    here = subst (λ ls. IsSwapped (keys_in m b) ls rank moved) (sym (keys_when_set ks h)) k;
    others = subst (IsBucketSet m n b) (sym (keys_when_set ks h)) h;
  }
