-- Looks depend on what is known of entities in view or near alone.
use Rattle.std.proofs.Common.{◌≡◌, ◌≤◌, ◌+◌, ℕ, Bool, true, false, cond, not, ◌&&◌, ◌||◌, eqb, List, [], ◌∷◌, ◌++◌, map, find, Option, Some}
use Rattle.std.proofs.Common.{refl, sym, ap, ◌∙◌, subst, arith}
use Rattle.std.specs.Prelude.{nat_lt, nat_le}
use Rattle.std.specs.Ordering.{nat_cmp}
use Rattle.std.specs.declared.cmp.Ordering.TheVariants.{Less}
use Rattle.std.specs.List.Sorted.{IsStrictlySortedBy}
use Rattle.std.proofs.lemmas.Map.Keys.{sorted_head, sorted_tail}
use Rattle.std.specs.List.{AllByRecursion, list_any, filter}
use Rattle.std.specs.FinMap as versions
use Rattle.std.proofs.lemmas.Bool.Decides.{nat_tests}
use Rattle.seam_geo.specs.declared.pos.Pos.{Pos}
use Rattle.seam_geo.specs.Pos.{distance}
use Rattle.seam_view.specs.declared.Seen.{Seen}
use Rattle.seam_view.specs.declared.Look.TheVariants.{Leave, Set, Enter}
use Rattle.seam_view.specs.Replica.{Replica, seen_of, after_showing, after_look, after_looks, entity_of}
use Rattle.seam_view.specs.declared.Look.{Look}
use Rattle.seam_view.specs.ViewLooks.{leaves, has_changed, enters, entering, leaving, changed, matters, in_view, not_older, one_look}
use Rattle.seam_view.proofs.Numbers.{number_is, or_second, same_again}

filter_step : {A : Type 0} (x : A) (xs ys : List A) (p : A → Bool) (b c : Bool) → p x ≡ b → (b ≡ true → c ≡ true) → xs ≡ filter p ys →
    cond b (x ∷ xs) xs ≡ filter p (cond c (x ∷ ys) ys)
filter_step x xs ys p true true e h rest = rw e (ap (λ zs. x ∷ zs) rest)
filter_step x xs ys p true false e h rest = let f : false ≡ true = h refl in cc
filter_step x xs ys p false true e h rest = rw e rest
filter_step x xs ys p false false e h rest = rest

-- a filter sees no more than a wider one leaves
filter_of_filter : {A : Type 0} (p q : A → Bool) → ((x : A) → p x ≡ true → q x ≡ true) → (xs : List A) →
    filter p xs ≡ filter p (filter q xs)
filter_of_filter p q h [] = refl
filter_of_filter p q h (x ∷ xs) = filter_step x (filter p xs) (filter q xs) p (p x) (q x) refl (h x) (filter_of_filter p q h xs)

find_step : {A : Type 0} (x : A) (xs ys : List A) (p : A → Bool) (b c : Bool) → p x ≡ b → (b ≡ true → c ≡ true) → find p xs ≡ find p ys →
    cond b (Some x) (find p xs) ≡ find p (cond c (x ∷ ys) ys)
find_step x xs ys p true true e h rest = rw e refl
find_step x xs ys p true false e h rest = let f : false ≡ true = h refl in cc
find_step x xs ys p false true e h rest = rw e rest
find_step x xs ys p false false e h rest = rest

find_of_filter : {A : Type 0} (p q : A → Bool) → ((x : A) → p x ≡ true → q x ≡ true) → (xs : List A) → find p xs ≡ find p (filter q xs)
find_of_filter p q h [] = refl
find_of_filter p q h (x ∷ xs) = find_step x xs (filter q xs) p (p x) (q x) refl (h x) (find_of_filter p q h xs)

pub filter_agree : {A : Type 0} (t u : A → Bool) (xs : List A) → AllByRecursion (λ x. t x ≡ u x) xs → filter t xs ≡ filter u xs
filter_agree t u [] h = refl
filter_agree t u (x ∷ xs) h = (λ i. cond (h.0 i) (x ∷ filter_agree t u xs h.1 i) (filter_agree t u xs h.1 i))

or_first : (b c : Bool) → b ≡ true → (b || c) ≡ true
or_first b c e = rw e refl

abbrev Viewed : List (ℕ × ℕ) → List (ℕ × ℕ) → Type 0
Viewed es xs = AllByRecursion (λ x. list_any (λ p. eqb x.0 p.0) es ≡ true) xs

viewed_more : (q : ℕ × ℕ) (es xs : List (ℕ × ℕ)) → Viewed es xs → Viewed (q ∷ es) xs
viewed_more q es [] h = tt
viewed_more q es (x ∷ xs) h = (or_second (eqb x.0 q.0) _ h.0, viewed_more q es xs h.1)

all_viewed : (es : List (ℕ × ℕ)) → Viewed es es
all_viewed [] = tt
all_viewed (x ∷ es) = (or_first (eqb x.0 x.0) _ (same_again x.0), viewed_more x es es (all_viewed es))

-- what is known of an entity in view
seen_when_viewed : (r : Replica) (own : Pos) (known : List Seen) (e : ℕ) → in_view r e ≡ true →
    seen_of e known ≡ seen_of e (filter (matters r own) known)
seen_when_viewed r own known e v =
    find_of_filter (λ s. eqb s.entity e) (matters r own)
    (λ s t. or_first (in_view r s.entity) _ (ap (in_view r) (number_is s.entity e t) ∙ v)) known

seen_when_same : (r : Replica) (own : Pos) (known other : List Seen) (e : ℕ) → filter (matters r own) known ≡ filter (matters r own) other →
    in_view r e ≡ true → seen_of e known ≡ seen_of e other
seen_when_same r own known other e same v =
    seen_when_viewed r own known e v ∙ (ap (seen_of e) same ∙ sym (seen_when_viewed r own other e v))

tests_agree : (r : Replica) (own : Pos) (known other : List Seen) (t : ℕ → Option Seen → Bool) (xs : List (ℕ × ℕ)) →
    filter (matters r own) known ≡ filter (matters r own) other → Viewed r.entries xs →
    AllByRecursion (λ p. t p.1 (seen_of p.0 known) ≡ t p.1 (seen_of p.0 other)) xs
tests_agree r own known other t [] same v = tt
tests_agree r own known other t (x ∷ xs) same v =
    (ap (t x.1) (seen_when_same r own known other x.0 same v.0), tests_agree r own known other t xs same v.1)

viewed_agree : (r : Replica) (own : Pos) (known other : List Seen) (t : ℕ → Option Seen → Bool) →
    filter (matters r own) known ≡ filter (matters r own) other →
    filter (λ p. t p.1 (seen_of p.0 known)) r.entries ≡ filter (λ p. t p.1 (seen_of p.0 other)) r.entries
viewed_agree r own known other t same = filter_agree _ _ r.entries (tests_agree r own known other t r.entries same (all_viewed r.entries))

second_of : (a b c : Bool) → ((a && b) && c) ≡ true → b ≡ true
second_of true true c h = refl
second_of true false c h = h
second_of false b c h = cc

near_not_far : (radius hysteresis d : ℕ) → nat_le d radius ≡ true → not (nat_lt (radius + hysteresis) d) ≡ true
near_not_far radius hysteresis d t =
    let le : d ≤ radius = grind (arith, nat_tests) in
    let far : nat_lt (radius + hysteresis) d ≡ false = grind (arith, nat_tests) in
    ap not far

matters_when_entering : (r : Replica) (own : Pos) (s : Seen) → enters r own s ≡ true → matters r own s ≡ true
matters_when_entering r own s h =
    or_second (in_view r s.entity) _ (near_not_far r.radius r.hysteresis (distance own s.pos)
    (second_of (not (in_view r s.entity)) (nat_le (distance own s.pos) r.radius) (not_older (versions.get r.shown s.entity) s.version) h))

entering_agree : (r : Replica) (own : Pos) (known other : List Seen) → filter (matters r own) known ≡ filter (matters r own) other →
    filter (enters r own) known ≡ filter (enters r own) other
entering_agree r own known other same =
    filter_of_filter (enters r own) (matters r own) (matters_when_entering r own) known
    ∙ (ap (filter (enters r own)) same ∙ sym (filter_of_filter (enters r own) (matters r own) (matters_when_entering r own) other))

pub looks_agree : (r : Replica) (own : Pos) (known other : List Seen) → filter (matters r own) known ≡ filter (matters r own) other →
    one_look r own known ≡ one_look r own other
looks_agree r own known other same =
    let a = viewed_agree r own known other (leaves r own) same in
    let b = viewed_agree r own known other (has_changed r own) same in
    let c = entering_agree r own known other same in
    λ i. map (λ p. Leave p.0) (a i) ++ map (λ p. Set p.0) (b i) ++ map (λ s. Enter s.entity) (c i)

-- ---- and so does what they leave

module _ {A : Type 0} (P : A → Type 0) where
  kept_by_filter : (t : A → Bool) (xs : List A) → AllByRecursion P xs → AllByRecursion P (filter t xs)
  kept_by_filter t [] h = tt
  kept_by_filter t (x ∷ xs) h = by (t x) (kept_by_filter t xs h.1)
    where
      by : (b : Bool) → AllByRecursion P (filter t xs) → AllByRecursion P (cond b (x ∷ filter t xs) (filter t xs))
      by true rest = (h.0, rest)
      by false rest = rest

  all_of_both : (xs ys : List A) → AllByRecursion P xs → AllByRecursion P ys → AllByRecursion P (xs ++ ys)
  all_of_both [] ys h k = k
  all_of_both (x ∷ xs) ys h k = (h.0, all_of_both xs ys h.1 k)

  all_mapped : {B : Type 0} (f : B → A) (xs : List B) → AllByRecursion (λ x. P (f x)) xs → AllByRecursion P (map f xs)
  all_mapped f [] h = tt
  all_mapped f (x ∷ xs) h = (h.0, all_mapped f xs h.1)

module _ (known other : List Seen) where
  -- both know the same of the look's entity
  abbrev Agree : Look → Type 0
  Agree look = seen_of (entity_of look) known ≡ seen_of (entity_of look) other

  one_agrees : (r : Replica) (look : Look) → Agree look → after_look known r look ≡ after_look other r look
  one_agrees r (Leave e) same = refl
  one_agrees r (Set e) same = ap (after_showing r e) same
  one_agrees r (Enter e) same = ap (after_showing r e) same

  all_agree : (looks : List Look) (r : Replica) → AllByRecursion Agree looks → after_looks known r looks ≡ after_looks other r looks
  all_agree [] r h = refl
  all_agree (look ∷ looks) r h =
      ap (λ q. after_looks known q looks) (one_agrees r look h.0) ∙ all_agree looks (after_look other r look) h.1

less_differs : (a b : ℕ) → nat_cmp a b ≡ Less → eqb a b ≡ false
less_differs a b e = grind (arith, nat_tests)

-- what is known of each of those known is itself
abbrev IsItself : List Seen → Seen → Type 0
IsItself xs s = seen_of s.entity xs ≡ Some s

itself_later : (x : Seen) (xs ys : List Seen) → AllByRecursion (λ y. nat_cmp x.entity y ≡ Less) (map (λ s. s.entity) ys) →
    AllByRecursion (IsItself xs) ys → AllByRecursion (IsItself (x ∷ xs)) ys
itself_later x xs [] h k = tt
itself_later x xs (y ∷ ys) h k = (
  ap (λ b. cond b (Some x) (seen_of y.entity xs)) (less_differs x.entity y.entity h.0) ∙ k.0,
  itself_later x xs ys h.1 k.1,
)

each_itself : (xs : List Seen) → IsStrictlySortedBy nat_cmp (map (λ s. s.entity) xs) → AllByRecursion (IsItself xs) xs
each_itself [] o = tt
each_itself (x ∷ xs) o = (
  ap (λ b. cond b (Some x) (seen_of x.entity xs)) (same_again x.entity),
  itself_later x xs xs (sorted_head nat_cmp x.entity (map (λ s. s.entity) xs) o)
      (each_itself xs (sorted_tail nat_cmp x.entity (map (λ s. s.entity) xs) o)),
)

same_itself : (known other xs : List Seen) → AllByRecursion (IsItself known) xs → AllByRecursion (IsItself other) xs →
    AllByRecursion (λ s. seen_of s.entity known ≡ seen_of s.entity other) xs
same_itself known other [] h k = tt
same_itself known other (x ∷ xs) h k = (h.0 ∙ sym k.0, same_itself known other xs h.1 k.1)

module _ (r : Replica) (own : Pos) (known other : List Seen) (same : filter (matters r own) known ≡ filter (matters r own) other) where
  same_in_view : (xs : List (ℕ × ℕ)) → Viewed r.entries xs → AllByRecursion (λ p. seen_of p.0 known ≡ seen_of p.0 other) xs
  same_in_view [] v = tt
  same_in_view (x ∷ xs) v = (seen_when_same r own known other x.0 same v.0, same_in_view xs v.1)

  leaves_agree : AllByRecursion (Agree known other) (leaving r own known r.entries)
  leaves_agree =
      all_mapped (Agree known other) (λ p. Leave p.0) _
      (kept_by_filter (λ p. seen_of p.0 known ≡ seen_of p.0 other) _ r.entries (same_in_view r.entries (all_viewed r.entries)))

  changes_agree : AllByRecursion (Agree known other) (changed r own known r.entries)
  changes_agree =
      all_mapped (Agree known other) (λ p. Set p.0) _
      (kept_by_filter (λ p. seen_of p.0 known ≡ seen_of p.0 other) _ r.entries (same_in_view r.entries (all_viewed r.entries)))

  module _ (rises : IsStrictlySortedBy nat_cmp (map (λ s. s.entity) known))
      (others_rise : IsStrictlySortedBy nat_cmp (map (λ s. s.entity) other)) where
    enters_agree : AllByRecursion (Agree known other) (entering r own known)
    enters_agree =
        all_mapped (Agree known other) (λ s. Enter s.entity) (filter (enters r own) known)
        (same_itself known other (filter (enters r own) known)
        (kept_by_filter (IsItself known) (enters r own) known (each_itself known rises))
        (subst (AllByRecursion (IsItself other)) (sym (entering_agree r own known other same))
        (kept_by_filter (IsItself other) (enters r own) other (each_itself other others_rise))))

    pub kept_agree : after_looks known r (one_look r own known) ≡ after_looks other r (one_look r own known)
    kept_agree =
        all_agree known other (one_look r own known) r
        (all_of_both (Agree known other) (leaving r own known r.entries ++ changed r own known r.entries) (entering r own known)
        (all_of_both (Agree known other) (leaving r own known r.entries) (changed r own known r.entries) leaves_agree changes_agree)
        enters_agree)
