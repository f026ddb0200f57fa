-- No version shown falls by the looks of what is known.
use Rattle.std.proofs.Common.{◌≡◌, ◌≤◌, ◌<◌, ℕ, Bool, true, false, cond, not, ◌&&◌, eqb, leb, ltb, List, [], ◌∷◌, ◌++◌, map, Option, None}
use Rattle.std.proofs.Common.{Some, refl, sym, ap, ◌∙◌, arith, unwrap_or}
use Rattle.std.specs.Ordering.{nat_cmp}
use Rattle.std.specs.List.{AllByRecursion, filter}
use Rattle.std.specs.List.Sorted.{IsStrictlySortedBy}
use Rattle.std.specs.FinMap as versions
use Rattle.std.specs.declared.cmp.Ordering.TheVariants.{Less}
use Rattle.std.proofs.lemmas.Map.Keys.{sorted_head, sorted_tail}
use Rattle.std.proofs.lemmas.Bool.Decides.{nat_tests}
use Rattle.seam_geo.specs.declared.pos.Pos.{Pos}
use Rattle.seam_geo.specs.Pos.{distance}
use Rattle.seam_view.specs.declared.Seen.{Seen}
use Rattle.seam_view.specs.declared.Look.{Look}
use Rattle.seam_view.specs.declared.Look.TheVariants.{Leave, Set, Enter}
use Rattle.seam_view.specs.Replica.{Replica, IsView, AreShown, NeverFalls, seen_of, with_version_shown, after_showing, after_look}
use Rattle.seam_view.specs.Replica.{after_looks}
use Rattle.seam_view.specs.ViewLooks.{is_far, in_view, leaves, has_changed, not_older, enters, leaving, changed, entering, one_look}
use Rattle.seam_view.proofs.KnownOrder.{entities}
use Rattle.seam_view.proofs.Kept.{get_by_shown}
use Rattle.seam_view.proofs.Numbers.{number_is, same_again, apart}

-- what is known of the entity is not older than what was shown of it
abbrev MayRise : List Seen → Replica → ℕ → Type 0
MayRise known r e = (s : Seen) → seen_of e known ≡ Some s → (v : ℕ) → versions.get r.shown e ≡ Some v → v ≤ s.version

abbrev MayShow : List Seen → Replica → Look → Type 0
MayShow known r (Leave e) = Unit {0}
MayShow known r (Set e) = MayRise known r e
MayShow known r (Enter e) = MayRise known r e

same_value : (a b : ℕ) → Some a ≡ Some b → a ≡ b
same_value a b e = ap (λ o. unwrap_or o a) e

-- ---- one look after the other

module _ (old r : Replica) (e : ℕ) (s : Seen) (rises : (v : ℕ) → versions.get old.shown e ≡ Some v → v ≤ s.version)
    (so_far : NeverFalls old r) where
  shown_by : (q v : ℕ) (b : Bool) → eqb e q ≡ b → versions.get old.shown q ≡ Some v →
      (w : ℕ) × (versions.get (with_version_shown r e s.version).shown q ≡ Some w) × (v ≤ w)
  shown_by q v true t h =
      (s.version, get_by_shown r.shown e s.version q true t, rises v (ap (versions.get old.shown) (number_is e q t) ∙ h))
  shown_by q v false t h = let k = so_far q v h in (k.0, get_by_shown r.shown e s.version q false t ∙ k.1, k.2)

  never_falls_when_shown : NeverFalls old (with_version_shown r e s.version)
  never_falls_when_shown q v h = shown_by q v (eqb e q) refl h

never_falls_when_known : (old r : Replica) (e : ℕ) (o : Option Seen) →
    ((s : Seen) → o ≡ Some s → (v : ℕ) → versions.get old.shown e ≡ Some v → v ≤ s.version) →
    NeverFalls old r → NeverFalls old (after_showing r e o)
never_falls_when_known old r e None rises n = n
never_falls_when_known old r e (Some s) rises n = never_falls_when_shown old r e s (rises s refl) n

never_falls_by_look : (known : List Seen) (old r : Replica) (look : Look) → MayShow known old look → NeverFalls old r →
    NeverFalls old (after_look known r look)
never_falls_by_look known old r (Leave e) m n = n
never_falls_by_look known old r (Set e) m n = never_falls_when_known old r e (seen_of e known) m n
never_falls_by_look known old r (Enter e) m n = never_falls_when_known old r e (seen_of e known) m n

never_falls_by_looks : (known : List Seen) (old r : Replica) (looks : List Look) → AllByRecursion (MayShow known old) looks →
    NeverFalls old r →
    NeverFalls old (after_looks known r looks)
never_falls_by_looks known old r [] m n = n
never_falls_by_looks known old r (look ∷ looks) m n =
    never_falls_by_looks known old (after_look known r look) looks m.1 (never_falls_by_look known old r look m.0 n)

-- ---- the looks that a plan has

second_of : (a b : Bool) → (a && b) ≡ true → b ≡ true
second_of true b h = h
second_of false b h = cc

below_of : (a b : ℕ) → ltb a b ≡ true → a < b
below_of a b t = grind (arith, nat_tests)

le_of : (a b : ℕ) → leb a b ≡ true → a ≤ b
le_of a b t = grind (arith, nat_tests)

module _ (known : List Seen) (r : Replica) (own : Pos) where
  left_may : (ps : List (ℕ × ℕ)) → AllByRecursion (MayShow known r) (map (λ p. Leave p.0) ps)
  left_may [] = tt
  left_may (p ∷ ps) = (tt, left_may ps)

  rises_by_change : (p : ℕ × ℕ) → has_changed r own p.1 (seen_of p.0 known) ≡ true → versions.get r.shown p.0 ≡ Some p.1 →
      MayRise known r p.0
  rises_by_change p t at s q v h =
      let same = same_value p.1 v (sym at ∙ h) in
      let less =
      below_of p.1 s.version (second_of (not (is_far r own s.pos)) (ltb p.1 s.version) (ap (has_changed r own p.1) (sym q) ∙ t)) in
      omega (arith, same, less)

  set_by : (p : ℕ × ℕ) (es : List (ℕ × ℕ)) (b : Bool) → has_changed r own p.1 (seen_of p.0 known) ≡ b →
      versions.get r.shown p.0 ≡ Some p.1 →
      AllByRecursion (MayShow known r) (map (λ p. Set p.0) es) → AllByRecursion (MayShow known r) (map (λ p. Set p.0) (cond b (p ∷ es) es))
  set_by p es true t at rest = (rises_by_change p t at, rest)
  set_by p es false t at rest = rest

  set_may : (es : List (ℕ × ℕ)) → AreShown r.shown es → AllByRecursion (MayShow known r) (changed r own known es)
  set_may [] h = tt
  set_may (p ∷ es) h =
      set_by p (filter (λ p. has_changed r own p.1 (seen_of p.0 known)) es) (has_changed r own p.1 (seen_of p.0 known)) refl h.0
      (set_may es h.1)

  not_below : (o : Option ℕ) (v n : ℕ) → o ≡ Some v → not_older o n ≡ true → v ≤ n
  not_below None v n e t = cc
  not_below (Some m) v n e t = let le = le_of m n t in let same = same_value m v e in omega (arith, le, same)

  rises_by_enter : (s : Seen) → enters r own s ≡ true → seen_of s.entity known ≡ Some s → MayRise known r s.entity
  rises_by_enter s t self x q v h =
      let same : s ≡ x = ap (λ o. unwrap_or o s) (sym self ∙ q) in
      let le = not_below (versions.get r.shown s.entity) v s.version h
      (second_of (not (in_view r s.entity) && leb (distance own s.pos) r.radius) (not_older (versions.get r.shown s.entity) s.version) t) in
      let version = ap (λ y. y.version) same in
      omega (arith, le, version)

  enter_by : (s : Seen) (ss : List Seen) (b : Bool) → enters r own s ≡ b → seen_of s.entity known ≡ Some s →
      AllByRecursion (MayShow known r) (map (λ s. Enter s.entity) ss) →
      AllByRecursion (MayShow known r) (map (λ s. Enter s.entity) (cond b (s ∷ ss) ss))
  enter_by s ss true t self rest = (rises_by_enter s t self, rest)
  enter_by s ss false t self rest = rest

  enter_may : (ss : List Seen) → AllByRecursion (λ s. seen_of s.entity known ≡ Some s) ss →
      AllByRecursion (MayShow known r) (entering r own ss)
  enter_may [] h = tt
  enter_may (s ∷ ss) h = enter_by s (filter (enters r own) ss) (enters r own s) refl h.0 (enter_may ss h.1)

self_past : (x : Seen) (ss xs : List Seen) → AllByRecursion (λ y. nat_cmp x.entity y ≡ Less) (entities ss) →
    AllByRecursion (λ s. seen_of s.entity xs ≡ Some s) ss → AllByRecursion (λ s. seen_of s.entity (x ∷ xs) ≡ Some s) ss
self_past x [] xs h k = tt
self_past x (s ∷ ss) xs h k =
    (ap (λ b. cond b (Some x) (seen_of s.entity xs)) (apart x.entity s.entity h.0) ∙ k.0, self_past x ss xs h.1 k.1)

-- each of those known is found by its number
self_known : (known : List Seen) → IsStrictlySortedBy nat_cmp (entities known) → AllByRecursion (λ s. seen_of s.entity known ≡ Some s) known
self_known [] o = tt
self_known (s ∷ known) o = (
  ap (λ b. cond b (Some s) (seen_of s.entity known)) (same_again s.entity),
  self_past s known known (sorted_head nat_cmp s.entity (entities known) o)
      (self_known known (sorted_tail nat_cmp s.entity (entities known) o)),
)

all_append : {A : Type 0} (P : A → Type 0) (xs ys : List A) → AllByRecursion P xs → AllByRecursion P ys → AllByRecursion P (xs ++ ys)
all_append P [] ys h k = k
all_append P (x ∷ xs) ys h k = (h.0, all_append P xs ys h.1 k)

itself : (r : Replica) → NeverFalls r r
itself r e v h = (v, h, omega arith)

pub never_falls_by_one_look : (r : Replica) (own : Pos) (known : List Seen) → IsView r → IsStrictlySortedBy nat_cmp (entities known) →
    NeverFalls r (after_looks known r (one_look r own known))
never_falls_by_one_look r own known view o =
    let left = left_may known r own (filter (λ p. leaves r own p.1 (seen_of p.0 known)) r.entries) in
    let set = set_may known r own r.entries view.shown in
    let entered = enter_may known r own known (self_known known o) in
    never_falls_by_looks known r r (one_look r own known)
    (all_append (MayShow known r) (leaving r own known r.entries ++ changed r own known r.entries) (entering r own known)
    (all_append (MayShow known r) (leaving r own known r.entries) (changed r own known r.entries) left set) entered) (itself r)
