-- After one look a further one shows nothing.
use Rattle.seam_law_clients.proofs.Prelude.{◌≡◌, ℕ, ◌≤◌, ◌⊎◌, Bool, true, false, cond, not, ◌&&◌, ◌||◌, eqb, List, [], ◌∷◌, ◌++◌, map}
use Rattle.seam_law_clients.proofs.Prelude.{Option, None, Some, refl, sym, ap, ◌∙◌, subst, arith, inl, inr, nat_lt, nat_le, keys_of, lookup}
use Rattle.seam_law_clients.proofs.Prelude.{AllByRecursion, IsDistinct, list_any, filter, nat_tests, IsDistinct-head, IsDistinct-tail, Pos}
use Rattle.seam_law_clients.proofs.Prelude.{distance, all_append, Seen, Look, Replica, IsView, seen_of, placed, without, after_showing}
use Rattle.seam_law_clients.proofs.Prelude.{after_look, after_looks, entity_of, is_far, has_changed, in_view, is_gone, is_new, plain_look}
use Rattle.seam_law_clients.proofs.Prelude.{view_after_looks, all_of, turned}
use Rattle.seam_view.specs.declared.Look.TheVariants.{Leave, Set, Enter}
use Rattle.seam_law_clients.proofs.Near.{all_filtered}
use Rattle.seam_law_clients.proofs.After.{same_distances}
use Rattle.seam_law_calls.proofs.Holds.{or_right}

number_is : (a b : ℕ) → eqb a b ≡ true → a ≡ b
number_is a b t = grind (arith, nat_tests)

same_again : (a : ℕ) → eqb a a ≡ true
same_again a = grind (arith, nat_tests)

differs_too : (a b : ℕ) → eqb a b ≡ false → eqb b a ≡ false
differs_too a b t = grind (arith, nat_tests)

-- ---- the version of an entity in view

abbrev version_of : ℕ → List (ℕ × ℕ) → Option ℕ
version_of x es = lookup (eqb x) es

placed_by : (x e v : ℕ) (p : ℕ × ℕ) (es : List (ℕ × ℕ)) (b t : Bool) → eqb e p.0 ≡ b → eqb x e ≡ t →
    version_of x (placed e v es) ≡ cond t (Some v) (version_of x es) →
    version_of x (cond b ((p.0, v) ∷ es) (p ∷ placed e v es)) ≡ cond t (Some v) (version_of x (p ∷ es))
placed_by x e v p es true true at too rest =
    let same : eqb x p.0 ≡ true = grind (arith, nat_tests, at, too) in ap (λ b. cond b (Some v) (version_of x es)) same
placed_by x e v p es true false at too rest =
    let same : eqb x p.0 ≡ false = grind (arith, nat_tests, at, too) in
    ap (λ b. cond b (Some v) (version_of x es)) same ∙ sym (ap (λ b. cond b (Some p.1) (version_of x es)) same)
placed_by x e v p es false true at too rest =
    let same : eqb x p.0 ≡ false = grind (arith, nat_tests, at, too) in
    ap (λ b. cond b (Some p.1) (version_of x (placed e v es))) same ∙ rest
placed_by x e v p es false false at too rest = ap (cond (eqb x p.0) (Some p.1)) rest

version_placed : (x e v : ℕ) (es : List (ℕ × ℕ)) (t : Bool) → eqb x e ≡ t → version_of x (placed e v es) ≡ cond t (Some v) (version_of x es)
version_placed x e v [] t too = ap (λ b. cond b (Some v) None) too
version_placed x e v (p ∷ es) t too = placed_by x e v p es (eqb e p.0) t refl too (version_placed x e v es t too)

absent : (x : ℕ) (es : List (ℕ × ℕ)) → AllByRecursion (λ y. eqb x y ≡ false) (keys_of es) → version_of x es ≡ None
absent x [] h = refl
absent x (p ∷ es) h = ap (λ b. cond b (Some p.1) (version_of x es)) h.0 ∙ absent x es h.1

without_by : (x e : ℕ) (p : ℕ × ℕ) (es : List (ℕ × ℕ)) (b t : Bool) → eqb e p.0 ≡ b → eqb x e ≡ t →
    AllByRecursion (λ y. eqb p.0 y ≡ false) (keys_of es) → version_of x (without e es) ≡ cond t None (version_of x es) →
    version_of x (cond b es (p ∷ without e es)) ≡ cond t None (version_of x (p ∷ es))
without_by x e p es true true at too none rest =
    let same : p.0 ≡ x = grind (arith, nat_tests, at, too) in
    absent x es (subst (λ y. AllByRecursion (λ z. eqb y z ≡ false) (keys_of es)) same none)
without_by x e p es true false at too none rest =
    let same : eqb x p.0 ≡ false = grind (arith, nat_tests, at, too) in sym (ap (λ b. cond b (Some p.1) (version_of x es)) same)
without_by x e p es false true at too none rest =
    let same : eqb x p.0 ≡ false = grind (arith, nat_tests, at, too) in
    ap (λ b. cond b (Some p.1) (version_of x (without e es))) same ∙ rest
without_by x e p es false false at too none rest = ap (cond (eqb x p.0) (Some p.1)) rest

version_without : (x e : ℕ) (es : List (ℕ × ℕ)) (t : Bool) → IsDistinct eqb (keys_of es) → eqb x e ≡ t →
    version_of x (without e es) ≡ cond t None (version_of x es)
version_without x e [] true once too = refl
version_without x e [] false once too = refl
version_without x e (p ∷ es) t once too =
    without_by x e p es (eqb e p.0) t refl too (IsDistinct-head eqb p.0 (keys_of es) once)
    (version_without x e es t (IsDistinct-tail eqb p.0 (keys_of es) once) too)

skipped : (p : ℕ × ℕ) (es xs : List (ℕ × ℕ)) → AllByRecursion (λ y. eqb p.0 y ≡ false) (keys_of xs) →
    AllByRecursion (λ q. version_of q.0 es ≡ Some q.1) xs → AllByRecursion (λ q. version_of q.0 (p ∷ es) ≡ Some q.1) xs
skipped p es [] none all = tt
skipped p es (q ∷ xs) none all = (
  ap (λ b. cond b (Some p.1) (version_of q.0 es)) (differs_too p.0 q.0 none.0) ∙ all.0,
  skipped p es xs none.1 all.1,
)

each_version : (es : List (ℕ × ℕ)) → IsDistinct eqb (keys_of es) → AllByRecursion (λ p. version_of p.0 es ≡ Some p.1) es
each_version [] once = tt
each_version (p ∷ es) once = (
  ap (λ b. cond b (Some p.1) (version_of p.0 es)) (same_again p.0),
  skipped p es es (IsDistinct-head eqb p.0 (keys_of es) once) (each_version es (IsDistinct-tail eqb p.0 (keys_of es) once)),
)

viewed_by : (x : ℕ) (p : ℕ × ℕ) (es : List (ℕ × ℕ)) (n : ℕ) (b : Bool) → cond b (Some p.1) (version_of x es) ≡ Some n →
    (version_of x es ≡ Some n → list_any (λ q. eqb x q.0) es ≡ true) → (b || list_any (λ q. eqb x q.0) es) ≡ true
viewed_by x p es n true is rest = refl
viewed_by x p es n false is rest = rest is

viewed : (x : ℕ) (es : List (ℕ × ℕ)) (n : ℕ) → version_of x es ≡ Some n → list_any (λ q. eqb x q.0) es ≡ true
viewed x [] n is = cc
viewed x (p ∷ es) n is = viewed_by x p es n (eqb x p.0) is (viewed x es n)

not_viewed_by : (x : ℕ) (p : ℕ × ℕ) (es : List (ℕ × ℕ)) (b : Bool) → cond b (Some p.1) (version_of x es) ≡ None →
    (version_of x es ≡ None → list_any (λ q. eqb x q.0) es ≡ false) → (b || list_any (λ q. eqb x q.0) es) ≡ false
not_viewed_by x p es true is rest = cc
not_viewed_by x p es false is rest = rest is

not_viewed : (x : ℕ) (es : List (ℕ × ℕ)) → version_of x es ≡ None → list_any (λ q. eqb x q.0) es ≡ false
not_viewed x [] is = refl
not_viewed x (p ∷ es) is = not_viewed_by x p es (eqb x p.0) is (not_viewed x es)

-- ---- lists

abbrev IsAbout : ℕ → Look → Bool
IsAbout x l = eqb x (entity_of l)

any_second : (x : ℕ) (ls ms : List Look) → list_any (IsAbout x) ms ≡ true → list_any (IsAbout x) (ls ++ ms) ≡ true
any_second x [] ms h = h
any_second x (l ∷ ls) ms h = or_right (IsAbout x l) _ (any_second x ls ms h)

first_by : (b c d : Bool) → (b || c) ≡ true → (c ≡ true → d ≡ true) → (b || d) ≡ true
first_by true c d h more = refl
first_by false c d h more = more h

any_first : (x : ℕ) (ls ms : List Look) → list_any (IsAbout x) ls ≡ true → list_any (IsAbout x) (ls ++ ms) ≡ true
any_first x [] ms h = cc
any_first x (l ∷ ls) ms h = first_by (IsAbout x l) (list_any (IsAbout x) ls) _ h (any_first x ls ms)

filter_none : {A : Type 0} (t : A → Bool) (xs : List A) → AllByRecursion (λ x. t x ≡ false) xs → filter t xs ≡ []
filter_none t [] h = refl
filter_none t (x ∷ xs) h = ap (λ b. cond b (x ∷ filter t xs) (filter t xs)) h.0 ∙ filter_none t xs h.1

module _ (line : ℕ → Look) (about : (y : ℕ) → entity_of (line y) ≡ y) (t : ℕ × ℕ → Bool) (x n : ℕ) (yes_ : t (x, n) ≡ true) where
  abbrev made : List (ℕ × ℕ) → List Look
  made es = map (λ p. line p.0) (filter t es)

  entry_by : (p : ℕ × ℕ) (es : List (ℕ × ℕ)) (b c : Bool) → eqb x p.0 ≡ b → t p ≡ c → cond b (Some p.1) (version_of x es) ≡ Some n →
      (version_of x es ≡ Some n → list_any (IsAbout x) (made es) ≡ true) →
      list_any (IsAbout x) (map (λ p. line p.0) (cond c (p ∷ filter t es) (filter t es))) ≡ true
  entry_by p es true true at passes is rest =
      ap (λ y. eqb x y || list_any (IsAbout x) (made es)) (about p.0) ∙ ap (λ b. b || list_any (IsAbout x) (made es)) at
  entry_by p es true false at passes is rest =
      let value : p.1 ≡ n = let z = is in cc in
      let entity = sym (number_is x p.0 at) in
      let same : p ≡ (x, n) = λ i. (entity i, value i) in
      absurd (let z = sym passes ∙ ap t same ∙ yes_ in cc)
  entry_by p es false true at passes is rest = or_right (IsAbout x (line p.0)) _ (rest is)
  entry_by p es false false at passes is rest = rest is

  any_entry : (es : List (ℕ × ℕ)) → version_of x es ≡ Some n → list_any (IsAbout x) (made es) ≡ true
  any_entry [] is = cc
  any_entry (p ∷ es) is = entry_by p es (eqb x p.0) (t p) refl refl is (any_entry es)

module _ (t : Seen → Bool) (x : ℕ) (s : Seen) (yes_ : t s ≡ true) where
  abbrev entered : List Seen → List Look
  entered ss = map (λ y. Enter y.entity) (filter t ss)

  known_by : (y : Seen) (ss : List Seen) (b c : Bool) → eqb y.entity x ≡ b → t y ≡ c → cond b (Some y) (seen_of x ss) ≡ Some s →
      (seen_of x ss ≡ Some s → list_any (IsAbout x) (entered ss) ≡ true) →
      list_any (IsAbout x) (map (λ y. Enter y.entity) (cond c (y ∷ filter t ss) (filter t ss))) ≡ true
  known_by y ss true true at passes is rest =
      let same : eqb x y.entity ≡ true = grind (arith, nat_tests, at) in ap (λ b. b || list_any (IsAbout x) (entered ss)) same
  known_by y ss true false at passes is rest =
      let same : y ≡ s = cc in absurd (let z = sym passes ∙ ap t same ∙ yes_ in cc)
  known_by y ss false true at passes is rest = or_right (IsAbout x (Enter y.entity)) _ (rest is)
  known_by y ss false false at passes is rest = rest is

  any_known : (ss : List Seen) → seen_of x ss ≡ Some s → list_any (IsAbout x) (entered ss) ≡ true
  any_known [] is = cc
  any_known (y ∷ ss) is = known_by y ss (eqb y.entity x) (t y) refl refl is (any_known ss)

-- ---- a look

module _ (r : Replica) (own : Pos) (known : List Seen) (view : IsView r)
    (once : AllByRecursion (λ (s : Seen). seen_of s.entity known ≡ Some s) known) where
  abbrev far : Seen → Bool
  far s = is_far r own s.pos

  abbrev near : Seen → Bool
  near s = nat_le (distance own s.pos) r.radius

  far_not_near : (s : Seen) → far s ≡ true → near s ≡ false
  far_not_near s is = grind (arith, nat_tests, is)

  near_not_far : (s : Seen) → near s ≡ true → far s ≡ false
  near_not_far s is = grind (arith, nat_tests, is)

  -- an entity that is so known is in view as it is to be
  abbrev IsRight : Option Seen → Option ℕ → Type 0
  IsRight None None = Unit {0}
  IsRight None (Some n) = ⊥
  IsRight (Some s) None = near s ≡ false
  IsRight (Some s) (Some n) = (far s ≡ false) × (s.version ≤ n)

  abbrev IsRightIn : List (ℕ × ℕ) → ℕ → Type 0
  IsRightIn es x = IsRight (seen_of x known) (version_of x es)

  abbrev IsKnownNear : ℕ → Type 0
  IsKnownNear e = (s : Seen) × (seen_of e known ≡ Some s) × (far s ≡ false)

  -- the look makes it so
  abbrev MakesRight : Look → Type 0
  MakesRight (Leave e) = IsRight (seen_of e known) None
  MakesRight (Set e) = IsKnownNear e
  MakesRight (Enter e) = IsKnownNear e

  showing_right : (q : Replica) (e x : ℕ) → IsKnownNear e → eqb x e ≡ true → IsRightIn (after_showing q e (seen_of e known)).entries x
  showing_right q e x (s, found, is) about =
      let same : e ≡ x = sym (number_is x e about) in
      subst (λ o. IsRightIn (after_showing q e o).entries x) (sym found)
      (subst (λ o. IsRight (seen_of x known) o) (sym (version_placed x e s.version q.entries true about))
      (subst (λ o. IsRight o (Some s.version)) (sym found ∙ ap (λ y. seen_of y known) same) (is, omega arith)))

  makes : (q : Replica) (l : Look) (x : ℕ) → IsView q → MakesRight l → IsAbout x l ≡ true → IsRightIn (after_look known q l).entries x
  makes q (Leave e) x v right about =
      subst (λ o. IsRight (seen_of x known) o) (sym (version_without x e q.entries true v.once about))
      (subst (λ y. IsRight (seen_of y known) None) (sym (number_is x e about)) right)
  makes q (Set e) x v right about = showing_right q e x right about
  makes q (Enter e) x v right about = showing_right q e x right about

  showing_keeps : (q : Replica) (e x : ℕ) → IsKnownNear e → eqb x e ≡ false →
      version_of x (after_showing q e (seen_of e known)).entries ≡ version_of x q.entries
  showing_keeps q e x (s, found, is) about =
      ap (λ o. version_of x (after_showing q e o).entries) found ∙ version_placed x e s.version q.entries false about

  keeps : (q : Replica) (l : Look) (x : ℕ) → IsView q → MakesRight l → IsAbout x l ≡ false →
      version_of x (after_look known q l).entries ≡ version_of x q.entries
  keeps q (Leave e) x v right about = version_without x e q.entries false v.once about
  keeps q (Set e) x v right about = showing_keeps q e x right about
  keeps q (Enter e) x v right about = showing_keeps q e x right about

  settles : (ls : List Look) (q : Replica) (x : ℕ) → IsView q → AllByRecursion MakesRight ls →
      IsRightIn q.entries x ⊎ (list_any (IsAbout x) ls ≡ true) → IsRightIn (after_looks known q ls).entries x
  settles [] q x v all (inl is) = is
  settles [] q x v all (inr some) = absurd (let z = some in cc)
  settles (l ∷ ls) q x v all now =
      settles ls (after_look known q l) x (view_after_looks known q (l ∷ []) v) all.1 (by (IsAbout x l) refl now)
    where
      by : (b : Bool) → IsAbout x l ≡ b → IsRightIn q.entries x ⊎ ((b || list_any (IsAbout x) ls) ≡ true) →
          IsRightIn (after_look known q l).entries x ⊎ (list_any (IsAbout x) ls ≡ true)
      by true about now = inl (makes q l x v all.0 about)
      by false about (inl is) = inl (subst (λ o. IsRight (seen_of x known) o) (sym (keeps q l x v all.0 about)) is)
      by false about (inr some) = inr some

  abbrev looks : List Look
  looks = plain_look r own known

  abbrev gone : ℕ × ℕ → Bool
  gone p = is_gone r own (seen_of p.0 known)

  abbrev due : ℕ × ℕ → Bool
  due p = has_changed r own p.1 (seen_of p.0 known)

  abbrev leaves : List Look
  leaves = map (λ p. Leave p.0) (filter gone r.entries)

  abbrev sets : List Look
  sets = map (λ p. Set p.0) (filter due r.entries)

  abbrev enters : List Look
  enters = map (λ s. Enter s.entity) (filter (is_new r own) known)

  gone_right : (o : Option Seen) → is_gone r own o ≡ true → IsRight o None
  gone_right None is = tt
  gone_right (Some s) is = far_not_near s is

  due_near : (e n : ℕ) (o : Option Seen) → seen_of e known ≡ o → has_changed r own n o ≡ true → IsKnownNear e
  due_near e n None found is = cc
  due_near e n (Some s) found is = (s, found, first_not (far s) (nat_lt n s.version) is)
    where
      first_not : (b c : Bool) → (not b && c) ≡ true → b ≡ false
      first_not true c h = cc
      first_not false c h = refl

  second_true : (b c : Bool) → (b && c) ≡ true → c ≡ true
  second_true true c h = h
  second_true false c h = cc

  all_right : AllByRecursion MakesRight looks
  all_right =
      all_append MakesRight (leaves ++ sets) enters
      (all_append MakesRight leaves sets
      (all_filtered (λ p. Leave p.0) MakesRight (λ p. Unit {0}) gone (λ p is u. gone_right (seen_of p.0 known) is) r.entries
      (all_of (λ p. Unit {0}) (λ p. tt) r.entries))
      (all_filtered (λ p. Set p.0) MakesRight (λ p. Unit {0}) due (λ p is u. due_near p.0 p.1 (seen_of p.0 known) refl is) r.entries
      (all_of (λ p. Unit {0}) (λ p. tt) r.entries)))
      (all_filtered (λ s. Enter s.entity) MakesRight (λ (s : Seen). seen_of s.entity known ≡ Some s) (is_new r own)
      (λ s is found. (s, found, near_not_far s (second_true _ _ is))) known once)

  stay_right : (far_ : Bool) (n m : ℕ) → far_ ≡ false → (not far_ && nat_lt n m) ≡ false → m ≤ n
  stay_right true n m is h = cc
  stay_right false n m is h = grind (arith, nat_tests, h)

  begins_in : (x n : ℕ) (o : Option Seen) → seen_of x known ≡ o → version_of x r.entries ≡ Some n → (b c : Bool) →
      is_gone r own o ≡ b → has_changed r own n o ≡ c → IsRight o (Some n) ⊎ (list_any (IsAbout x) looks ≡ true)
  begins_in x n o found here true c is too =
      inr (any_first x (leaves ++ sets) enters (any_first x leaves sets
      (any_entry Leave (λ y. refl) gone x n (ap (is_gone r own) found ∙ is) r.entries here)))
  begins_in x n o found here false true is too =
      inr (any_first x (leaves ++ sets) enters (any_second x leaves sets
      (any_entry Set (λ y. refl) due x n (ap (has_changed r own n) found ∙ too) r.entries here)))
  begins_in x n None found here false false is too = absurd (let z = is in cc)
  begins_in x n (Some s) found here false false is too = inl (is, stay_right (far s) n s.version is too)

  begins_out : (x : ℕ) (o : Option Seen) → seen_of x known ≡ o → version_of x r.entries ≡ None → (b : Bool) →
      ((s : Seen) → o ≡ Some s → near s ≡ b) → IsRight o None ⊎ (list_any (IsAbout x) looks ≡ true)
  begins_out x None found here b is = inl tt
  begins_out x (Some s) found here false is = inl (is s refl)
  begins_out x (Some s) found here true is =
      let of_it : s.entity ≡ x = entity_is known found in
      inr (any_second x (leaves ++ sets) enters
      (any_known (is_new r own) x s
      (ap (λ b. not b && near s) (ap (in_view r) of_it ∙ not_viewed x r.entries here) ∙ is s refl) known found))
    where
      entity_by : (y : Seen) (ss : List Seen) (b : Bool) → eqb y.entity x ≡ b → cond b (Some y) (seen_of x ss) ≡ Some s →
          (seen_of x ss ≡ Some s → s.entity ≡ x) → s.entity ≡ x
      entity_by y ss true at is rest =
          let same : s ≡ y = cc in ap (λ (z : Seen). z.entity) same ∙ number_is y.entity x at
      entity_by y ss false at is rest = rest is

      entity_is : (ss : List Seen) → seen_of x ss ≡ Some s → s.entity ≡ x
      entity_is [] is = cc
      entity_is (y ∷ ss) is = entity_by y ss (eqb y.entity x) refl is (entity_is ss)

  abbrev after : Replica
  after = after_looks known r looks

  begins_by : (x : ℕ) (o : Option Seen) (v : Option ℕ) → seen_of x known ≡ o → version_of x r.entries ≡ v →
      IsRight o v ⊎ (list_any (IsAbout x) looks ≡ true)
  begins_by x o (Some n) found here = begins_in x n o found here (is_gone r own o) (has_changed r own n o) refl refl
  begins_by x None None found here = inl tt
  begins_by x (Some s) None found here =
      begins_out x (Some s) found here (near s) (λ y is. ap near (let z : y ≡ s = cc in z))

  right_now : (x : ℕ) → IsRightIn after.entries x
  right_now x = settles looks r x view all_right (begins_by x (seen_of x known) (version_of x r.entries) refl refl)

  -- ---- and a further one

  same_far : (p : Pos) → is_far after own p ≡ is_far r own p
  same_far p =
      let same = same_distances known r looks in
      λ i. is_far (record r { radius = same.0 i; hysteresis = same.1 i }) own p

  neither : (p : ℕ × ℕ) (o : Option Seen) → IsRight o (Some p.1) → (is_gone after own o ≡ false) × (has_changed after own p.1 o ≡ false)
  neither p None right = absurd right
  neither p (Some s) right =
      let here = same_far s.pos ∙ right.0 in
      let le = right.1 in
      let old : nat_lt p.1 s.version ≡ false = grind (arith, nat_tests, le) in
      (here, ap (λ b. not b && nat_lt p.1 s.version) here ∙ old)

  entries_stay : (es : List (ℕ × ℕ)) → AllByRecursion (λ p. version_of p.0 after.entries ≡ Some p.1) es →
      AllByRecursion (λ p. (is_gone after own (seen_of p.0 known) ≡ false) × (has_changed after own p.1 (seen_of p.0 known) ≡ false)) es
  entries_stay = turned (λ p. version_of p.0 after.entries ≡ Some p.1)
      (λ p. (is_gone after own (seen_of p.0 known) ≡ false) × (has_changed after own p.1 (seen_of p.0 known) ≡ false))
      (λ p is. neither p (seen_of p.0 known) (subst (λ o. IsRight (seen_of p.0 known) o) is (right_now p.0)))

  not_new : (s : Seen) (v : Option ℕ) → version_of s.entity after.entries ≡ v → IsRight (Some s) v → is_new after own s ≡ false
  not_new s None here right =
      let same = same_distances known r looks in
      ap (λ b. not b && nat_le (distance own s.pos) after.radius) (not_viewed s.entity after.entries here)
      ∙ ap (nat_le (distance own s.pos)) same.0 ∙ right
  not_new s (Some n) here right =
      ap (λ b. not b && nat_le (distance own s.pos) after.radius) (viewed s.entity after.entries n here)

  none_new : AllByRecursion (λ s. is_new after own s ≡ false) known
  none_new = turned (λ (s : Seen). seen_of s.entity known ≡ Some s) (λ s. is_new after own s ≡ false)
      (λ s found. not_new s (version_of s.entity after.entries) refl
      (subst (λ o. IsRight o (version_of s.entity after.entries)) found (right_now s.entity))) known once

  pub none_further : plain_look after own known ≡ []
  none_further =
      let each = entries_stay after.entries (each_version after.entries (view_after_looks known r looks view).once) in
      λ i.
      (map (λ p. Leave p.0) (filter_none (λ p. is_gone after own (seen_of p.0 known)) after.entries
      (turned (λ p. (is_gone after own (seen_of p.0 known) ≡ false) × (has_changed after own p.1 (seen_of p.0 known) ≡ false))
      (λ p. is_gone after own (seen_of p.0 known) ≡ false) (λ p both. both.0) after.entries each) i)
      ++ map (λ p. Set p.0) (filter_none (λ p. has_changed after own p.1 (seen_of p.0 known)) after.entries
      (turned (λ p. (is_gone after own (seen_of p.0 known) ≡ false) × (has_changed after own p.1 (seen_of p.0 known) ≡ false))
      (λ p. has_changed after own p.1 (seen_of p.0 known) ≡ false) (λ p both. both.1) after.entries each) i))
      ++ map (λ s. Enter s.entity) (filter_none (is_new after own) known none_new i)
