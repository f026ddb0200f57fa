-- The looks at what is near are the looks at all that is known, but for early leaves; and what they leave of a view is the same.
use Rattle.std.proofs.Common.{◌≡◌, ◌≤◌, ◌+◌, ℕ, Bool, true, false, cond, not, ◌&&◌, eqb, List, [], ◌∷◌, ◌++◌, map, Option, None, Some}
use Rattle.std.proofs.Common.{refl, sym, ap, ◌∙◌, subst, arith, ◌<◌, ◌||◌, length, get_or, drop, add-one, drop-cons}
use Rattle.std.specs.Prelude.{nat_lt, nat_le}
use Rattle.std.specs.Ordering.{nat_cmp}
use Rattle.std.specs.declared.cmp.Ordering.TheVariants.{Less}
use Rattle.std.specs.List.Sorted.{IsStrictlySortedBy}
use Rattle.std.proofs.lemmas.Map.Keys.{sorted_head, sorted_tail}
use Rattle.std.specs.List.{AllByRecursion, filter, list_any}
use Rattle.std.specs.FinMap as versions
use Rattle.std.proofs.lemmas.Bool.{or_parts}
use Rattle.std.proofs.lemmas.Bool.Decides.{nat_tests}
use Rattle.seam_node_steps.specs.Prelude.{Pos, distance}
use Rattle.seam_view.specs.declared.Seen.{Seen}
use Rattle.seam_view.specs.declared.Look.{Look}
use Rattle.seam_view.specs.declared.Look.TheVariants.{Leave, Set, Enter}
use Rattle.seam_view.specs.Replica.{Replica, IsView, AreShown, seen_of, after_showing, after_look, after_looks}
use Rattle.seam_view.specs.ViewLooks.{is_far, leaves, has_changed, enters, entering, leaving, changed, in_view, not_older, one_look}
use Rattle.seam_cell_look.specs.Near.{is_near, HasNear, was_newer, is_early}

abbrev pub entities : List Seen → List ℕ
entities known = map (λ s. s.entity) known

same_again : (a : ℕ) → eqb a a ≡ true
same_again a = grind (arith, nat_tests)

-- ---- filters

module _ {A : Type 0} where
  filter_step : (x : A) (xs ys : List A) (p : A → Bool) (b c : Bool) → p x ≡ b → (b ≡ true → c ≡ true) → xs ≡ filter p ys →
      cond b (x ∷ xs) xs ≡ filter p (cond c (x ∷ ys) ys)
  filter_step x xs ys p true true e h rest = rw e (ap (λ zs. x ∷ zs) rest)
  filter_step x xs ys p true false e h rest = let f : false ≡ true = h refl in cc
  filter_step x xs ys p false true e h rest = rw e rest
  filter_step x xs ys p false false e h rest = rest

  -- a filter sees no more than a wider one leaves
  filter_of_filter : (p q : A → Bool) → ((x : A) → p x ≡ true → q x ≡ true) → (xs : List A) → filter p xs ≡ filter p (filter q xs)
  filter_of_filter p q h [] = refl
  filter_of_filter p q h (x ∷ xs) = filter_step x (filter p xs) (filter q xs) p (p x) (q x) refl (h x) (filter_of_filter p q h xs)

  -- two filters, one after the other, and one that agrees with both
  two_step : (x : A) (xs ys : List A) (p : A → Bool) (b c d : Bool) → p x ≡ c → (b && c) ≡ d → filter p xs ≡ ys →
      filter p (cond b (x ∷ xs) xs) ≡ cond d (x ∷ ys) ys
  two_step x xs ys p true true d e h rest = rw e (ap (λ zs. x ∷ zs) rest ∙ ap (λ t. cond t (x ∷ ys) ys) h)
  two_step x xs ys p true false d e h rest = rw e (rest ∙ ap (λ t. cond t (x ∷ ys) ys) h)
  two_step x xs ys p false c d e h rest = rest ∙ ap (λ t. cond t (x ∷ ys) ys) h

  both_filters : (p q t : A → Bool) (xs : List A) → AllByRecursion (λ x. (q x && p x) ≡ t x) xs → filter p (filter q xs) ≡ filter t xs
  both_filters p q t [] h = refl
  both_filters p q t (x ∷ xs) h = two_step x (filter q xs) (filter t xs) p (q x) (p x) (t x) refl h.0 (both_filters p q t xs h.1)

  filter_agree : (t u : A → Bool) (xs : List A) → AllByRecursion (λ x. t x ≡ u x) xs → filter t xs ≡ filter u xs
  filter_agree t u [] h = refl
  filter_agree t u (x ∷ xs) h = λ i. cond (h.0 i) (x ∷ filter_agree t u xs h.1 i) (filter_agree t u xs h.1 i)

  -- where none passes a test, those that do not pass it are all
  pub all_left : (t : A → Bool) (xs : List A) → list_any t xs ≡ false → filter (λ x. not (t x)) xs ≡ xs
  all_left t [] h = refl
  all_left t (x ∷ xs) h =
      let no = or_parts (t x) (list_any t xs) h in
      λ i. cond (not (no.0 i)) (x ∷ all_left t xs no.1 i) (all_left t xs no.1 i)

  -- whether any passes the test from a place on
  pub any_from : (t : A → Bool) (xs : List A) (i : ℕ) (d : A) → i < length xs →
      list_any t (drop i xs) ≡ (t (get_or xs i d) || list_any t (drop (i + 1) xs))
  any_from t xs i d lt = rw (add-one, drop-cons xs i d) refl

  filter_of_both : (t : A → Bool) (xs ys : List A) → filter t (xs ++ ys) ≡ filter t xs ++ filter t ys
  filter_of_both t [] ys = refl
  filter_of_both t (x ∷ xs) ys = by (t x) (filter_of_both t xs ys)
    where
      by : (b : Bool) → filter t (xs ++ ys) ≡ filter t xs ++ filter t ys →
          cond b (x ∷ filter t (xs ++ ys)) (filter t (xs ++ ys)) ≡ cond b (x ∷ filter t xs) (filter t xs) ++ filter t ys
      by true rest = ap (λ zs. x ∷ zs) rest
      by false rest = rest

  -- what passes has what each has that passes
  passed : (P : A → Type 0) (t : A → Bool) (xs : List A) → AllByRecursion (λ x. t x ≡ true → P x) xs → AllByRecursion P (filter t xs)
  passed P t [] h = tt
  passed P t (x ∷ xs) h = by (t x) refl (passed P t xs h.1)
    where
      by : (b : Bool) → t x ≡ b → AllByRecursion P (filter t xs) → AllByRecursion P (cond b (x ∷ filter t xs) (filter t xs))
      by true is rest = (h.0 is, rest)
      by false is rest = rest

  each : (P : A → Type 0) → ((x : A) → P x) → (xs : List A) → AllByRecursion P xs
  each P h [] = tt
  each P h (x ∷ xs) = (h x, each P h xs)

  all_of_both : (P : A → Type 0) (xs ys : List A) → AllByRecursion P xs → AllByRecursion P ys → AllByRecursion P (xs ++ ys)
  all_of_both P [] ys h k = k
  all_of_both P (x ∷ xs) ys h k = (h.0, all_of_both P xs ys h.1 k)

  all_mapped : {B : Type 0} (P : B → Type 0) (f : A → B) (xs : List A) → AllByRecursion (λ x. P (f x)) xs → AllByRecursion P (map f xs)
  all_mapped P f [] h = tt
  all_mapped P f (x ∷ xs) h = (h.0, all_mapped P f xs h.1)

  filter_mapped : {B : Type 0} (f : A → B) (t : B → Bool) (xs : List A) → filter t (map f xs) ≡ map f (filter (λ x. t (f x)) xs)
  filter_mapped f t [] = refl
  filter_mapped f t (x ∷ xs) = by (t (f x)) (filter_mapped f t xs)
    where
      by : (b : Bool) → filter t (map f xs) ≡ map f (filter (λ y. t (f y)) xs) →
          cond b (f x ∷ filter t (map f xs)) (filter t (map f xs))
          ≡ map f (cond b (x ∷ filter (λ y. t (f y)) xs) (filter (λ y. t (f y)) xs))
      by true rest = ap (λ zs. f x ∷ zs) rest
      by false rest = rest

  all_kept : (xs : List A) → filter (λ _. true) xs ≡ xs
  all_kept [] = refl
  all_kept (x ∷ xs) = ap (λ zs. x ∷ zs) (all_kept xs)

-- ---- what is known of those near

-- of one that is known, if it passes the test
abbrev passing : (Seen → Bool) → Option Seen → Option Seen
passing t None = None
passing t (Some s) = cond (t s) (Some s) None

not_above : (x e y : ℕ) → nat_cmp x y ≡ Less → eqb x e ≡ true → eqb y e ≡ false
not_above x e y less is = grind (arith, nat_tests, less, is)

above_same : (x e : ℕ) (xs : List Seen) → AllByRecursion (λ y. nat_cmp x y ≡ Less) (entities xs) → eqb x e ≡ true → seen_of e xs ≡ None
above_same x e [] h is = refl
above_same x e (s ∷ xs) h is =
    ap (λ b. cond b (Some s) (seen_of e xs)) (not_above x e s.entity h.0 is) ∙ above_same x e xs h.1 is

module _ (t : Seen → Bool) (e : ℕ) where
  seen_passing : (xs : List Seen) → IsStrictlySortedBy nat_cmp (entities xs) → seen_of e (filter t xs) ≡ passing t (seen_of e xs)
  seen_passing [] o = refl
  seen_passing (x ∷ xs) o =
      by (t x) (eqb x.entity e) refl refl (seen_passing xs (sorted_tail nat_cmp x.entity (entities xs) o))
      (sorted_head nat_cmp x.entity (entities xs) o)
    where
      by : (b c : Bool) → t x ≡ b → eqb x.entity e ≡ c → seen_of e (filter t xs) ≡ passing t (seen_of e xs) →
          AllByRecursion (λ y. nat_cmp x.entity y ≡ Less) (entities xs) →
          seen_of e (cond b (x ∷ filter t xs) (filter t xs)) ≡ passing t (cond c (Some x) (seen_of e xs))
      by true true is same rest above = ap (λ b. cond b (Some x) (seen_of e (filter t xs))) same ∙ sym (ap (λ b. cond b (Some x) None) is)
      by true false is other rest above = ap (λ b. cond b (Some x) (seen_of e (filter t xs))) other ∙ rest
      by false true is same rest above =
          rest ∙ (ap (passing t) (above_same x.entity e xs above same) ∙ sym (ap (λ b. cond b (Some x) None) is))
      by false false is other rest above = rest

-- ---- the tests

not_below : (a b : ℕ) → not (nat_lt a b) ≡ nat_le b a
not_below a b = grind (arith, nat_tests)

module _ (r : Replica) (own : Pos) (t : Seen → Bool) (near_passes : (s : Seen) → is_near r own s ≡ true → t s ≡ true) where
  -- an entity leaves for what is known of all just where it leaves for those that pass, and not early
  leaves_near : (v : ℕ) (o : Option Seen) → (leaves r own v (passing t o) && not (was_newer (Some v) o)) ≡ leaves r own v o
  leaves_near v None = refl
  leaves_near v (Some s) = by (t s) (is_far r own s.pos) refl refl
    where
      by_version : (b c : Bool) → c ≡ not b → (c && not b) ≡ c
      by_version true c is = ap (λ x. x && false) is ∙ sym is
      by_version false true is = refl
      by_version false false is = refl

      by : (a b : Bool) → t s ≡ a → is_far r own s.pos ≡ b →
          (leaves r own v (cond a (Some s) None) && not (nat_lt s.version v)) ≡ (b && nat_le v s.version)
      by true true pass far =
          ap (λ b. (b && nat_le v s.version) && not (nat_lt s.version v)) far
          ∙ by_version (nat_lt s.version v) (nat_le v s.version) (sym (not_below s.version v))
      by true false pass near = ap (λ b. (b && nat_le v s.version) && not (nat_lt s.version v)) near
      by false true pass far = not_below s.version v
      by false false pass near = let wrong : true ≡ false = sym (near_passes s (ap not near)) ∙ pass in cc

  changed_near : (v : ℕ) (o : Option Seen) → has_changed r own v (passing t o) ≡ has_changed r own v o
  changed_near v None = refl
  changed_near v (Some s) = by (t s) (is_far r own s.pos) refl refl
    where
      by : (a b : Bool) → t s ≡ a → is_far r own s.pos ≡ b →
          has_changed r own v (cond a (Some s) None) ≡ (not b && nat_lt v s.version)
      by true b pass far = ap (λ c. not c && nat_lt v s.version) far
      by false true pass far = refl
      by false false pass near = let wrong : true ≡ false = sym (near_passes s (ap not near)) ∙ pass in cc

  -- one that has changed is near
  near_when_changed : (v : ℕ) (o : Option Seen) → has_changed r own v o ≡ true → passing t o ≡ o
  near_when_changed v None h = refl
  near_when_changed v (Some s) h = by (is_near r own s) refl h
    where
      by : (b : Bool) → is_near r own s ≡ b → (b && nat_lt v s.version) ≡ true → cond (t s) (Some s) None ≡ Some s
      by true near k = ap (λ b. cond b (Some s) None) (near_passes s near)
      by false far k = cc

  second_of : (a b c : Bool) → ((a && b) && c) ≡ true → b ≡ true
  second_of true true c h = refl
  second_of true false c h = h
  second_of false b c h = cc

  near_not_far : (radius hysteresis d : ℕ) → nat_le d radius ≡ true → not (nat_lt (radius + hysteresis) d) ≡ true
  near_not_far radius hysteresis d t =
      let le : d ≤ radius = grind (arith, nat_tests) in
      let far : nat_lt (radius + hysteresis) d ≡ false = grind (arith, nat_tests) in
      ap not far

  -- and so is one that enters
  near_when_entering : (s : Seen) → enters r own s ≡ true → t s ≡ true
  near_when_entering s h =
      near_passes s (near_not_far r.radius r.hysteresis (distance own s.pos)
      (second_of (not (in_view r s.entity)) (nat_le (distance own s.pos) r.radius) (not_older (versions.get r.shown s.entity) s.version) h))

-- ---- the looks

module _ (r : Replica) (own : Pos) (known : List Seen) (rises : IsStrictlySortedBy nat_cmp (entities known)) (t : Seen → Bool)
    (near_passes : (s : Seen) → is_near r own s ≡ true → t s ≡ true) where
  abbrev near : List Seen
  near = filter t known

  abbrev stays : Look → Bool
  stays look = not (is_early r known look)

  seen_near : (e : ℕ) → seen_of e near ≡ passing t (seen_of e known)
  seen_near e = seen_passing t e known rises

  leaves_agree : (es : List (ℕ × ℕ)) → AreShown r.shown es →
      AllByRecursion (λ p. (leaves r own p.1 (seen_of p.0 near) && stays (Leave p.0)) ≡ leaves r own p.1 (seen_of p.0 known)) es
  leaves_agree [] h = tt
  leaves_agree (p ∷ es) h = (
    (λ i. leaves r own p.1 (seen_near p.0 i) && not (was_newer (h.0 i) (seen_of p.0 known)))
        ∙ leaves_near r own t near_passes p.1 (seen_of p.0 known),
    leaves_agree es h.1,
  )

  leaving_near : AreShown r.shown r.entries → filter stays (leaving r own near r.entries) ≡ leaving r own known r.entries
  leaving_near shown =
      filter_mapped (λ p. Leave p.0) stays (filter (λ p. leaves r own p.1 (seen_of p.0 near)) r.entries)
      ∙ ap (map (λ p. Leave p.0)) (both_filters (λ p. stays (Leave p.0)) (λ p. leaves r own p.1 (seen_of p.0 near))
      (λ p. leaves r own p.1 (seen_of p.0 known)) r.entries (leaves_agree r.entries shown))

  changed_same : filter stays (changed r own near r.entries) ≡ changed r own known r.entries
  changed_same =
      filter_mapped (λ p. Set p.0) stays (filter (λ p. has_changed r own p.1 (seen_of p.0 near)) r.entries)
      ∙ (ap (map (λ p. Set p.0)) (all_kept (filter (λ p. has_changed r own p.1 (seen_of p.0 near)) r.entries)
      ∙ filter_agree _ _ r.entries (each (λ p. has_changed r own p.1 (seen_of p.0 near) ≡ has_changed r own p.1 (seen_of p.0 known))
      (λ p. ap (has_changed r own p.1) (seen_near p.0) ∙ changed_near r own t near_passes p.1 (seen_of p.0 known)) r.entries)))

  entering_same : filter stays (entering r own near) ≡ entering r own known
  entering_same =
      filter_mapped (λ s. Enter s.entity) stays (filter (enters r own) near)
      ∙ ap (map (λ s. Enter s.entity)) (all_kept (filter (enters r own) near)
      ∙ sym (filter_of_filter (enters r own) t (near_when_entering r own t near_passes) known))

  looks_near : IsView r → one_look r own known ≡ filter stays (one_look r own near)
  looks_near view =
      sym (filter_of_both stays (leaving r own near r.entries ++ changed r own near r.entries) (entering r own near)
      ∙ (ap (λ l. l ++ filter stays (entering r own near))
      (filter_of_both stays (leaving r own near r.entries) (changed r own near r.entries))
      ∙ λ i. leaving_near view.shown i ++ changed_same i ++ entering_same i))

  -- ---- and what they leave

  -- both know the same of the entity that the look shows
  abbrev Agree : Look → Type 0
  Agree (Leave e) = Unit {0}
  Agree (Set e) = seen_of e near ≡ seen_of e known
  Agree (Enter e) = seen_of e near ≡ seen_of e known

  one_agrees : (q : Replica) (look : Look) → Agree look → after_look near q look ≡ after_look known q look
  one_agrees q (Leave e) same = refl
  one_agrees q (Set e) same = ap (after_showing q e) same
  one_agrees q (Enter e) same = ap (after_showing q e) same

  all_agree : (looks : List Look) (q : Replica) → AllByRecursion Agree looks → after_looks near q looks ≡ after_looks known q looks
  all_agree [] q h = refl
  all_agree (look ∷ looks) q h =
      ap (λ w. after_looks near w looks) (one_agrees q look h.0) ∙ all_agree looks (after_look known q look) h.1

  less_differs : (a b : ℕ) → nat_cmp a b ≡ Less → eqb a b ≡ false
  less_differs a b e = grind (arith, nat_tests)

  -- what is known of each of those known is itself
  abbrev IsItself : List Seen → Seen → Type 0
  IsItself xs s = seen_of s.entity xs ≡ Some s

  itself_later : (x : Seen) (xs ys : List Seen) → AllByRecursion (λ y. nat_cmp x.entity y ≡ Less) (entities ys) →
      AllByRecursion (IsItself xs) ys → AllByRecursion (IsItself (x ∷ xs)) ys
  itself_later x xs [] h k = tt
  itself_later x xs (y ∷ ys) h k = (
    ap (λ b. cond b (Some x) (seen_of y.entity xs)) (less_differs x.entity y.entity h.0) ∙ k.0,
    itself_later x xs ys h.1 k.1,
  )

  each_itself : (xs : List Seen) → IsStrictlySortedBy nat_cmp (entities xs) → AllByRecursion (IsItself xs) xs
  each_itself [] o = tt
  each_itself (x ∷ xs) o = (
    ap (λ b. cond b (Some x) (seen_of x.entity xs)) (same_again x.entity),
    itself_later x xs xs (sorted_head nat_cmp x.entity (entities xs) o) (each_itself xs (sorted_tail nat_cmp x.entity (entities xs) o)),
  )

  enters_agree : (xs : List Seen) → AllByRecursion (IsItself known) xs →
      AllByRecursion (λ s. enters r own s ≡ true → Agree (Enter s.entity)) xs
  enters_agree [] h = tt
  enters_agree (x ∷ xs) h = (
    λ is. seen_near x.entity ∙ (ap (passing t) h.0
        ∙ (ap (λ b. cond b (Some x) None) (near_when_entering r own t near_passes x is) ∙ sym h.0)),
    enters_agree xs h.1,
  )

  kept_near : after_looks near r (one_look r own known) ≡ after_looks known r (one_look r own known)
  kept_near =
      let gone = all_mapped Agree (λ p. Leave p.0) (filter (λ p. leaves r own p.1 (seen_of p.0 known)) r.entries)
      (each (λ _. Unit {0}) (λ _. tt) (filter (λ p. leaves r own p.1 (seen_of p.0 known)) r.entries)) in
      let new = all_mapped Agree (λ p. Set p.0) (filter (λ p. has_changed r own p.1 (seen_of p.0 known)) r.entries)
      (passed (λ p. Agree (Set p.0)) (λ p. has_changed r own p.1 (seen_of p.0 known)) r.entries
      (each (λ p. has_changed r own p.1 (seen_of p.0 known) ≡ true → Agree (Set p.0))
      (λ p is. seen_near p.0 ∙ near_when_changed r own t near_passes p.1 (seen_of p.0 known) is) r.entries)) in
      let come = all_mapped Agree (λ s. Enter s.entity) (filter (enters r own) known)
      (passed (λ s. Agree (Enter s.entity)) (enters r own) known (enters_agree known (each_itself known rises))) in
      all_agree (one_look r own known) r
      (all_of_both Agree (leaving r own known r.entries ++ changed r own known r.entries) (entering r own known)
      (all_of_both Agree (leaving r own known r.entries) (changed r own known r.entries) gone new) come)

module _ (r : Replica) (own : Pos) (known seen : List Seen) (rises : IsStrictlySortedBy nat_cmp (entities known))
    (has : HasNear r own known seen) where
  pub looks_same : IsView r → filter (λ look. not (is_early r known look)) (one_look r own seen) ≡ one_look r own known
  looks_same view =
      ap (λ l. filter (λ look. not (is_early r known look)) (one_look r own l)) has.2 ∙ sym (looks_near r own known rises has.0 has.1 view)

  pub kept_same : (looks : List Look) → looks ≡ one_look r own known → after_looks seen r looks ≡ after_looks known r looks
  kept_same looks is =
      (λ i. after_looks (has.2 i) r (is i))
      ∙ (kept_near r own known rises has.0 has.1 ∙ ap (after_looks known r) (sym is))

above_filtered : (t : Seen → Bool) (n : ℕ) (ys : List Seen) → AllByRecursion (λ y. nat_cmp n y ≡ Less) (entities ys) →
    AllByRecursion (λ y. nat_cmp n y ≡ Less) (entities (filter t ys))
above_filtered t n [] h = tt
above_filtered t n (y ∷ ys) h = by (t y) (above_filtered t n ys h.1)
  where
    by : (b : Bool) → AllByRecursion (λ z. nat_cmp n z ≡ Less) (entities (filter t ys)) →
        AllByRecursion (λ z. nat_cmp n z ≡ Less) (entities (cond b (y ∷ filter t ys) (filter t ys)))
    by true rest = (h.0, rest)
    by false rest = rest

rising_by : (x : Seen) (xs : List Seen) (b : Bool) → IsStrictlySortedBy nat_cmp (entities xs) →
    AllByRecursion (λ y. nat_cmp x.entity y ≡ Less) (entities xs) → IsStrictlySortedBy nat_cmp (entities (cond b (x ∷ xs) xs))
unfolding IsStrictlySortedBy
rising_by x xs true rest first = (first, rest)
rising_by x xs false rest first = rest

rising_filtered : (t : Seen → Bool) (xs : List Seen) → IsStrictlySortedBy nat_cmp (entities xs) →
    IsStrictlySortedBy nat_cmp (entities (filter t xs))
rising_filtered t [] o = o
rising_filtered t (x ∷ xs) o =
    rising_by x (filter t xs) (t x) (rising_filtered t xs (sorted_tail nat_cmp x.entity (entities xs) o))
    (above_filtered t x.entity xs (sorted_head nat_cmp x.entity (entities xs) o))

pub rising_near : (r : Replica) (own : Pos) (known seen : List Seen) → IsStrictlySortedBy nat_cmp (entities known) →
    seen ≡ filter (is_near r own) known → IsStrictlySortedBy nat_cmp (entities seen)
rising_near r own known seen rises is =
    subst (λ l. IsStrictlySortedBy nat_cmp (entities l)) (sym is) (rising_filtered (is_near r own) known rises)
