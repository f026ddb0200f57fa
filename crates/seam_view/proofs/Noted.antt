-- The notes of a view as those known are looked up one by one, and the looks that they give.
use Rattle.std.proofs.Common.{◌≡◌, ◌<◌, ◌+◌, ℕ, zero, suc, Bool, true, false, cond, not, ◌&&◌, ◌||◌, eqb, List, [], ◌∷◌, ◌++◌, map, take}
use Rattle.std.proofs.Common.{drop, length, get_or, slice_get, slice_set, Option, None, Some, refl, sym, ap, ◌∙◌, subst, arith}
use Rattle.std.proofs.Common.{unwrap_or}
use Rattle.std.specs.Prelude.{nat_lt, nat_le, replicate}
use Rattle.std.specs.Ordering.{nat_cmp}
use Rattle.std.specs.Map.{keys_of}
use Rattle.std.specs.List.{IsDistinct, AllByRecursion, filter, list_any}
use Rattle.std.specs.List.Sorted.{IsStrictlySortedBy}
use Rattle.std.specs.declared.cmp.Ordering.TheVariants.{Less}
use Rattle.std.proofs.lemmas.Map.Keys.{IsDistinct-head, IsDistinct-tail, sorted_head, sorted_tail}
use Rattle.std.proofs.lemmas.Bool.{or_parts}
use Rattle.std.proofs.lemmas.Bool.Decides.{nat_tests}
use Rattle.std.specs.FinMap as versions
use Rattle.seam_geo.specs.declared.pos.Pos.{Pos}
use Rattle.seam_geo.specs.Pos.{distance}
use Rattle.seam_view.specs.declared.Seen.{Seen}
use Rattle.seam_view.specs.declared.Look.{Look}
use Rattle.seam_view.specs.declared.Look.TheVariants.{Leave, Set, Enter}
use Rattle.seam_view.specs.declared.Note.{Note}
use Rattle.seam_view.specs.declared.Note.TheVariants.{Stays, Leaves, Changed}
use Rattle.seam_view.specs.Replica.{Replica, seen_of}
use Rattle.seam_view.specs.ViewLooks.{is_far, in_view, leaves, has_changed, not_older, enters, leaving, changed, entering}
use Rattle.seam_view.specs.Notes.{note_of, notes_of, is_leave, is_change, noted}
use Rattle.seam_view.proofs.KnownOrder.{entities}
use Rattle.seam_view.proofs.Numbers.{apart, or_second, same_again}

-- ---- the looks of the notes

noted_by : (f : ℕ → Look) (b l : Bool) (p : ℕ × ℕ) (xs : List ℕ) (ys : List (ℕ × ℕ)) → b ≡ l → map f xs ≡ map (λ p. f p.0) ys →
    map f (cond b (p.0 ∷ xs) xs) ≡ map (λ p. f p.0) (cond l (p ∷ ys) ys)
noted_by f b true p xs ys e h = ap (λ c. map f (cond c (p.0 ∷ xs) xs)) e ∙ ap (λ zs. f p.0 ∷ zs) h
noted_by f b false p xs ys e h = ap (λ c. map f (cond c (p.0 ∷ xs) xs)) e ∙ h

leave_noted : (l c : Bool) → is_leave (cond l Leaves (cond c Changed Stays)) ≡ l
leave_noted true c = refl
leave_noted false true = refl
leave_noted false false = refl

change_noted : (l c : Bool) → (l ≡ true → c ≡ false) → is_change (cond l Leaves (cond c Changed Stays)) ≡ c
change_noted true c h = sym (h refl)
change_noted false true h = refl
change_noted false false h = refl

not_both : (far b c : Bool) → (far && b) ≡ true → (not far && c) ≡ false
not_both true b c h = refl
not_both false b c h = cc

module _ (r : Replica) (own : Pos) (known : List Seen) where
  pub left_or_changed : (v : ℕ) (o : Option Seen) → leaves r own v o ≡ true → has_changed r own v o ≡ false
  left_or_changed v None h = refl
  left_or_changed v (Some s) h = not_both (is_far r own s.pos) (nat_le v s.version) (nat_lt v s.version) h

  pub leaves_noted : (es : List (ℕ × ℕ)) →
      map (λ e. Leave e) (noted is_leave (map (λ p. note_of r own p.1 (seen_of p.0 known)) es) (keys_of es)) ≡ leaving r own known es
  leaves_noted [] = refl
  leaves_noted (p ∷ es) =
      noted_by (λ e. Leave e) _ (leaves r own p.1 (seen_of p.0 known)) p _ (filter (λ p. leaves r own p.1 (seen_of p.0 known)) es)
      (leave_noted (leaves r own p.1 (seen_of p.0 known)) (has_changed r own p.1 (seen_of p.0 known))) (leaves_noted es)

  pub changes_noted : (es : List (ℕ × ℕ)) →
      map (λ e. Set e) (noted is_change (map (λ p. note_of r own p.1 (seen_of p.0 known)) es) (keys_of es)) ≡ changed r own known es
  changes_noted [] = refl
  changes_noted (p ∷ es) =
      noted_by (λ e. Set e) _ (has_changed r own p.1 (seen_of p.0 known)) p _ (filter (λ p. has_changed r own p.1 (seen_of p.0 known)) es)
      (change_noted (leaves r own p.1 (seen_of p.0 known)) (has_changed r own p.1 (seen_of p.0 known))
      (left_or_changed p.1 (seen_of p.0 known)))
      (changes_noted es)

-- what is noted from a place on
pub noted_from : (t : Note → Bool) (ns : List Note) (es : List ℕ) (i e : ℕ) (n d : Note) → i < length ns → get_or ns i d ≡ n →
    slice_get es i ≡ Some e →
    noted t (drop i ns) (drop i es) ≡ cond (t n) (e ∷ noted t (drop (i + 1) ns) (drop (i + 1) es))
    (noted t (drop (i + 1) ns) (drop (i + 1) es))
noted_from t [] es i e n d lt h k = absurd (omega (arith, lt))
noted_from t (m ∷ ns) [] i e n d lt h k = cc
noted_from t (m ∷ ns) (x ∷ es) zero e n d lt h k =
    let same : x ≡ e = ap (λ o. unwrap_or o x) k in
    λ j. cond (t (h j)) (same j ∷ noted t ns es) (noted t ns es)
noted_from t (m ∷ ns) (x ∷ es) (suc i) e n d lt h k =
    let more : suc (i + 1) ≡ suc i + 1 = omega arith in
    noted_from t ns es i e n d (omega (arith, lt)) h k
    ∙ ap (λ j. cond (t n) (e ∷ noted t (drop j (m ∷ ns)) (drop j (x ∷ es))) (noted t (drop j (m ∷ ns)) (drop j (x ∷ es)))) more

-- one that passes comes next, and one that does not is passed over
pub noted_with : (t : Note → Bool) (ns : List Note) (es : List ℕ) (i e : ℕ) (n d : Note) → i < length ns → get_or ns i d ≡ n →
    slice_get es i ≡ Some e → t n ≡ true →
    e ∷ noted t (drop (i + 1) ns) (drop (i + 1) es) ≡ noted t (drop i ns) (drop i es)
noted_with t ns es i e n d lt h k p =
    sym (noted_from t ns es i e n d lt h k
    ∙ ap (λ b. cond b (e ∷ noted t (drop (i + 1) ns) (drop (i + 1) es)) (noted t (drop (i + 1) ns) (drop (i + 1) es))) p)

pub noted_past : (t : Note → Bool) (ns : List Note) (es : List ℕ) (i : ℕ) (n d : Note) → i < length ns → length ns ≡ length es →
    get_or ns i d ≡ n → t n ≡ false →
    noted t (drop (i + 1) ns) (drop (i + 1) es) ≡ noted t (drop i ns) (drop i es)
noted_past t [] es i n d lt l h p = absurd (omega (arith, lt))
noted_past t (m ∷ ns) [] i n d lt l h p = absurd (omega (arith, l))
noted_past t (m ∷ ns) (x ∷ es) zero n d lt l h p =
    let no : t m ≡ false = ap t h ∙ p in
    sym (ap (λ b. cond b (x ∷ noted t ns es) (noted t ns es)) no)
noted_past t (m ∷ ns) (x ∷ es) (suc i) n d lt l h p =
    let more : suc (i + 1) ≡ suc i + 1 = omega arith in
    ap (λ j. noted t (drop j (m ∷ ns)) (drop j (x ∷ es))) (sym more) ∙ noted_past t ns es i n d (omega (arith, lt)) (omega (arith, l)) h p

pub push_append : {A : Type 0} (xs : List A) (x : A) (ys : List A) → (xs ++ x ∷ []) ++ ys ≡ xs ++ x ∷ ys
push_append [] x ys = refl
push_append (z ∷ xs) x ys = ap (λ l. z ∷ l) (push_append xs x ys)

-- ---- those known, one by one

apart_at : (x : ℕ) (xs : List Seen) (k : ℕ) (d : Seen) → AllByRecursion (λ y. nat_cmp x y ≡ Less) (entities xs) → k < length xs →
    eqb x (get_or xs k d).entity ≡ false
apart_at x [] k d h lt = absurd (omega (arith, lt))
apart_at x (s ∷ xs) zero d h lt = apart x s.entity h.0
apart_at x (s ∷ xs) (suc k) d h lt = apart_at x xs k d h.1 (omega (arith, lt))

-- of two tests at most one answers true, so their order does not matter
swapped : {X : Type 0} (a b : Bool) (x y z : X) → (a ≡ true → b ≡ true → ⊥) → cond a x (cond b y z) ≡ cond b y (cond a x z)
swapped true true x y z n = absurd (n refl refl)
swapped true false x y z n = refl
swapped false b x y z n = refl

not_two : (x y e : ℕ) → eqb x y ≡ false → eqb x e ≡ true → eqb y e ≡ true → ⊥
not_two x y e n h k = let f : eqb x y ≡ true = grind (arith, nat_tests) in let g : true ≡ false = sym f ∙ n in cc

-- what is known of an entity once one more is known
pub seen_with_next : (known : List Seen) (k e : ℕ) (d : Seen) → IsStrictlySortedBy nat_cmp (entities known) → k < length known →
    seen_of e (take (k + 1) known) ≡ cond (eqb (get_or known k d).entity e) (Some (get_or known k d)) (seen_of e (take k known))
seen_with_next [] k e d o lt = absurd (omega (arith, lt))
seen_with_next (s ∷ known) zero e d o lt = refl
seen_with_next (s ∷ known) (suc k) e d o lt =
    let more : suc (k + 1) ≡ suc k + 1 = omega arith in
    let s' = get_or known k d in
    let other = apart_at s.entity known k d (sorted_head nat_cmp s.entity (entities known) o) (omega (arith, lt)) in
    ap (λ n. seen_of e (take n (s ∷ known))) (sym more)
    ∙ (ap (cond (eqb s.entity e) (Some s))
    (seen_with_next known k e d (sorted_tail nat_cmp s.entity (entities known) o) (omega (arith, lt)))
    ∙ swapped (eqb s.entity e) (eqb s'.entity e) (Some s) (Some s') (seen_of e (take k known)) (not_two s.entity s'.entity e other))

-- ---- the notes of the entries

absent_keys : {X : Type 0} (f g : ℕ × ℕ → X) (e : ℕ) (es : List (ℕ × ℕ)) → ((p : ℕ × ℕ) → eqb e p.0 ≡ false → f p ≡ g p) →
    AllByRecursion (λ y. eqb e y ≡ false) (keys_of es) → map f es ≡ map g es
absent_keys f g e [] same h = refl
absent_keys f g e (p ∷ es) same h = λ i. same p h.0 i ∷ absent_keys f g e es same h.1 i

key_at : (x : ℕ) (es : List (ℕ × ℕ)) (i : ℕ) (q : ℕ × ℕ) → AllByRecursion (λ y. eqb x y ≡ false) (keys_of es) → slice_get es i ≡ Some q →
    eqb x q.0 ≡ false
key_at x [] i q h k = cc
key_at x (p ∷ es) zero q h k = let same : p ≡ q = ap (λ o. unwrap_or o p) k in ap (λ y. eqb x y.0) (sym same) ∙ h.0
key_at x (p ∷ es) (suc i) q h k = key_at x es i q h.1 k

-- a change of the one entry of an entity
pub noted_at : {X : Type 0} (f g : ℕ × ℕ → X) (e : ℕ) (es : List (ℕ × ℕ)) (i : ℕ) (q : ℕ × ℕ) → IsDistinct eqb (keys_of es) →
    slice_get es i ≡ Some q → q.0 ≡ e →
    ((p : ℕ × ℕ) → eqb e p.0 ≡ false → f p ≡ g p) → slice_set (map f es) i (g q) ≡ map g es
noted_at f g e [] i q u k t same = cc
noted_at f g e (p ∷ es) zero q u k t same =
    let here : p ≡ q = ap (λ o. unwrap_or o p) k in
    let head =
    subst (λ y. AllByRecursion (λ z. eqb y z ≡ false) (keys_of es)) (ap (λ y. y.0) here ∙ t) (IsDistinct-head eqb p.0 (keys_of es) u) in
    λ j. g (sym here j) ∷ absent_keys f g e es same head j
noted_at f g e (p ∷ es) (suc i) q u k t same =
    let other : eqb p.0 e ≡ false = ap (eqb p.0) (sym t) ∙ key_at p.0 es i q (IsDistinct-head eqb p.0 (keys_of es) u) k in
    let turned : eqb e p.0 ≡ false = grind (arith, nat_tests) in
    λ j. same p turned j ∷ noted_at f g e es i q (IsDistinct-tail eqb p.0 (keys_of es) u) k t same j

-- an entity that is not in view is in no entry
pub missing : (e : ℕ) (es : List (ℕ × ℕ)) → list_any (λ p. eqb e p.0) es ≡ false → AllByRecursion (λ y. eqb e y ≡ false) (keys_of es)
missing e [] h = tt
missing e (p ∷ es) h = let no = or_parts (eqb e p.0) (list_any (λ p. eqb e p.0) es) h in (no.0, missing e es no.1)

pub notes_of_none : (r : Replica) (own : Pos) (es : List (ℕ × ℕ)) →
    replicate (length es) Leaves ≡ map (λ p. note_of r own p.1 (seen_of p.0 [])) es
notes_of_none r own [] = refl
notes_of_none r own (p ∷ es) = ap (λ ns. Leaves ∷ ns) (notes_of_none r own es)

module _ (r : Replica) (own : Pos) (known : List Seen) (k : ℕ) (d : Seen) (o : IsStrictlySortedBy nat_cmp (entities known))
    (lt : k < length known) where
  abbrev Next : Seen
  Next = get_or known k d

  note_same : (p : ℕ × ℕ) → eqb Next.entity p.0 ≡ false →
      note_of r own p.1 (seen_of p.0 (take k known)) ≡ note_of r own p.1 (seen_of p.0 (take (k + 1) known))
  note_same p t =
      ap (note_of r own p.1) (sym (seen_with_next known k p.0 d o lt ∙ ap (λ b. cond b (Some Next) (seen_of p.0 (take k known))) t))

  -- the next one is in view
  pub notes_when_found : (i : ℕ) (q : ℕ × ℕ) → IsDistinct eqb (keys_of r.entries) → slice_get r.entries i ≡ Some q → q.0 ≡ Next.entity →
      slice_set (notes_of r own (take k known)) i (note_of r own q.1 (Some Next)) ≡ notes_of r own (take (k + 1) known)
  notes_when_found i q u at t =
      let seen : seen_of q.0 (take (k + 1) known) ≡ Some Next =
      seen_with_next known k q.0 d o lt ∙ ap (λ b. cond b (Some Next) (seen_of q.0 (take k known))) (ap (eqb Next.entity) t
      ∙ same_again Next.entity) in
      ap (λ s. slice_set (notes_of r own (take k known)) i (note_of r own q.1 s)) (sym seen)
      ∙ noted_at (λ p. note_of r own p.1 (seen_of p.0 (take k known))) (λ p. note_of r own p.1 (seen_of p.0 (take (k + 1) known)))
      Next.entity r.entries i q u at t note_same

  -- the next one is not
  pub notes_when_missing : AllByRecursion (λ y. eqb Next.entity y ≡ false) (keys_of r.entries) →
      notes_of r own (take k known) ≡ notes_of r own (take (k + 1) known)
  notes_when_missing h =
      absent_keys (λ p. note_of r own p.1 (seen_of p.0 (take k known))) (λ p. note_of r own p.1 (seen_of p.0 (take (k + 1) known)))
      Next.entity r.entries note_same h

-- ---- what the look-up of one tells

pub place_below : (n : ℕ) (es : List (ℕ × ℕ)) (i : ℕ) (q : ℕ × ℕ) → n ≡ length es → slice_get es i ≡ Some q → i < n
place_below n [] i q e h = cc
place_below n (p ∷ es) zero q e h = omega (arith, e)
place_below n (p ∷ es) (suc i) q e h = let rest = place_below (length es) es i q refl h in omega (arith, e, rest)

pub viewed_at : (es : List (ℕ × ℕ)) (i e : ℕ) (q : ℕ × ℕ) → slice_get es i ≡ Some q → q.0 ≡ e → list_any (λ p. eqb e p.0) es ≡ true
viewed_at [] i e q h t = cc
viewed_at (p ∷ es) zero e q h t =
    let same : p.0 ≡ e = ap (λ o. (unwrap_or o p).0) h ∙ t in
    let here : eqb e p.0 ≡ true = grind (arith, nat_tests) in
    ap (λ b. b || list_any (λ p. eqb e p.0) es) here
viewed_at (p ∷ es) (suc i) e q h t = or_second (eqb e p.0) _ (viewed_at es i e q h t)

-- the enters from a place on
entering_from : (r : Replica) (own : Pos) (known : List Seen) (k : ℕ) (d : Seen) → k < length known →
    entering r own (drop k known)
    ≡ cond (enters r own (get_or known k d)) (Enter (get_or known k d).entity ∷ entering r own (drop (k + 1) known))
    (entering r own (drop (k + 1) known))
entering_from r own [] k d lt = absurd (omega (arith, lt))
entering_from r own (s ∷ known) zero d lt =
    elim (enters r own s) as (λ b. map (λ s. Enter s.entity) (cond b (s ∷ filter (enters r own) known) (filter (enters r own) known))
    ≡ cond b (Enter s.entity ∷ entering r own known) (entering r own known)) [
      | true ↦ refl
      | false ↦ refl
    ]
entering_from r own (s ∷ known) (suc k) d lt =
    let more : suc (k + 1) ≡ suc k + 1 = omega arith in
    entering_from r own known k d (omega (arith, lt))
    ∙ ap (λ n. cond (enters r own (get_or known k d)) (Enter (get_or known k d).entity ∷ entering r own (drop n (s ∷ known)))
    (entering r own (drop n (s ∷ known)))) more

module _ (r : Replica) (own : Pos) (known : List Seen) (k : ℕ) (d : Seen) (lt : k < length known) where
  abbrev Last : Seen
  Last = get_or known k d

  pub entering_with_next : (items : List Look) → enters r own Last ≡ true →
      (items ++ Enter Last.entity ∷ []) ++ entering r own (drop (k + 1) known) ≡ items ++ entering r own (drop k known)
  entering_with_next items t =
      push_append items (Enter Last.entity) (entering r own (drop (k + 1) known))
      ∙ ap (λ xs. items ++ xs) (sym (entering_from r own known k d lt
      ∙ ap (λ b. cond b (Enter Last.entity ∷ entering r own (drop (k + 1) known)) (entering r own (drop (k + 1) known))) t))

  pub entering_past : enters r own Last ≡ false → entering r own (drop (k + 1) known) ≡ entering r own (drop k known)
  entering_past t =
      sym (entering_from r own known k d lt
      ∙ ap (λ b. cond b (Enter Last.entity ∷ entering r own (drop (k + 1) known)) (entering r own (drop (k + 1) known))) t)

  -- one in view does not enter
  pub entering_past_viewed : in_view r Last.entity ≡ true → entering r own (drop (k + 1) known) ≡ entering r own (drop k known)
  entering_past_viewed h =
      entering_past
      (ap (λ b. (not b && nat_le (distance own Last.pos) r.radius) && not_older (versions.get r.shown Last.entity) Last.version) h)
