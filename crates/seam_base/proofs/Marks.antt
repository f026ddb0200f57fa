-- Marks beside base parts: what they say of the parts, and how they follow them.
use Rattle.std.proofs.Common.{◌≡◌, ℕ, Bool, true, false, cond, ◌&&◌, ◌||◌, T, is_some, List, length, slice_get}
use Rattle.std.proofs.Common.{[], ◌∷◌, find, Option, None, Some, refl, sym, ap, ◌∙◌, arith}
use Rattle.std.specs.BTreeMap.{is_at}
use Rattle.std.specs.List.{list_any, AllByRecursion}
use Rattle.std.specs.List.Sorted.{IsStrictlySortedBy}
use Rattle.std.proofs.lemmas.Map.Keys.{sorted_head, sorted_tail}
use Rattle.std.specs.Prelude.{option_map}
use Rattle.std.specs.Ordering.{nat_cmp, is_lt, is_eq, eq_by_cmp, ordering_reverse}
use Rattle.std.specs.declared.cmp.Ordering.{Ordering}
use Rattle.std.specs.declared.cmp.Ordering.TheVariants.{Less, Equal, Greater}
use Rattle.std.specs.Cmp.{nat_cmp_total, tied_itself}
use Rattle.std.specs.FinMap as table
use Rattle.std.specs.FinMap.Entries.{is_sorted, below_all, find as key_find}
use Rattle.std.proofs.lemmas.Bool.Decides.{nat_tests}
use Rattle.seam_table.proofs.Found.{found}
use Rattle.seam_node_steps.specs.Prelude.{Map, number_of, set_at, PartView}
use Rattle.seam_node_steps.proofs.Slots.{set_at-same}
use Rattle.seam_base.specs.Parts.{changed_at}
use Rattle.seam_base.specs.Marks.{passes, AreMarked, PassAlike, marked, bare, marks_of, any_mark, passes_in, least}

-- ---- below what a search of the entries finds, nothing passes

first : (a b : Bool) → T (a && b) → T a
first true b p = tt
first false b p = p

second : (a b : Bool) → T (a && b) → T b
second true b p = p
second false b p = absurd p

pub same_key : (q k : ℕ) → eq_by_cmp nat_cmp q k ≡ true → q ≡ k
same_key q k is = grind (arith, nat_tests, is)

apart_below : (q k n : ℕ) → nat_cmp q k ≡ Less → T (is_lt (nat_cmp k n)) → eq_by_cmp nat_cmp q n ≡ false
apart_below q k n less below = by (nat_cmp k n) refl below
  where
    by : (o : Ordering) → nat_cmp k n ≡ o → T (is_lt o) → eq_by_cmp nat_cmp q n ≡ false
    by Less is h = ap is_eq (nat_cmp_total.trans q k n less is)
    by Equal is h = absurd h
    by Greater is h = absurd h

module _ {X : Type 0} where
  -- a number below the least one has nothing
  none_below : (q k : ℕ) (es : List (ℕ × X)) → nat_cmp q k ≡ Less → T (below_all nat_cmp k es) → key_find nat_cmp q es ≡ None
  none_below q k [] less h = refl
  none_below q k (p ∷ es) less h =
      ap (λ b. cond b (Some p.1) (key_find nat_cmp q es)) (apart_below q k p.0 less (first _ _ h)) ∙ none_below q k es less (second _ _ h)

  -- the number comes before what was found
  abbrev IsBefore : ℕ → Option (ℕ × X) → Type 0
  IsBefore q None = Unit {0}
  IsBefore q (Some p) = nat_cmp q p.0 ≡ Less

  module _ (t : ℕ × X → Bool) where
    first_is : (o : Option (ℕ × X)) (q : ℕ) (p : ℕ × X) → Some p ≡ o → IsBefore q o → nat_cmp q p.0 ≡ Less
    first_is None q p e before = cc
    first_is (Some r) q p e before = let s : p ≡ r = cc in ap (λ y. nat_cmp q y.0) s ∙ before

    fails_at : (p : ℕ × X) (q : ℕ) (x : X) (found_later : Option X) (b : Bool) → eq_by_cmp nat_cmp q p.0 ≡ b → t p ≡ false →
        (found_later ≡ Some x → t (q, x) ≡ false) → cond b (Some p.1) found_later ≡ Some x → t (q, x) ≡ false
    fails_at p q x later true key not rest at =
        let value : p.1 ≡ x = cc in
        ap (λ y. t (y, x)) (same_key q p.0 key) ∙ (ap (λ y. t (p.0, y)) (sym value) ∙ not)
    fails_at p q x later false key not rest at = rest at

    fails_by : (p : ℕ × X) (es : List (ℕ × X)) (o : Option (ℕ × X)) (q : ℕ) (x : X) → T (below_all nat_cmp p.0 es) → IsBefore q o →
        cond (eq_by_cmp nat_cmp q p.0) (Some p.1) (key_find nat_cmp q es) ≡ Some x →
        (find t es ≡ o → key_find nat_cmp q es ≡ Some x → t (q, x) ≡ false) → (b : Bool) → t p ≡ b →
        cond b (Some p) (find t es) ≡ o → t (q, x) ≡ false
    fails_by p es o q x below before at rest true passed is =
        let less = first_is o q p is before in
        let none =
        ap (λ r. cond (is_eq r) (Some p.1) (key_find nat_cmp q es)) less ∙ none_below q p.0 es less below in
        absurd (let z = sym at ∙ none in cc)
    fails_by p es o q x below before at rest false not is =
        fails_at p q x (key_find nat_cmp q es) (eq_by_cmp nat_cmp q p.0) refl not (rest is) at

    fails_in : (es : List (ℕ × X)) (o : Option (ℕ × X)) (q : ℕ) (x : X) → T (is_sorted nat_cmp es) → find t es ≡ o → IsBefore q o →
        key_find nat_cmp q es ≡ Some x → t (q, x) ≡ false
    fails_in [] o q x h is before at = cc
    fails_in (p ∷ es) o q x h is before at = fails_by p es o q x (first _ _ h) before at
        (λ found_is there. fails_in es o q x (second _ _ h) found_is before there) (t p) refl is

    fails_before : (m : Map X) (o : Option (ℕ × X)) (q : ℕ) (x : X) → find t (table.entries m) ≡ o → IsBefore q o →
        table.get m q ≡ Some x → t (q, x) ≡ false
    fails_before m o q x is before at =
        fails_in (table.entries m) o q x (table.entries_sorted m) is before (sym (table.get-entries m q) ∙ at)

-- ---- the least part that passes is the least that is marked

module _ {M : Type 0} (test : PartView → Bool) (marks : Map M) (parts : Map PartView) (are : AreMarked test marks parts) where
  is_marked : (q : ℕ) (p : PartView) → table.get parts q ≡ Some p → test p ≡ true → is_some (table.get marks q) ≡ true
  is_marked q p at is = are q ∙ (ap (passes test) at ∙ is)

  no_mark_before : (o : Option (ℕ × M)) (q : ℕ) → find any_mark (table.entries marks) ≡ o → IsBefore q o →
      is_some (table.get marks q) ≡ true → ⊥
  no_mark_before o q is before h = by (table.get marks q) refl h
    where
      by : (v : Option M) → table.get marks q ≡ v → is_some v ≡ true → ⊥
      by None at h = cc
      by (Some x) at h = let fails = fails_before any_mark marks o q x is before at in cc

  none_passes_before : (o : Option (ℕ × PartView)) (q : ℕ) → find (passes_in test) (table.entries parts) ≡ o → IsBefore q o →
      is_some (table.get marks q) ≡ true → ⊥
  none_passes_before o q is before h = by (table.get parts q) refl (sym (are q) ∙ h)
    where
      by : (v : Option PartView) → table.get parts q ≡ v → passes test v ≡ true → ⊥
      by None at h = cc
      by (Some p) at h = let fails = fails_before (passes_in test) parts o q p is before at in cc

  -- the least entity that is marked is the least whose part passes
  pub least_marked : option_map number_of (find any_mark (table.entries marks)) ≡ least test parts
  least_marked = by (find any_mark (table.entries marks)) (find (passes_in test) (table.entries parts)) refl refl
    where
      by : (a : Option (ℕ × M)) (b : Option (ℕ × PartView)) → find any_mark (table.entries marks) ≡ a →
          find (passes_in test) (table.entries parts) ≡ b → option_map number_of a ≡ option_map number_of b
      by None None ea eb = refl
      by None (Some p) ea eb =
          let there = found (passes_in test) parts p eb in
          absurd (no_mark_before None p.0 ea tt (is_marked p.0 p.1 there.0 there.1))
      by (Some r) None ea eb =
          let there = found any_mark marks r ea in
          absurd (none_passes_before None r.0 eb tt (ap is_some there.0))
      by (Some r) (Some p) ea eb = compare (nat_cmp r.0 p.0) refl
        where
          there : (table.get parts p.0 ≡ Some p.1) × (test p.1 ≡ true)
          there = found (passes_in test) parts p eb

          compare : (o : Ordering) → nat_cmp r.0 p.0 ≡ o → Some r.0 ≡ Some p.0
          compare Less is = absurd (none_passes_before (Some p) r.0 eb is (ap is_some (found any_mark marks r ea).0))
          compare Equal is = ap Some (table.nat_cmp-IsAntisymmetric r.0 p.0 is)
          compare Greater is =
              absurd (no_mark_before (Some r) p.0 ea (nat_cmp_total.antisymm p.0 r.0 ∙ ap ordering_reverse is)
              (is_marked p.0 p.1 there.0 there.1))

-- ---- marks follow the parts

is_some_cond : {A : Type 0} (b : Bool) (x y : Option A) → is_some (cond b x y) ≡ cond b (is_some x) (is_some y)
is_some_cond true x y = refl
is_some_cond false x y = refl

passes_cond : (test : PartView → Bool) (b : Bool) (x y : Option PartView) →
    passes test (cond b x y) ≡ cond b (passes test x) (passes test y)
passes_cond test true x y = refl
passes_cond test false x y = refl

got_marked : {M : Type 0} (b : Bool) (marks : Map M) (e q : ℕ) (m : M) →
    is_some (table.get (marked b marks e m) q) ≡ cond (eq_by_cmp nat_cmp q e) b (is_some (table.get marks q))
got_marked true marks e q m =
    ap is_some (table.get-insert nat_cmp_total marks e m q) ∙ is_some_cond (eq_by_cmp nat_cmp q e) (Some m) (table.get marks q)
got_marked false marks e q m =
    ap is_some (table.get-remove nat_cmp_total marks e q) ∙ is_some_cond (eq_by_cmp nat_cmp q e) None (table.get marks q)

got_passes : (test : PartView → Bool) (parts : Map PartView) (e q : ℕ) (p : PartView) →
    passes test (table.get (table.insert parts e p) q) ≡ cond (eq_by_cmp nat_cmp q e) (test p) (passes test (table.get parts q))
got_passes test parts e q p =
    ap (passes test) (table.get-insert nat_cmp_total parts e p q) ∙ passes_cond test (eq_by_cmp nat_cmp q e) (Some p) (table.get parts q)

module _ {M : Type 0} (test : PartView → Bool) (marks : Map M) (parts : Map PartView) (are : AreMarked test marks parts) (e : ℕ) where
  pub marked_as_put : (p : PartView) (m : M) → AreMarked test (marked (test p) marks e m) (table.insert parts e p)
  marked_as_put p m q =
      got_marked (test p) marks e q m
      ∙ (ap (cond (eq_by_cmp nat_cmp q e) (test p)) (are q) ∙ sym (got_passes test parts e q p))

  pub marks_stay : (p : PartView) → test p ≡ passes test (table.get parts e) → AreMarked test marks (table.insert parts e p)
  marks_stay p same q = are q ∙ (by (eq_by_cmp nat_cmp q e) refl ∙ sym (got_passes test parts e q p))
    where
      by : (b : Bool) → eq_by_cmp nat_cmp q e ≡ b → passes test (table.get parts q) ≡ cond b (test p) (passes test (table.get parts q))
      by true is = ap (λ n. passes test (table.get parts n)) (same_key q e is) ∙ sym same
      by false is = refl

  pub marked_as_removed : AreMarked test (table.remove marks e) (table.remove parts e)
  marked_as_removed q =
      ap is_some (table.get-remove nat_cmp_total marks e q)
      ∙ (is_some_cond (eq_by_cmp nat_cmp q e) None (table.get marks q)
      ∙ (ap (cond (eq_by_cmp nat_cmp q e) false) (are q)
      ∙ (sym (passes_cond test (eq_by_cmp nat_cmp q e) None (table.get parts q))
      ∙ ap (passes test) (sym (table.get-remove nat_cmp_total parts e q)))))

-- ---- a part that is changed

-- marks as they were, of parts as they were
pub same_marks : {M : Type 0} (test : PartView → Bool) (marks m : Map M) (parts p : Map PartView) → m ≡ marks → p ≡ parts →
    AreMarked test marks parts → AreMarked test m p
same_marks test marks m parts p em ep are q =
    ap (λ n. is_some (table.get n q)) em ∙ (are q ∙ ap (λ n. passes test (table.get n q)) (sym ep))

pub none_marked : (M : Type 0) (test : PartView → Bool) → AreMarked {M = M} test table.empty table.empty
none_marked M test q =
    ap is_some (table.get-empty nat_cmp q) ∙ ap (passes test) (sym (table.get-empty nat_cmp q))

-- part p is p' now
module _ (m : Map PartView) (e : ℕ) (p p' : PartView) (n : Map PartView) (at : Some p ≡ table.get m e) (is : n ≡ table.insert m e p') where
  pub changed : (f : PartView → PartView) → p' ≡ f p → n ≡ changed_at f m e
  changed f same = is ∙ (ap (table.insert m e) same ∙ ap (λ o. set_at m e (option_map f o)) at)

  pub unchanged : p' ≡ p → n ≡ m
  unchanged same = is ∙ (ap (table.insert m e) same ∙ (ap (set_at m e) at ∙ set_at-same m e))

  pub pass_alike : (test : PartView → Bool) → test p' ≡ test p → PassAlike test m n
  pass_alike test same q =
      ap (λ k. passes test (table.get k q)) is ∙ (got_passes test m e q p' ∙ by (eq_by_cmp nat_cmp q e) refl)
    where
      by : (b : Bool) → eq_by_cmp nat_cmp q e ≡ b → cond b (test p') (passes test (table.get m q)) ≡ passes test (table.get m q)
      by true key = same ∙ (ap (passes test) at ∙ ap (λ k. passes test (table.get m k)) (sym (same_key q e key)))
      by false key = refl

  pub marks_put : {M : Type 0} (test : PartView → Bool) (marks after : Map M) (x : M) → AreMarked test marks m →
      after ≡ marked (test p') marks e x → AreMarked test after n
  marks_put test marks after x are eq =
      same_marks test (marked (test p') marks e x) after (table.insert m e p') n eq is (marked_as_put test marks m are e p' x)

-- ---- a part that is not there, or does not change

module _ (m : Map PartView) (e : ℕ) where
  nothing_there : None ≡ table.get m e → table.remove m e ≡ m
  nothing_there at = ap (set_at m e) at ∙ set_at-same m e

  pub changed_none : (f : PartView → PartView) → None ≡ table.get m e → changed_at f m e ≡ m
  changed_none f at = ap (λ o. set_at m e (option_map f o)) (sym at) ∙ nothing_there at

  pub changed_there : (f : PartView → PartView) (p : PartView) → Some p ≡ table.get m e → changed_at f m e ≡ table.insert m e (f p)
  changed_there f p at = ap (λ o. set_at m e (option_map f o)) (sym at)

  pub changed_same : (f : PartView → PartView) (p : PartView) → Some p ≡ table.get m e → f p ≡ p → changed_at f m e ≡ m
  changed_same f p at same =
      changed_there f p at ∙ (ap (table.insert m e) same ∙ (ap (set_at m e) at ∙ set_at-same m e))

-- ---- marks as the standard library keeps them

abbrev mark_of : Bool → Option (Unit {0})
mark_of b = cond b (Some tt) None

got_mark : (q : ℕ) (es : List ℕ) → table.get (marks_of es) q ≡ mark_of (list_any (is_at (nat_cmp q)) es)
got_mark q es = table.get-from_entries nat_cmp_total (bare es) q ∙ found_mark es
  where
    found_mark : (es : List ℕ) → key_find nat_cmp q (bare es) ≡ mark_of (list_any (is_at (nat_cmp q)) es)
    found_mark [] = refl
    found_mark (e ∷ es) = ap (cond (eq_by_cmp nat_cmp q e) (Some tt)) (found_mark es) ∙ by (eq_by_cmp nat_cmp q e)
      where
        by : (b : Bool) → cond b (Some tt) (mark_of (list_any (is_at (nat_cmp q)) es)) ≡ mark_of (b || list_any (is_at (nat_cmp q)) es)
        by true = refl
        by false = refl

turned : (q e : ℕ) → is_eq (nat_cmp e q) ≡ eq_by_cmp nat_cmp q e
turned q e = grind (arith, nat_tests)

-- after an entity was put in, or taken out
pub mark_changed : (old new : List ℕ) (e : ℕ) (b : Bool) →
    ((q : ℕ) → list_any (is_at (nat_cmp q)) new ≡ cond (is_at (nat_cmp e) q) b (list_any (is_at (nat_cmp q)) old)) →
    marks_of new ≡ marked b (marks_of old) e tt
mark_changed old new e b updates =
    table.same_map nat_cmp_total table.nat_cmp-IsAntisymmetric _ _ (λ q.
    got_mark q new
    ∙ (ap mark_of (updates q ∙ ap (λ t. cond t b (list_any (is_at (nat_cmp q)) old)) (turned q e))
    ∙ (apart (eq_by_cmp nat_cmp q e) (list_any (is_at (nat_cmp q)) old)
    ∙ (ap (cond (eq_by_cmp nat_cmp q e) (mark_of b)) (sym (got_mark q old)) ∙ sym (got b q)))))
  where
    apart : (t r : Bool) → mark_of (cond t b r) ≡ cond t (mark_of b) (mark_of r)
    apart true r = refl
    apart false r = refl

    got : (b : Bool) (q : ℕ) → table.get (marked b (marks_of old) e tt) q
        ≡ cond (eq_by_cmp nat_cmp q e) (mark_of b) (table.get (marks_of old) q)
    got true q = table.get-insert nat_cmp_total (marks_of old) e tt q
    got false q = table.get-remove nat_cmp_total (marks_of old) e q

pub marked_there : (m : Map (Unit {0})) (e : ℕ) → table.get (table.insert m e tt) e ≡ Some tt
marked_there m e =
    table.get-insert nat_cmp_total m e tt e ∙ ap (λ o. cond (is_eq o) (Some tt) (table.get m e)) (tied_itself nat_cmp_total e)

-- a mark that is kept, or taken again
pub marked_then : (b : Bool) (m : Map (Unit {0})) (e : ℕ) → marked b (table.insert m e tt) e tt ≡ marked b m e tt
marked_then b m e =
    table.same_map nat_cmp_total table.nat_cmp-IsAntisymmetric _ _ (λ q. by b q)
  where
    twice : {A : Type 0} (t : Bool) (x y r : A) → cond t x (cond t y r) ≡ cond t x r
    twice true x y r = refl
    twice false x y r = refl

    by : (b : Bool) (q : ℕ) → table.get (marked b (table.insert m e tt) e tt) q ≡ table.get (marked b m e tt) q
    by true q =
        table.get-insert nat_cmp_total (table.insert m e tt) e tt q
        ∙ (ap (cond (eq_by_cmp nat_cmp q e) (Some tt)) (table.get-insert nat_cmp_total m e tt q)
        ∙ (twice (eq_by_cmp nat_cmp q e) (Some tt) (Some tt) (table.get m q) ∙ sym (table.get-insert nat_cmp_total m e tt q)))
    by false q =
        table.get-remove nat_cmp_total (table.insert m e tt) e q
        ∙ (ap (cond (eq_by_cmp nat_cmp q e) None) (table.get-insert nat_cmp_total m e tt q)
        ∙ (twice (eq_by_cmp nat_cmp q e) None (Some tt) (table.get m q) ∙ sym (table.get-remove nat_cmp_total m e q)))

pub same_mark : (m : Map (Unit {0})) (e : ℕ) → table.get m e ≡ Some tt → m ≡ table.insert m e tt
same_mark m e there = sym (ap (set_at m e) (sym there) ∙ set_at-same m e)

put_below : (k : ℕ) (es : List ℕ) → AllByRecursion (λ y. nat_cmp k y ≡ Less) es →
    table.put nat_cmp k tt (bare es) ≡ (k, tt) ∷ bare es
put_below k [] h = refl
put_below k (e ∷ es) h = rw h.0 refl

no_length : {A : Type 0} (xs : List A) → length xs ≡ 0 → xs ≡ []
no_length [] e = refl
no_length (x ∷ xs) e = absurd (omega arith)

marks_in_order : (es : List ℕ) → IsStrictlySortedBy nat_cmp es → table.entries (marks_of es) ≡ bare es
marks_in_order [] rises = no_length _ (sym (table.len-entries table.empty) ∙ table.len-empty nat_cmp _)
marks_in_order (e ∷ es) rises =
    table.entries-insert nat_cmp_total (marks_of es) e tt
    ∙ (ap (table.put nat_cmp e tt) (marks_in_order es (sorted_tail nat_cmp e es rises)) ∙ put_below e es (sorted_head nat_cmp e es rises))

-- the first of them is the least
pub first_is_least : (es : List ℕ) → IsStrictlySortedBy nat_cmp es →
    slice_get es 0 ≡ option_map number_of (find any_mark (table.entries (marks_of es)))
first_is_least es rises = by es ∙ sym (ap (λ l. option_map number_of (find any_mark l)) (marks_in_order es rises))
  where
    by : (es : List ℕ) → slice_get es 0 ≡ option_map number_of (find any_mark (bare es))
    by [] = refl
    by (e ∷ es) = refl
