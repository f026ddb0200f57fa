-- What a look tells of others may be shown, and is true.
use Rattle.seam_law_clients.proofs.Prelude.{◌≡◌, ℕ, ◌+◌, ◌<◌, ◌≤◌, Bool, true, false, not, eqb, leb, ltb, ◌&&◌, T, List, [], ◌∷◌, ◌++◌, map}
use Rattle.seam_law_clients.proofs.Prelude.{Option, None, Some, refl, sym, ap, ◌∙◌, subst, arith, unwrap_or, option_map, AllByRecursion}
use Rattle.seam_law_clients.proofs.Prelude.{IsDistinct, filter_map, cons_option, list_any, nat_cmp, keys_of, is_sorted, below_all}
use Rattle.seam_law_clients.proofs.Prelude.{nat_tests, IsDistinct-head, IsDistinct-tail, Pos, distance, State, GhostCopy, Shown, Enter, Set}
use Rattle.seam_law_clients.proofs.Prelude.{Leave, Known, seen_as, shown_for, all_append, Seen, Look, Replica, IsView, seen_of, entity_of}
use Rattle.seam_law_clients.proofs.Prelude.{is_far, leaves, has_changed, in_view, not_older, enters, leaving, changed, entering}
use Rattle.seam_law_clients.proofs.Prelude.{ClientReplica, IsNear, MayShow, MayShowAll, Truth, ShowsTruth, each_found}
use Rattle.std.specs.Ordering.{is_lt}
use Rattle.std.specs.FinMap as table
use Rattle.seam_view.specs.declared.Look.TheVariants as look
use Rattle.seam_view.specs.ViewLooks.{one_look}
use Rattle.seam_law_clients.proofs.Near.{as_seen, seen_found, known_found}
use Rattle.seam_law_clients.proofs.Apart.{MayLook, AreApart, AreApartBy, may_show_looks, all_turn, picked_all, picked_apart, apart_append}
use Rattle.seam_law_calls.proofs.Holds.{or_right, not_true}

first_of : (a b : Bool) → (a && b) ≡ true → a ≡ true
first_of true b h = refl
first_of false b h = cc

second_of : (a b : Bool) → (a && b) ≡ true → b ≡ true
second_of true b h = h
second_of false b h = cc

same_yes : (a : ℕ) → eqb a a ≡ true
same_yes a = grind (arith, nat_tests)

within : (a b : ℕ) → leb a b ≡ true → a ≤ b
within a b t = grind (arith, nat_tests)

below : (a b : ℕ) → ltb a b ≡ true → a < b
below a b t = grind (arith, nat_tests)

at_most : (reach d : ℕ) → ltb reach d ≡ false → d ≤ reach
at_most reach d t = grind (arith, nat_tests)

some_same : (a b : ℕ) → Some a ≡ Some b → a ≡ b
some_same a b e = ap (λ o. unwrap_or o a) e

not_below : (o : Option ℕ) (v n : ℕ) → o ≡ Some v → not_older o n ≡ true → v ≤ n
not_below None v n is t = cc
not_below (Some m) v n is t = let le = within m n t in let same = some_same m v is in omega (arith, le, same)

-- each in view is
viewed_more : (q : ℕ × ℕ) (es xs : List (ℕ × ℕ)) → AllByRecursion (λ x. list_any (λ p. eqb x.0 p.0) es ≡ true) xs →
    AllByRecursion (λ x. list_any (λ p. eqb x.0 p.0) (q ∷ es) ≡ true) xs
viewed_more q es [] h = tt
viewed_more q es (x ∷ xs) h = (or_right (eqb x.0 q.0) (list_any (λ p. eqb x.0 p.0) es) h.0, viewed_more q es xs h.1)

all_viewed : (es : List (ℕ × ℕ)) → AllByRecursion (λ x. list_any (λ p. eqb x.0 p.0) es ≡ true) es
all_viewed [] = tt
all_viewed (x ∷ es) = (rw (same_yes x.0) refl, viewed_more x es es (all_viewed es))

both : {X : Type 0} (P Q : X → Type 0) (xs : List X) → AllByRecursion P xs → AllByRecursion Q xs → AllByRecursion (λ x. P x × Q x) xs
both P Q [] a b = tt
both P Q (x ∷ xs) a b = ((a.0, b.0), both P Q xs a.1 b.1)

all_keys : (e : ℕ) (es : List (ℕ × ℕ)) → AllByRecursion (λ y. eqb e y ≡ false) (keys_of es) → AllByRecursion (λ p. eqb e p.0 ≡ false) es
all_keys e [] h = tt
all_keys e (p ∷ es) h = (h.0, all_keys e es h.1)

abbrev Pairs : List (ℕ × ℕ) → Type 0
Pairs [] = Unit {0}
Pairs (p ∷ es) = AllByRecursion (λ q. eqb p.0 q.0 ≡ false) es × Pairs es

pairs : (es : List (ℕ × ℕ)) → IsDistinct eqb (keys_of es) → Pairs es
pairs [] h = tt
pairs (p ∷ es) h =
    (all_keys p.0 es (IsDistinct-head eqb p.0 (keys_of es) h), pairs es (IsDistinct-tail eqb p.0 (keys_of es) h))

leaves_apart : (test : ℕ × ℕ → Bool) (es : List (ℕ × ℕ)) → Pairs es → AreApartBy (λ p. look.Leave p.0) test es
leaves_apart test [] h = tt
leaves_apart test (p ∷ es) h = (h.0, leaves_apart test es h.1)

sets_apart : (test : ℕ × ℕ → Bool) (es : List (ℕ × ℕ)) → Pairs es → AreApartBy (λ p. look.Set p.0) test es
sets_apart test [] h = tt
sets_apart test (p ∷ es) h = (h.0, sets_apart test es h.1)

-- ---- what is known

first : (a b : Bool) → T (a && b) → T a
first true b p = tt
first false b p = p

second : (a b : Bool) → T (a && b) → T b
second true b p = p
second false b p = absurd p

less_apart : (a b : ℕ) → T (is_lt (nat_cmp a b)) → eqb a b ≡ false
less_apart a b t = grind (arith, nat_tests)

rest_apart : (k : ℕ) (es : List Known) → T (below_all nat_cmp k es) → AllByRecursion (λ s. eqb k s.entity ≡ false) (map seen_as es)
rest_apart k [] h = tt
rest_apart k (x ∷ es) h = (less_apart k x.0 (first _ _ h), rest_apart k es (second _ _ h))

enters_apart : (test : Seen → Bool) (es : List Known) → T (is_sorted nat_cmp es) →
    AreApartBy (λ s. look.Enter s.entity) test (map seen_as es)
enters_apart test [] h = tt
enters_apart test (x ∷ es) h = (rest_apart x.0 es (first _ _ h), enters_apart test es (second _ _ h))

-- ---- a look

module _ (t : Truth) (me n : ℕ) (stands : State) (known : List Known) (rises : T (is_sorted nat_cmp known))
    (others : (x : ℕ) (d : GhostCopy) → table.find nat_cmp x known ≡ Some d → (x ≡ me → ⊥) × t.other x d)
    (c : ClientReplica) (r : Replica) (same : c.others ≡ r) (view : IsView r) (own : c.own ≡ Some (n, stands)) where
  abbrev seen : List Seen
  seen = map seen_as known

  abbrev p : Pos
  p = stands.pos

  abbrev found : ℕ → Option GhostCopy
  found x = table.find nat_cmp x known

  -- what it tells of an entity may be shown, and is true
  abbrev IsFine : Look → Type 0
  IsFine l = MayLook me known c l × ((x : Shown) → shown_for known l ≡ Some x → ShowsTruth t x)

  viewed_is : (x : ℕ) (b : Bool) → in_view r x ≡ b → in_view c.others x ≡ b
  viewed_is x b h = ap (λ y. in_view y x) same ∙ h

  near_is : (reach : ℕ) (q : Pos) → distance p q ≤ reach → IsNear c.own reach q
  near_is reach q le = subst (λ o. IsNear o reach q) (sym own) le

  shown_is : (x v : ℕ) → table.get r.shown x ≡ Some v → table.get c.others.shown x ≡ Some v
  shown_is x v h = ap (λ y. table.get y.shown x) same ∙ h

  -- whether an entity is known and far, or not known
  abbrev gone : Option Seen → Bool
  gone None = true
  gone (Some s) = is_far r p s.pos

  abbrev gone_at : ℕ → Bool
  gone_at x = gone (seen_of x seen)

  abbrev InView : ℕ × ℕ → Type 0
  InView q = (in_view r q.0 ≡ true) × (table.get r.shown q.0 ≡ Some q.1)

  -- ---- that leave

  gone_of : (v : ℕ) (o : Option Seen) → leaves r p v o ≡ true → gone o ≡ true
  gone_of v None h = refl
  gone_of v (Some s) h = first_of (is_far r p s.pos) _ h

  leave_fine : (q : ℕ × ℕ) → InView q → IsFine (look.Leave q.0)
  leave_fine q h = (
    (λ x is. let one : Leave q.0 ≡ x = cc in subst (MayShow me c) one (viewed_is q.0 true h.0)),
    (λ x is. let one : Leave q.0 ≡ x = cc in subst (ShowsTruth t) one tt),
  )

  -- ---- that are set

  stays_of : (v : ℕ) (o : Option Seen) → has_changed r p v o ≡ true → gone o ≡ false
  stays_of v None h = cc
  stays_of v (Some s) h = not_true (is_far r p s.pos) (first_of (not (is_far r p s.pos)) _ h)

  set_line : (q : ℕ × ℕ) (d : GhostCopy) → InView q → has_changed r p q.1 (Some (as_seen q.0 d)) ≡ true → MayShow me c (Set q.0 d)
  set_line q d h changed_ =
      let far = not_true (is_far r p d.state.pos) (first_of (not (is_far r p d.state.pos)) (ltb q.1 d.version) changed_) in
      let more = below q.1 d.version (second_of (not (is_far r p d.state.pos)) (ltb q.1 d.version) changed_) in
      record {
        in_view_ = viewed_is q.0 true h.0;
        newer = (q.1, shown_is q.0 q.1 h.1, more);
        near =
            near_is (c.others.radius + c.others.hysteresis) d.state.pos
            (subst (λ y. distance p d.state.pos ≤ y.radius + y.hysteresis) (sym same)
            (at_most (r.radius + r.hysteresis) (distance p d.state.pos) far));
      }

  set_by : (q : ℕ × ℕ) (o : Option GhostCopy) → found q.0 ≡ o → InView q → has_changed r p q.1 (option_map (as_seen q.0) o) ≡ true →
      (x : Shown) → option_map (Set q.0) o ≡ Some x → MayShow me c x × ShowsTruth t x
  set_by q None is h changed_ x told = absurd (let z = told in cc)
  set_by q (Some d) is h changed_ x told =
      let one : Set q.0 d ≡ x = cc in
      (subst (MayShow me c) one (set_line q d h changed_), subst (ShowsTruth t) one (others q.0 d is).1)

  set_all : (q : ℕ × ℕ) → InView q → has_changed r p q.1 (seen_of q.0 seen) ≡ true → (x : Shown) → shown_for known (look.Set q.0) ≡ Some x →
      MayShow me c x × ShowsTruth t x
  set_all q h changed_ x told =
      set_by q (found q.0) refl h (ap (has_changed r p q.1) (sym (seen_found q.0 known)) ∙ changed_) x
      (ap (option_map (Set q.0)) (sym (known_found q.0 known)) ∙ told)

  set_fine : (q : ℕ × ℕ) → InView q → has_changed r p q.1 (seen_of q.0 seen) ≡ true → IsFine (look.Set q.0)
  set_fine q h changed_ = ((λ x told. (set_all q h changed_ x told).0), (λ x told. (set_all q h changed_ x told).1))

  -- ---- that enter

  abbrev IsFound : Seen → Type 0
  IsFound s = (d : GhostCopy) × (found s.entity ≡ Some d) × (as_seen s.entity d ≡ s)

  enter_line : (s : Seen) (d : GhostCopy) → found s.entity ≡ Some d → as_seen s.entity d ≡ s → enters r p s ≡ true →
      MayShow me c (Enter s.entity d)
  enter_line s d is as_ enters_ =
      let a = first_of (not (in_view r s.entity) && leb (distance p s.pos) r.radius) (not_older (table.get r.shown s.entity) s.version)
      enters_ in
      let old = second_of (not (in_view r s.entity) && leb (distance p s.pos) r.radius) (not_older (table.get r.shown s.entity) s.version)
      enters_ in
      let out = not_true (in_view r s.entity) (first_of (not (in_view r s.entity)) (leb (distance p s.pos) r.radius) a) in
      let close = within (distance p s.pos) r.radius (second_of (not (in_view r s.entity)) (leb (distance p s.pos) r.radius) a) in
      record {
        another = (others s.entity d is).0;
        away = viewed_is s.entity false out;
        not_older = λ v has.
            let le = not_below (table.get r.shown s.entity) v s.version (ap (λ y. table.get y.shown s.entity) (sym same) ∙ has) old in
            let version = ap (λ y. y.version) as_ in
            omega (arith, le, version);
        near =
            near_is c.others.radius d.state.pos
            (subst (λ y. distance p d.state.pos ≤ y.radius) (sym same) (subst (λ y. distance p y.pos ≤ r.radius) (sym as_) close));
      }

  enter_all : (s : Seen) (d : GhostCopy) → found s.entity ≡ Some d → as_seen s.entity d ≡ s → enters r p s ≡ true → (x : Shown) →
      shown_for known (look.Enter s.entity) ≡ Some x → MayShow me c x × ShowsTruth t x
  enter_all s d is as_ enters_ x told =
      let z : Some (Enter s.entity d) ≡ Some x = sym (ap (option_map (Enter s.entity)) (known_found s.entity known ∙ is)) ∙ told in
      let one : Enter s.entity d ≡ x = cc in
      (subst (MayShow me c) one (enter_line s d is as_ enters_), subst (ShowsTruth t) one (others s.entity d is).1)

  enter_fine : (s : Seen) → IsFound s → enters r p s ≡ true → IsFine (look.Enter s.entity)
  enter_fine s h enters_ =
      ((λ x told. (enter_all s h.0 h.1 h.2 enters_ x told).0), (λ x told. (enter_all s h.0 h.1 h.2 enters_ x told).1))

  -- ---- all of them

  in_entries : AllByRecursion InView r.entries
  in_entries =
      both (λ q. in_view r q.0 ≡ true) (λ q. table.get r.shown q.0 ≡ Some q.1) r.entries (all_viewed r.entries) view.shown

  all_found : (es : List Known) → AllByRecursion (λ y. found y.0 ≡ Some y.1) es → AllByRecursion IsFound (map seen_as es)
  all_found [] h = tt
  all_found (y ∷ es) h = ((y.1, h.0, refl), all_found es h.1)

  in_known : AllByRecursion IsFound seen
  in_known = all_found known (each_found known rises)

  abbrev left : List Look
  left = leaving r p seen r.entries

  abbrev set : List Look
  set = changed r p seen r.entries

  abbrev entered : List Look
  entered = entering r p seen

  abbrev IsLeft : Look → Type 0
  IsLeft l = IsFine l × (in_view r (entity_of l) ≡ true) × (gone_at (entity_of l) ≡ true)

  abbrev IsSet : Look → Type 0
  IsSet l = IsFine l × (in_view r (entity_of l) ≡ true) × (gone_at (entity_of l) ≡ false)

  abbrev IsNew : Look → Type 0
  IsNew l = IsFine l × (in_view r (entity_of l) ≡ false)

  all_left : AllByRecursion IsLeft left
  all_left =
      picked_all (λ q. look.Leave q.0) (λ q. leaves r p q.1 (seen_of q.0 seen)) IsLeft InView
      (λ q h is. (leave_fine q h, h.0, gone_of q.1 (seen_of q.0 seen) is)) r.entries in_entries

  all_set : AllByRecursion IsSet set
  all_set =
      picked_all (λ q. look.Set q.0) (λ q. has_changed r p q.1 (seen_of q.0 seen)) IsSet InView
      (λ q h is. (set_fine q h is, h.0, stays_of q.1 (seen_of q.0 seen) is)) r.entries in_entries

  new_away : (s : Seen) → enters r p s ≡ true → in_view r s.entity ≡ false
  new_away s is =
      not_true (in_view r s.entity)
      (first_of (not (in_view r s.entity)) (leb (distance p s.pos) r.radius)
      (first_of (not (in_view r s.entity) && leb (distance p s.pos) r.radius) (not_older (table.get r.shown s.entity) s.version) is))

  all_new : AllByRecursion IsNew entered
  all_new =
      picked_all (λ s. look.Enter s.entity) (enters r p) IsNew IsFound (λ s h is. (enter_fine s h is, new_away s is)) seen in_known

  abbrev Viewed : Look → Type 0
  Viewed l = in_view r (entity_of l) ≡ true

  apart_first : AreApart (left ++ set)
  apart_first =
      let es = pairs r.entries view.once in
      apart_append gone_at left set (all_turn IsLeft (λ l. gone_at (entity_of l) ≡ true) (λ l h. h.2) left all_left)
      (all_turn IsSet (λ l. gone_at (entity_of l) ≡ false) (λ l h. h.2) set all_set)
      (picked_apart (λ q. look.Leave q.0) (λ q. leaves r p q.1 (seen_of q.0 seen)) r.entries
      (leaves_apart (λ q. leaves r p q.1 (seen_of q.0 seen)) r.entries es))
      (picked_apart (λ q. look.Set q.0) (λ q. has_changed r p q.1 (seen_of q.0 seen)) r.entries
      (sets_apart (λ q. has_changed r p q.1 (seen_of q.0 seen)) r.entries es))

  apart : AreApart (one_look r p seen)
  apart =
      apart_append (in_view r) (left ++ set) entered
      (all_append Viewed left set (all_turn IsLeft Viewed (λ l h. h.1) left all_left) (all_turn IsSet Viewed (λ l h. h.1) set all_set))
      (all_turn IsNew (λ l. in_view r (entity_of l) ≡ false) (λ l h. h.1) entered all_new) apart_first
      (picked_apart (λ s. look.Enter s.entity) (enters r p) seen (enters_apart (enters r p) known rises))

  fine : AllByRecursion IsFine (one_look r p seen)
  fine =
      all_append IsFine (left ++ set) entered
      (all_append IsFine left set (all_turn IsLeft IsFine (λ l h. h.0) left all_left) (all_turn IsSet IsFine (λ l h. h.0) set all_set))
      (all_turn IsNew IsFine (λ l h. h.0) entered all_new)

  pub looks_may_be_shown : MayShowAll me c (filter_map (shown_for known) (one_look r p seen))
  looks_may_be_shown =
      may_show_looks me known c (one_look r p seen) apart (all_turn IsFine (MayLook me known c) (λ l h. h.0) (one_look r p seen) fine)

  true_by : (o : Option Shown) (xs : List Shown) → ((x : Shown) → o ≡ Some x → ShowsTruth t x) → AllByRecursion (ShowsTruth t) xs →
      AllByRecursion (ShowsTruth t) (cons_option o xs)
  true_by None xs h rest = rest
  true_by (Some x) xs h rest = (h x refl, rest)

  true_all : (ls : List Look) → AllByRecursion IsFine ls → AllByRecursion (ShowsTruth t) (filter_map (shown_for known) ls)
  true_all [] h = tt
  true_all (l ∷ ls) h = true_by (shown_for known l) (filter_map (shown_for known) ls) h.0.1 (true_all ls h.1)

  pub looks_are_true : AllByRecursion (ShowsTruth t) (filter_map (shown_for known) (one_look r p seen))
  looks_are_true = true_all (one_look r p seen) fine
