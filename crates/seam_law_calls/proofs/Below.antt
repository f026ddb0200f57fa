-- Lists of entities with numbers below a bound: how long they are, and what a look makes of a view of such.
use Rattle.seam_law_calls.proofs.Prelude.{◌≡◌, ℕ, ◌+◌, ◌*◌, ◌<◌, ◌≤◌, Bool, true, false, not, cond, eqb, nat_lt, nat_eq, ◌&&◌, ◌||◌}
use Rattle.seam_law_calls.proofs.Prelude.{is_some, T, List, [], ◌∷◌, ◌++◌, map, filter, filter_map, find, length, Option, None, Some, refl}
use Rattle.seam_law_calls.proofs.Prelude.{sym, ap, ◌∙◌, arith, AllByRecursion, list_any, nat_cmp, is_lt, eq_by_cmp, nat_cmp_total}
use Rattle.seam_law_calls.proofs.Prelude.{is_sorted, below_all, nat_tests, length-map, length-append, found, Pos, Ghost, copy_in, with_copy}
use Rattle.seam_law_calls.proofs.Prelude.{copied, GhostCopy, RealView, Map, Known, seen_as, CellView, known_real, known_copy, known_in}
use Rattle.seam_law_calls.proofs.Prelude.{is_of_another, known_to, most_entities, IsFewView, all_append}
use Rattle.std.specs.Map.{keys_of}
use Rattle.std.specs.FinMap as table
use Rattle.std.proofs.lemmas.Map.Steps.{length-le_from_distinct_below}
use Rattle.seam_view.specs.declared.Seen.{Seen}
use Rattle.seam_view.specs.declared.Look.{Look}
use Rattle.seam_view.specs.declared.Look.TheVariants as look
use Rattle.seam_view.specs.ViewLooks.{leaving, changed, entering, leaves, has_changed, enters, one_look}
use Rattle.seam_view.specs.Replica.{Replica, seen_of, placed, without, after_showing, after_look, after_looks}
use Rattle.seam_view.proofs.Kept.{view_after_looks}

-- ---- lengths

pub filter_few : {A : Type 0} (t : A → Bool) (xs : List A) → length (filter t xs) ≤ length xs
filter_few t [] = omega arith
filter_few t (x ∷ xs) = by (t x) (filter_few t xs)
  where
    by : (b : Bool) → length (filter t xs) ≤ length xs → length (cond b (x ∷ filter t xs) (filter t xs)) ≤ length (x ∷ xs)
    by true h = omega (arith, h)
    by false h = omega (arith, h)

all_filtered : {A : Type 0} (P : A → Type 0) (t : A → Bool) (xs : List A) → AllByRecursion P xs → AllByRecursion P (filter t xs)
all_filtered P t [] h = tt
all_filtered P t (x ∷ xs) h = by (t x) (all_filtered P t xs h.1)
  where
    by : (b : Bool) → AllByRecursion P (filter t xs) → AllByRecursion P (cond b (x ∷ filter t xs) (filter t xs))
    by true more = (h.0, more)
    by false more = more

-- ---- numbers below a bound

abbrev pub AllBelow : {X : Type 0} → List (ℕ × X) → Type 0
AllBelow ps = AllByRecursion (λ p. p.0 < most_entities) ps

-- sorted keys from a number on, below the bound
both : (a b : Bool) → T (a && b) → T a × T b
both true b h = (tt, h)
both false b h = absurd h

lies_below : (x y : ℕ) → T (is_lt (nat_cmp x y)) → x < y
lies_below x y h = grind (arith, nat_tests, h)

not_past : (n : ℕ) → n < most_entities → not (nat_lt n most_entities) ≡ false
not_past n lt = grind (arith, nat_tests, lt)

below_of : (n : ℕ) → not (nat_lt n most_entities) ≡ false → n < most_entities
below_of n h = grind (arith, nat_tests, h)

module _ {X : Type 0} where
  all_above : (n : ℕ) (ps : List (ℕ × X)) → T (below_all nat_cmp n ps) → AllByRecursion (λ p. n + 1 ≤ p.0) ps
  all_above n [] h = tt
  all_above n (p ∷ ps) h =
      let two = both (is_lt (nat_cmp n p.0)) (below_all nat_cmp n ps) h in
      let lt = lies_below n p.0 two.0 in
      (omega (arith, lt), all_above n ps two.1)

  sorted_few : (n : ℕ) (ps : List (ℕ × X)) → n ≤ most_entities → AllByRecursion (λ p. n ≤ p.0) ps → AllBelow ps →
      T (is_sorted nat_cmp ps) → length ps + n ≤ most_entities
  sorted_few n [] le low high h = omega (arith, le)
  sorted_few n (p ∷ ps) le low high h =
      let two = both (below_all nat_cmp p.0 ps) (is_sorted nat_cmp ps) h in
      let first = low.0 in
      let last = high.0 in
      let more = sorted_few (p.0 + 1) ps (omega (arith, last)) (all_above p.0 ps two.0) high.1 two.1 in
      omega (arith, more, first)

  all_from : (ps : List (ℕ × X)) → AllByRecursion (λ p. 0 ≤ p.0) ps
  all_from [] = tt
  all_from (p ∷ ps) = (omega arith, all_from ps)

  pub entries_few : (m : Map X) → AllBelow (table.entries m) → length (table.entries m) ≤ most_entities
  entries_few m below =
      let few = sorted_few 0 (table.entries m) (omega arith) (all_from (table.entries m)) below (table.entries_sorted m) in
      omega (arith, few)

  -- what no entry of a map is, none in the list of its entries is
  none_passes : (t : ℕ × X → Bool) (ps : List (ℕ × X)) → find t ps ≡ None → AllByRecursion (λ p. t p ≡ false) ps
  none_passes t [] h = tt
  none_passes t (p ∷ ps) h = by (t p) refl h (none_passes t ps)
    where
      by : (b : Bool) → t p ≡ b → cond b (Some p) (find t ps) ≡ None → (find t ps ≡ None → AllByRecursion (λ q. t q ≡ false) ps) →
          AllByRecursion (λ q. t q ≡ false) (p ∷ ps)
      by true is h more = cc
      by false is h more = (is, more h)

  each_entry : (t : ℕ × X → Bool) (m : Map X) → ((e : ℕ) (x : X) → table.get m e ≡ Some x → t (e, x) ≡ false) →
      AllByRecursion (λ p. t p ≡ false) (table.entries m)
  each_entry t m none = none_passes t (table.entries m) (by (find t (table.entries m)) refl)
    where
      by : (o : Option (ℕ × X)) → find t (table.entries m) ≡ o → o ≡ None
      by None at = refl
      by (Some p) at =
          let two = found t m p at in
          absurd (let z = sym two.1 ∙ none p.0 p.1 two.0 in cc)

  abbrev is_past : ℕ × X → Bool
  is_past p = not (nat_lt p.0 most_entities)

  all_below : (ps : List (ℕ × X)) → AllByRecursion (λ p. is_past p ≡ false) ps → AllBelow ps
  all_below [] h = tt
  all_below (p ∷ ps) h = (below_of p.0 h.0, all_below ps h.1)

  pub entries_below : (m : Map X) → ((e : ℕ) (x : X) → table.get m e ≡ Some x → e < most_entities) → AllBelow (table.entries m)
  entries_below m each =
      all_below (table.entries m) (each_entry is_past m (λ e x at. not_past e (each e x at)))

  -- a key of a list of such is one
  key_below : (q : ℕ) (x : X) (ps : List (ℕ × X)) → AllBelow ps → table.find nat_cmp q ps ≡ Some x → q < most_entities
  key_below q x [] h at = cc
  key_below q x (p ∷ ps) h at = by (eq_by_cmp nat_cmp q p.0) refl at (key_below q x ps h.1)
    where
      by : (b : Bool) → eq_by_cmp nat_cmp q p.0 ≡ b → cond b (Some p.1) (table.find nat_cmp q ps) ≡ Some x →
          (table.find nat_cmp q ps ≡ Some x → q < most_entities) → q < most_entities
      by true is at more = let same : q ≡ p.0 = grind (arith, nat_tests, is) in let lt = h.0 in omega (arith, same, lt)
      by false is at more = more at

  pub made_below : (ps : List (ℕ × X)) → AllBelow ps → AllBelow (table.entries (table.from_entries {R = nat_cmp} ps))
  made_below ps h =
      entries_below (table.from_entries {R = nat_cmp} ps)
      (λ e x at. key_below e x ps h (sym (table.get-from_entries nat_cmp_total ps e) ∙ at))

-- ---- what a cell knows

module _ (c : CellView) (reals : (e : ℕ) (r : RealView) → table.get c.reals e ≡ Some r → e < most_entities)
    (copies : (e : ℕ) (k : GhostCopy) → copy_in (table.get c.ghosts e) ≡ Some k → e < most_entities) where
  reals_below : (ps : List (ℕ × RealView)) → AllBelow ps → AllBelow (map (known_real c.here) ps)
  reals_below [] h = tt
  reals_below (p ∷ ps) h = (h.0, reals_below ps h.1)

  copies_below : (ps : List (ℕ × GhostCopy)) → AllBelow ps → AllBelow (map (known_copy c.here) ps)
  copies_below [] h = tt
  copies_below (p ∷ ps) h = (h.0, copies_below ps h.1)

  -- an entity past the bound has no copy
  abbrev has_past : ℕ × Ghost GhostCopy → Bool
  has_past p = is_some p.1.copy && not (nat_lt p.0 most_entities)

  no_past : (e : ℕ) (g : Ghost GhostCopy) → table.get c.ghosts e ≡ Some g → has_past (e, g) ≡ false
  no_past e g at = by g.copy refl
    where
      by : (o : Option GhostCopy) → g.copy ≡ o → (is_some o && not (nat_lt e most_entities)) ≡ false
      by None is = refl
      by (Some k) is = not_past e (copies e k (ap copy_in at ∙ is))

  copied_below : (ps : List (ℕ × Ghost GhostCopy)) → AllByRecursion (λ p. has_past p ≡ false) ps → AllBelow (copied ps)
  copied_below [] h = tt
  copied_below (p ∷ ps) h = by p.1.copy h.0 (copied_below ps h.1)
    where
      by : (o : Option GhostCopy) → (is_some o && not (nat_lt p.0 most_entities)) ≡ false → AllBelow (copied ps) →
          AllBelow (with_copy p.0 o (copied ps))
      by None is more = more
      by (Some k) is more = (below_of p.0 is, more)

  pub known_below : AllBelow (known_in c)
  known_below =
      all_append (λ p. p.0 < most_entities) (map (known_real c.here) (table.entries c.reals))
      (map (known_copy c.here) (copied (table.entries c.ghosts)))
      (reals_below (table.entries c.reals) (entries_below c.reals reals))
      (copies_below (copied (table.entries c.ghosts))
      (copied_below (table.entries c.ghosts) (each_entry has_past c.ghosts no_past)))

  pub known_to_below : (e : ℕ) → AllBelow (known_to c e)
  known_to_below e =
      all_filtered (λ p. p.0 < most_entities) (is_of_another e) (table.entries (table.from_entries {R = nat_cmp} (known_in c)))
      (made_below (known_in c) known_below)

  pub known_to_few : (e : ℕ) → length (known_to c e) ≤ most_entities
  known_to_few e =
      let all = entries_few (table.from_entries {R = nat_cmp} (known_in c)) (made_below (known_in c) known_below) in
      let some = filter_few (is_of_another e) (table.entries (table.from_entries {R = nat_cmp} (known_in c))) in
      omega (arith, all, some)

-- ---- a view

member_below : (ps : List (ℕ × ℕ)) → AllBelow ps → (q : ℕ) → list_any (eqb q) (keys_of ps) ≡ true → q < most_entities
member_below [] h q is = cc
member_below (p ∷ ps) h q is = by (eqb q p.0) refl is (member_below ps h.1 q)
  where
    by : (b : Bool) → eqb q p.0 ≡ b → (b || list_any (eqb q) (keys_of ps)) ≡ true →
        (list_any (eqb q) (keys_of ps) ≡ true → q < most_entities) → q < most_entities
    by true at is more = let same : q ≡ p.0 = grind (arith, nat_tests, at) in let lt = h.0 in omega (arith, same, lt)
    by false at is more = more is

-- a view has at most so many entities
pub view_few : (r : Replica) → IsFewView r → length r.entries ≤ most_entities
view_few r h =
    let few = length-le_from_distinct_below (keys_of r.entries) most_entities h.view.once (member_below r.entries h.below) in
    let same = length-map r.entries (λ p. p.0) in
    omega (arith, few, same)

abbrev SeenBelow : List Seen → Type 0
SeenBelow known = AllByRecursion (λ s. s.entity < most_entities) known

seen_below : (e : ℕ) (known : List Seen) (s : Seen) → SeenBelow known → seen_of e known ≡ Some s → e < most_entities
seen_below e [] s h at = cc
seen_below e (x ∷ xs) s h at = by (nat_eq x.entity e) refl at (seen_below e xs s h.1)
  where
    by : (b : Bool) → nat_eq x.entity e ≡ b → cond b (Some x) (seen_of e xs) ≡ Some s → (seen_of e xs ≡ Some s → e < most_entities) →
        e < most_entities
    by true is at more = let same : x.entity ≡ e = grind (arith, nat_tests, is) in let lt = h.0 in omega (arith, same, lt)
    by false is at more = more at

placed_below : (e v : ℕ) (ps : List (ℕ × ℕ)) → e < most_entities → AllBelow ps → AllBelow (placed e v ps)
placed_below e v [] lt h = (lt, tt)
placed_below e v (p ∷ ps) lt h = by (nat_eq e p.0) (placed_below e v ps lt h.1)
  where
    by : (b : Bool) → AllBelow (placed e v ps) → AllBelow (cond b ((p.0, v) ∷ ps) (p ∷ placed e v ps))
    by true more = (h.0, h.1)
    by false more = (h.0, more)

without_below : (e : ℕ) (ps : List (ℕ × ℕ)) → AllBelow ps → AllBelow (without e ps)
without_below e [] h = tt
without_below e (p ∷ ps) h = by (nat_eq e p.0) (without_below e ps h.1)
  where
    by : (b : Bool) → AllBelow (without e ps) → AllBelow (cond b ps (p ∷ without e ps))
    by true more = h.1
    by false more = (h.0, more)

showing_below : (r : Replica) (e : ℕ) (known : List Seen) (o : Option Seen) → seen_of e known ≡ o → SeenBelow known →
    AllBelow r.entries → AllBelow (after_showing r e o).entries
showing_below r e known None at all h = h
showing_below r e known (Some s) at all h = placed_below e s.version r.entries (seen_below e known s all at) h

look_below : (known : List Seen) (r : Replica) (l : Look) → SeenBelow known → AllBelow r.entries → AllBelow (after_look known r l).entries
look_below known r (look.Leave e) all h = without_below e r.entries h
look_below known r (look.Set e) all h = showing_below r e known (seen_of e known) refl all h
look_below known r (look.Enter e) all h = showing_below r e known (seen_of e known) refl all h

looks_below : (known : List Seen) (r : Replica) (ls : List Look) → SeenBelow known → AllBelow r.entries →
    AllBelow (after_looks known r ls).entries
looks_below known r [] all h = h
looks_below known r (l ∷ ls) all h = looks_below known (after_look known r l) ls all (look_below known r l all h)

seen_all : (known : List Known) → AllBelow known → SeenBelow (map seen_as known)
seen_all [] h = tt
seen_all (k ∷ ks) h = (h.0, seen_all ks h.1)

-- looks at such entities leave a view of such
pub few_after_looks : (known : List Known) (r : Replica) (ls : List Look) → AllBelow known → IsFewView r →
    IsFewView (after_looks (map seen_as known) r ls)
few_after_looks known r ls all h = record {
  view = view_after_looks (map seen_as known) r ls h.view;
  below = looks_below (map seen_as known) r ls (seen_all known all) h.below;
}

-- and are few
pub looks_few : (r : Replica) (own : Pos) (known : List Seen) → length (one_look r own known) ≤ 2 * length r.entries + length known
looks_few r own known =
    let es = r.entries in
    let gone = filter (λ p. leaves r own p.1 (seen_of p.0 known)) es in
    let new = filter (λ p. has_changed r own p.1 (seen_of p.0 known)) es in
    let come = filter (enters r own) known in
    let a : length (leaving r own known es) ≡ length gone = length-map gone (λ p. look.Leave p.0) in
    let b : length (changed r own known es) ≡ length new = length-map new (λ p. look.Set p.0) in
    let c : length (entering r own known) ≡ length come = length-map come (λ s. look.Enter s.entity) in
    let few_gone = filter_few (λ p. leaves r own p.1 (seen_of p.0 known)) es in
    let few_new = filter_few (λ p. has_changed r own p.1 (seen_of p.0 known)) es in
    let few_come = filter_few (enters r own) known in
    let one : length (one_look r own known) ≡ length (leaving r own known es ++ changed r own known es) + length (entering r own known) =
    length-append (leaving r own known es ++ changed r own known es) (entering r own known) in
    let two = length-append (leaving r own known es) (changed r own known es) in
    omega (arith, a, b, c, few_gone, few_new, few_come, one, two)

pub mapped_few : {A B : Type 0} (g : A → Option B) (xs : List A) → length (filter_map g xs) ≤ length xs
mapped_few g [] = omega arith
mapped_few {A} {B} g (x ∷ xs) = by (g x) refl (mapped_few g xs)
  where
    by : (o : Option B) → g x ≡ o → length (filter_map g xs) ≤ length xs → length (filter_map g (x ∷ xs)) ≤ length (x ∷ xs)
    by None is more = rw is (omega (arith, more))
    by (Some y) is more = rw is (omega (arith, more))
