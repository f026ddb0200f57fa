-- Lists of entities in rising number.
use Rattle.std.proofs.Common.{◌≡◌, ◌⊎◌, ℕ, Bool, true, false, List, [], ◌∷◌, map, refl, sym, ◌∙◌, ap}
use Rattle.std.proofs.Common.{Result, Ok, Err, subst, arith, inl, inr, Option, Some, None}
use Rattle.std.specs.Prelude.{IfOk, OnOk, filter, find, ◌==◌, Contains, is_some, cond, All, not}
use Rattle.std.specs.List.{cons_option}
use Rattle.std.specs.Ordering.{nat_cmp}
use Rattle.std.specs.List.Sorted.{IsStrictlyIncreasing, IsPermutation, IsSorted}
use Rattle.std.specs.List.Retain.{IsFiltered, DiffersFromLast}
use Rattle.std.proofs.lemmas.List.Elements.{All-cons, All-nil}
use Rattle.std.proofs.lemmas.List.Kept.{IsStrictlyIncreasing-filter, Contains-dedup_nat}
use Rattle.std.proofs.lemmas.List.Filters.{dedup_is}
use Rattle.std.proofs.lemmas.List.Sorted.{Contains-permutation}
use Rattle.std.proofs.lemmas.Map.Keys.{IsStrictlyIncreasing-dedup}
use Rattle.seam_rule_rounds.specs.Prelude.{Create, Lists}
use Rattle.seam_rule_lines.proofs.Lists.{contains_first, contains_later, contains_cases}
use Rattle.seam_rule_lines.proofs.InOrderLemmas.{found_entity}
use Rattle.seam_judge_expected.specs.Entities.{among_numbers}

-- what holds of the value of a success, by something else that does
pub if_ok : {A E : Type 0} {P Q : A → Type 0} → (r : Result A E) → ((x : A) → P x → Q x) → IfOk r P → IfOk r Q
if_ok (Ok x) f h = f x h
if_ok (Err e) f h = h

-- what holds after a success, by something else that does
pub on_ok : {A E P Q : Type 0} → (r : Result A E) → (P → Q) → OnOk r P → OnOk r Q
on_ok (Ok x) f h = f h
on_ok (Err e) f h = h

-- numbers that were sorted, of which each was kept once
pub numbers_rise : (all numbers sorted kept : List ℕ) → numbers ≡ all → IsPermutation numbers sorted → IsSorted nat_cmp sorted →
    IsFiltered (DiffersFromLast (λ (a b : ℕ). a == b)) [] sorted kept
    → IsStrictlyIncreasing kept × ((e : ℕ) → Contains all e → Contains kept e)
numbers_rise all numbers sorted kept is permutation in_order filtered =
    let kept_is = dedup_is (λ (a b : ℕ). a == b) sorted kept filtered in (
      subst IsStrictlyIncreasing (sym kept_is) (IsStrictlyIncreasing-dedup sorted in_order),
      (λ e has. subst (λ (xs : List ℕ). Contains xs e) (sym kept_is)
          (Contains-dedup_nat sorted e (Contains-permutation numbers sorted e permutation
          (subst (λ (xs : List ℕ). Contains xs e) (sym is) has)))),
    )

contains_after_option : {X : Type 0} (o : Option X) (x : X) (xs : List X) → Contains xs x → Contains (cons_option o xs) x
contains_after_option None x xs has = has
contains_after_option (Some y) x xs has = contains_later y x xs has

-- what made an entity is among what was created
found_among : (creates : List Create) (e : ℕ) (c : Create) → find (λ d. d.entity == e) creates ≡ Some c →
    Contains (map (λ d. d.entity) creates) e
found_among [] e c is = cc
found_among (x ∷ xs) e c is = cases (x.entity == e) refl (found_among xs e c) is
  where
    cases : (b : Bool) → (x.entity == e) ≡ b → (find (λ d. d.entity == e) xs ≡ Some c → Contains (map (λ d. d.entity) xs) e) →
        cond b (Some x) (find (λ d. d.entity == e) xs) ≡ Some c → Contains (x.entity ∷ map (λ d. d.entity) xs) e
    cases true same again h =
        let here : x.entity ≡ e = grind (arith, same) in
        subst (λ (k : ℕ). Contains (x.entity ∷ map (λ d. d.entity) xs) k) here (contains_first x.entity (map (λ d. d.entity) xs))
    cases false other again h = contains_later x.entity e (map (λ d. d.entity) xs) (again h)

-- each live entity was created
live_made : (creates : List Create) (numbers : List ℕ) →
    All (λ (c : Create). find (λ d. d.entity == c.entity) creates ≡ Some c) (among_numbers creates numbers)
live_made creates [] = All-nil (λ (c : Create). find (λ d. d.entity == c.entity) creates ≡ Some c)
live_made creates (e ∷ es) = cases (find (λ d. d.entity == e) creates) refl (live_made creates es)
  where
    cases : (o : Option Create) → find (λ d. d.entity == e) creates ≡ o →
        All (λ (c : Create). find (λ d. d.entity == c.entity) creates ≡ Some c) (among_numbers creates es) →
        All (λ (c : Create). find (λ d. d.entity == c.entity) creates ≡ Some c) (cons_option o (among_numbers creates es))
    cases None is again = again
    cases (Some c) is again =
        All-cons (λ (c : Create). find (λ d. d.entity == c.entity) creates ≡ Some c) c (among_numbers creates es)
        (subst (λ (k : ℕ). find (λ d. d.entity == k) creates ≡ Some c) (sym (found_entity creates e c is)) is) again

live_has : (creates : List Create) (numbers : List ℕ) (e : ℕ) (c : Create) → Contains numbers e →
    find (λ d. d.entity == e) creates ≡ Some c → Contains (among_numbers creates numbers) c
live_has creates [] e c (k, within, same) is = absurd (omega arith)
live_has creates (x ∷ xs) e c has is = elim (contains_cases x e xs has) [
  | inl same ↦ subst (λ (o : Option Create). Contains (cons_option o (among_numbers creates xs)) c)
      (sym (ap (λ (k : ℕ). find (λ d. d.entity == k) creates) same ∙ is)) (contains_first c (among_numbers creates xs))
  | inr there ↦ contains_after_option (find (λ d. d.entity == x) creates) c (among_numbers creates xs) (live_has creates xs e c there is)
]

live_numbers : (creates : List Create) (numbers : List ℕ) →
    map (λ c. c.entity) (among_numbers creates numbers) ≡ filter (λ e. is_some (find (λ d. d.entity == e) creates)) numbers
live_numbers creates [] = refl
live_numbers creates (e ∷ es) = cases (find (λ d. d.entity == e) creates) refl (live_numbers creates es)
  where
    rest : List ℕ
    rest = filter (λ k. is_some (find (λ d. d.entity == k) creates)) es

    cases : (o : Option Create) → find (λ d. d.entity == e) creates ≡ o → map (λ c. c.entity) (among_numbers creates es) ≡ rest →
        map (λ c. c.entity) (cons_option o (among_numbers creates es)) ≡ cond (is_some o) (e ∷ rest) rest
    cases None is again = again
    cases (Some c) is again =
        ap (λ (k : ℕ). k ∷ map (λ c. c.entity) (among_numbers creates es)) (found_entity creates e c is)
        ∙ ap (λ (ks : List ℕ). e ∷ ks) again

-- the live entities of numbers that rise, among which are those of all that were created
pub lists_live : (creates : List Create) (numbers : List ℕ) →
    IsStrictlyIncreasing numbers × ((e : ℕ) → Contains (map (λ c. c.entity) creates) e → Contains numbers e)
    → Lists (λ e. find (λ c. c.entity == e) creates) (among_numbers creates numbers)
lists_live creates numbers rise = record {
  rising =
      subst IsStrictlyIncreasing (sym (live_numbers creates numbers))
      (IsStrictlyIncreasing-filter (λ e. is_some (find (λ d. d.entity == e) creates)) numbers rise.0);
  exact = λ c. (
    (λ (k, within, is). subst (λ (x : Create). find (λ d. d.entity == x.entity) creates ≡ Some x) is
        (live_made creates numbers k c within)),
    (λ is. live_has creates numbers c.entity c (rise.1 c.entity (found_among creates c.entity c is)) is),
  );
}

-- ---- those that live

numbers_kept : (dead : ℕ → Bool) (made : List Create) →
    map (λ c. c.entity) (filter (λ c. not (dead c.entity)) made) ≡ filter (λ e. not (dead e)) (map (λ c. c.entity) made)
numbers_kept dead [] = refl
numbers_kept dead (x ∷ xs) = by (not (dead x.entity)) (numbers_kept dead xs)
  where
    by : (b : Bool) → map (λ c. c.entity) (filter (λ c. not (dead c.entity)) xs) ≡ filter (λ e. not (dead e)) (map (λ c. c.entity) xs) →
        map (λ c. c.entity) (cond b (x ∷ filter (λ c. not (dead c.entity)) xs) (filter (λ c. not (dead c.entity)) xs))
        ≡ cond b (x.entity ∷ filter (λ e. not (dead e)) (map (λ c. c.entity) xs)) (filter (λ e. not (dead e)) (map (λ c. c.entity) xs))
    by true again = ap (λ (es : List ℕ). x.entity ∷ es) again
    by false again = again

-- what is among those that pass a test
pub in_filter : {X : Type 0} (q : X → Bool) (xs : List X) (x : X) → Contains (filter q xs) x → Contains xs x × (q x ≡ true)
in_filter q [] x (k, within, is) = absurd (omega arith)
in_filter {X} q (y ∷ ys) x has = by (q y) refl (in_filter q ys x) has
  where
    by : (b : Bool) → q y ≡ b → (Contains (filter q ys) x → Contains ys x × (q x ≡ true)) →
        Contains (cond b (y ∷ filter q ys) (filter q ys)) x → Contains (y ∷ ys) x × (q x ≡ true)
    by true at again h = elim (contains_cases y x (filter q ys) h) [
      | inl same ↦ (subst (λ (z : X). Contains (y ∷ ys) z) same (contains_first y ys), ap q (sym same) ∙ at)
      | inr there ↦ (contains_later y x ys (again there).0, (again there).1)
    ]
    by false at again h = (contains_later y x ys (again h).0, (again h).1)

pub filter_has : {X : Type 0} (q : X → Bool) (xs : List X) (x : X) → q x ≡ true → Contains xs x → Contains (filter q xs) x
filter_has q [] x passes (k, within, is) = absurd (omega arith)
filter_has {X} q (y ∷ ys) x passes has = by (q y) refl (filter_has q ys x passes) (contains_cases y x ys has)
  where
    by : (b : Bool) → q y ≡ b → (Contains ys x → Contains (filter q ys) x) → (y ≡ x) ⊎ Contains ys x →
        Contains (cond b (y ∷ filter q ys) (filter q ys)) x
    by true at again (inl same) = subst (λ (z : X). Contains (y ∷ filter q ys) z) same (contains_first y (filter q ys))
    by true at again (inr there) = contains_later y x (filter q ys) (again there)
    by false at again (inl same) = let no : true ≡ false = sym passes ∙ ap q (sym same) ∙ at in absurd (cc)
    by false at again (inr there) = again there

unless : (b : Bool) (o : Option Create) (c : Create) → not b ≡ true → o ≡ Some c → cond b None o ≡ Some c
unless true o c lives is = absurd (cc)
unless false o c lives is = is

lives_and_is : (b : Bool) (o : Option Create) (c : Create) → cond b None o ≡ Some c → (not b ≡ true) × (o ≡ Some c)
lives_and_is true o c is = absurd (cc)
lives_and_is false o c is = (refl, is)

-- those of listed entities that are not dead
pub lists_living : (entities : ℕ → Option Create) (dead : ℕ → Bool) (made : List Create) → Lists entities made →
    Lists (λ e. cond (dead e) None (entities e)) (filter (λ c. not (dead c.entity)) made)
lists_living entities dead made listed = record {
  rising =
      subst IsStrictlyIncreasing (sym (numbers_kept dead made))
      (IsStrictlyIncreasing-filter (λ e. not (dead e)) (map (λ c. c.entity) made) listed.rising);
  exact = λ c. (
    (λ has.
        let found = in_filter (λ (x : Create). not (dead x.entity)) made c has in
        unless (dead c.entity) (entities c.entity) c found.1 ((listed.exact c).0 found.0)),
    (λ is.
        let both = lives_and_is (dead c.entity) (entities c.entity) c is in
        filter_has (λ (x : Create). not (dead x.entity)) made c both.0 ((listed.exact c).1 both.1)),
  );
}
