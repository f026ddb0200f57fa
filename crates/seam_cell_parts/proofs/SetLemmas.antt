-- Ordered sets as the standard library keeps them.
use Rattle.std.proofs.Common.{◌≡◌, ℕ, Bool, true, false, ◌||◌, cond, not, eqb, List, [], ◌∷◌, refl, sym, ap, ◌∙◌, subst, arith}
use Rattle.std.proofs.Common.{IfSome, IfNone, Option, None, Some}
use Rattle.std.specs.Ordering.{nat_cmp, is_eq, match_ordering}
use Rattle.std.specs.declared.cmp.Ordering.TheVariants.{Less}
use Rattle.std.specs.List.{AllByRecursion, list_any}
use Rattle.std.specs.List.Sorted.{IsStrictlySortedBy}
use Rattle.std.specs.Set.{remove_key}
use Rattle.std.specs.BTreeSet.{insert_key}
use Rattle.std.specs.BTreeMap.{is_at}
use Rattle.std.proofs.lemmas.Map.Keys.{sorted_head, sorted_tail}
use Rattle.std.proofs.lemmas.Bool.Decides.{nat_tests}
use Rattle.seam_node_steps.specs.Prelude.{with_entity, without, has_any}
use Rattle.seam_cell_parts.specs.Sets.{first_of, members, IsAlone, IsSet}

pub inserted : (e : ℕ) (xs : List ℕ) → insert_key nat_cmp xs e ≡ with_entity e xs
inserted e [] = refl
inserted e (x ∷ xs) = ap (λ l. match_ordering (nat_cmp e x) (e ∷ x ∷ xs) (x ∷ xs) (x ∷ l)) (inserted e xs)

equal_number : (e x : ℕ) → is_eq (nat_cmp e x) ≡ true → x ≡ e
equal_number e x t = grind (arith, nat_tests)

itself : (e : ℕ) → eqb e e ≡ true
itself e = grind (arith, nat_tests)

other_number : (e x : ℕ) → is_eq (nat_cmp e x) ≡ false → eqb x e ≡ false
other_number e x t = grind (arith, nat_tests)

less_other : (e x : ℕ) → nat_cmp e x ≡ Less → eqb x e ≡ false
less_other e x t = grind (arith, nat_tests)

-- nothing goes where all are greater
pub none_goes : (e : ℕ) (xs : List ℕ) → AllByRecursion (λ y. nat_cmp e y ≡ Less) xs → without e xs ≡ xs
none_goes e [] h = refl
none_goes e (x ∷ xs) h =
    ap (λ b. cond (not b) (x ∷ without e xs) (without e xs)) (less_other e x h.0) ∙ ap (λ l. x ∷ l) (none_goes e xs h.1)

-- the first goes, and the others stay
pub first_goes : (e : ℕ) (xs : List ℕ) → AllByRecursion (λ y. nat_cmp e y ≡ Less) xs → without e (e ∷ xs) ≡ xs
first_goes e xs h = ap (λ b. cond (not b) (e ∷ without e xs) (without e xs)) (itself e) ∙ none_goes e xs h

removed_step : (e x : ℕ) (xs : List ℕ) (b : Bool) → is_eq (nat_cmp e x) ≡ b → AllByRecursion (λ y. nat_cmp x y ≡ Less) xs →
    remove_key (is_at (nat_cmp e)) xs ≡ without e xs → cond b xs (x ∷ remove_key (is_at (nat_cmp e)) xs) ≡ without e (x ∷ xs)
removed_step e x xs true t h more =
    let same = equal_number e x t in
    let above = subst (λ y. AllByRecursion (λ z. nat_cmp y z ≡ Less) xs) same h in
    sym (subst (λ y. without e (y ∷ xs) ≡ xs) (sym same) (first_goes e xs above))
removed_step e x xs false t h more =
    ap (λ l. x ∷ l) more ∙ sym (ap (λ b. cond (not b) (x ∷ without e xs) (without e xs)) (other_number e x t))

pub removed : (e : ℕ) (xs : List ℕ) → IsStrictlySortedBy nat_cmp xs → remove_key (is_at (nat_cmp e)) xs ≡ without e xs
removed e [] o = refl
removed e (x ∷ xs) o =
    removed_step e x xs (is_eq (nat_cmp e x)) refl (sorted_head nat_cmp x xs o) (removed e xs (sorted_tail nat_cmp x xs o))

-- nothing goes where the number is missing
pub missing_goes : (e : ℕ) (xs : List ℕ) → list_any (is_at (nat_cmp e)) xs ≡ false → without e xs ≡ xs
missing_goes e [] none = refl
missing_goes e (x ∷ xs) none = by (is_eq (nat_cmp e x)) refl (missing_goes e xs) none
  where
    by : (b : Bool) → is_eq (nat_cmp e x) ≡ b → (list_any (is_at (nat_cmp e)) xs ≡ false → without e xs ≡ xs) →
        (b || list_any (is_at (nat_cmp e)) xs) ≡ false → without e (x ∷ xs) ≡ x ∷ xs
    by true is more h = cc
    by false is more h =
        ap (λ b. cond (not b) (x ∷ without e xs) (without e xs)) (other_number e x is) ∙ ap (λ l. x ∷ l) (more h)

-- the first of a list, taken off it
pub first_taken : (o : Option ℕ) (old new : List ℕ) (e : ℕ) → IfSome o (λ x. old ≡ x ∷ new) → IfNone o (old ≡ []) → Some e ≡ first_of old →
    old ≡ e ∷ new
first_taken None old new e some none first = let wrong : Some e ≡ None = first ∙ ap first_of none in cc
first_taken (Some x) old new e some none first =
    let same : Some e ≡ Some x = first ∙ ap first_of some in
    let number : x ≡ e = cc in
    some ∙ ap (λ k. k ∷ new) number

pub none_first : (xs : List ℕ) → not (has_any xs) ≡ true → None ≡ first_of xs
none_first [] none = refl
none_first (x ∷ xs) none = cc

-- ---- one that is alone

one_rises : (e : ℕ) → IsStrictlySortedBy nat_cmp (e ∷ [])
unfolding IsStrictlySortedBy
one_rises e = (tt, tt)

pub members_rise : (one : Option ℕ) (xs : List ℕ) → IsSet one xs → IsStrictlySortedBy nat_cmp (members one xs)
members_rise None xs s = s.rising
members_rise (Some e) xs s = one_rises e

pub alone_goes : (e : ℕ) (one : Option ℕ) (xs : List ℕ) → one ≡ Some e → IsAlone one xs → xs ≡ without e (members one xs)
alone_goes e None xs is alone = cc
alone_goes e (Some x) xs is alone =
    let same : e ≡ x = cc in
    alone ∙ sym (subst (λ y. without e (y ∷ []) ≡ []) same (first_goes e [] tt))

pub apart : (e x : ℕ) → (x ≡ e → ⊥) → eqb x e ≡ false
apart e x other = grind (arith, nat_tests, other)

pub another_stays : (e x : ℕ) (one : Option ℕ) (xs : List ℕ) → one ≡ Some x → (x ≡ e → ⊥) → members one xs ≡ without e (members one xs)
another_stays e x None xs is other = cc
another_stays e x (Some y) xs is other =
    let same : x ≡ y = cc in
    sym (ap (λ b. cond (not b) (y ∷ []) []) (subst (λ z. eqb z e ≡ false) same (apart e x other)))
