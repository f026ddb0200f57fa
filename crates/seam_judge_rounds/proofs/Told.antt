-- What references point to, and numbers in their order.
use Rattle.std.proofs.Common.{◌≡◌, ◌+◌, ◌-◌, ◌<◌, ◌≤◌, ℕ, zero, suc, Bool, true, false, List, [], ◌∷◌, length, map, get_or, Bor}
use Rattle.std.proofs.Common.{refl, sym, ap, ◌∙◌, subst, arith, ◌↔◌, nat_lt}
use Rattle.std.specs.List.{All, range_with_len}
use Rattle.std.specs.List.Sorted.{IsNonDecreasing}
use Rattle.std.proofs.lemmas.Bool.Decides.{nat_tests}
use Rattle.std.proofs.lemmas.List.{get_or_default}
use Rattle.std.proofs.lemmas.List.FromFn.{get_or-range_with_len}
use Rattle.std.proofs.lemmas.List.Elements.{All-cons, All-nil}

-- ---- what references point to

all_to : {X : Type 0} (P : X → Type 0) (xs : List (Bor X)) → All (λ (x : Bor X). P x.now) xs → All P (map (λ x. x.now) xs)
all_to P [] all = All-nil P
all_to P (x ∷ xs) all =
    All-cons P x.now (map (λ y. y.now) xs) (all 0 x (omega arith)) (all_to P xs (λ k d within. all (suc k) d (omega (arith, within))))

all_from : {X : Type 0} (P : X → Type 0) (xs : List (Bor X)) → All P (map (λ x. x.now) xs) → All (λ (x : Bor X). P x.now) xs
all_from {X} P [] all = All-nil (λ (x : Bor X). P x.now)
all_from {X} P (x ∷ xs) all =
    All-cons (λ (y : Bor X). P y.now) x xs (all 0 x.now (omega arith))
    (all_from P xs (λ k d within. all (suc k) d (omega (arith, within))))

pub all_now : {X : Type 0} (P : X → Type 0) (xs : List (Bor X)) → All (λ (x : Bor X). P x.now) xs ↔ All P (map (λ x. x.now) xs)
all_now P xs = (all_to P xs, all_from P xs)

-- ---- numbers

pub counted_to : (xs : List ℕ) (a : ℕ) → ((k : ℕ) → k < length xs → get_or xs k 0 ≡ a + k) → xs ≡ range_with_len a (length xs)
counted_to [] a each = refl
counted_to (x ∷ xs) a each =
    let first : x ≡ a + 0 = each 0 (omega arith) in
    let same : x ≡ a = omega (arith, first) in
    ap (λ (n : ℕ). n ∷ xs) same
    ∙ ap (λ (ns : List ℕ). a ∷ ns)
    (counted_to xs (a + 1) (λ k within. let next = each (suc k) (omega (arith, within)) in omega (arith, next)))

pub counted_from : (xs : List ℕ) (a : ℕ) → xs ≡ range_with_len a (length xs) → (k : ℕ) → k < length xs → get_or xs k 0 ≡ a + k
counted_from xs a is k within = ap (λ (ns : List ℕ). get_or ns k 0) is ∙ get_or-range_with_len a (length xs) k 0 within

-- ---- rising order

-- each number below a place is at most the next one
abbrev pub RisesBelow : List ℕ → ℕ → Type 0
RisesBelow xs i = (k : ℕ) → suc k < i → get_or xs k 0 ≤ get_or xs (suc k) 0

at_most_later : (xs : List ℕ) → RisesBelow xs (length xs) → (i n : ℕ) → i + n < length xs → get_or xs i 0 ≤ get_or xs (i + n) 0
at_most_later xs step i zero within =
    let same : i + 0 ≡ i = omega arith in
    let first : get_or xs i 0 ≡ get_or xs (i + 0) 0 = ap (λ m. get_or xs m 0) (sym same) in
    omega (arith, first)
at_most_later xs step i (suc n) within =
    let next : suc (i + n) ≡ i + suc n = omega arith in
    let up = at_most_later xs step i n (omega (arith, within)) in
    let more = step (i + n) (omega (arith, within)) in
    let last : get_or xs (suc (i + n)) 0 ≡ get_or xs (i + suc n) 0 = ap (λ m. get_or xs m 0) next in
    omega (arith, up, more, last)

sum_of : (i j : ℕ) → i ≤ j → (n : ℕ) × (i + n ≡ j)
sum_of i j le = (j - i, omega (arith, le))

pub rises : (xs : List ℕ) → RisesBelow xs (length xs) → IsNonDecreasing xs
rises xs step i j d le within =
    let sum = sum_of i j le in
    let long : i + sum.0 < length xs = subst (λ (m : ℕ). m < length xs) (sym sum.1) within in
    let up : get_or xs i 0 ≤ get_or xs j 0 =
    subst (λ (m : ℕ). get_or xs i 0 ≤ get_or xs m 0) sum.1 (at_most_later xs step i sum.0 long) in
    let first : get_or xs i d ≡ get_or xs i 0 = get_or_default xs i d 0 (omega (arith, le, within)) in
    let last : get_or xs j d ≡ get_or xs j 0 = get_or_default xs j d 0 within in
    omega (arith, up, first, last)

-- one step more
pub rises_more : (xs : List ℕ) (i : ℕ) → 1 ≤ i → ¬ (get_or xs i 0 < get_or xs (i - 1) 0) → RisesBelow xs i → RisesBelow xs (i + 1)
rises_more xs i some not below k within = by (nat_lt (suc k) i) refl
  where
    by : (b : Bool) → nat_lt (suc k) i ≡ b → get_or xs k 0 ≤ get_or xs (suc k) 0
    by true is = below k (grind (arith, nat_tests, is))
    by false is =
        let last : suc k ≡ i = grind (arith, nat_tests, is, within) in
        let former : i - 1 ≡ k = omega (arith, last) in
        let here : ¬ (get_or xs (suc k) 0 < get_or xs k 0) =
        subst (λ (m : ℕ). ¬ (get_or xs m 0 < get_or xs k 0)) (sym last) (subst (λ (m : ℕ). ¬ (get_or xs i 0 < get_or xs m 0)) former not) in
        omega (arith, here)
