-- How many numbers of a list lie below one.
use Rattle.std.proofs.Common.{◌≡◌, ℕ, zero, suc, ◌+◌, ◌-◌, ◌<◌, ◌≤◌, Bool, true, false, cond, List, [], ◌∷◌, length, get_or, count_by}
use Rattle.std.proofs.Common.{nat_lt, nat_le, ap, ◌∙◌, arith, inl, inr, IsPermutation}
use Rattle.std.specs.List.{AllWithin}
use Rattle.std.specs.List.Sorted.{IsNonDecreasing}
use Rattle.std.specs.Int.{abs_diff}
use Rattle.std.proofs.lemmas.List.{get_or_default}
use Rattle.std.proofs.lemmas.Bool.{cases_lt, cond_both, lt-ltb, le-ltb}
use Rattle.std.proofs.lemmas.Bool.Decides.{nat_tests}
use Rattle.std.proofs.lemmas.List.Sums.{sum_by-cons}
use Rattle.std.proofs.lemmas.List.Sorted.{sum_by-IsPermutation}
use Rattle.seam_geo.specs.Pos.{gap}
use Rattle.seam_balance.specs.Balance.{difference}

-- how many numbers lie below one
abbrev pub count_below : List ℕ → ℕ → ℕ
count_below places at = count_by (λ place. nat_lt place at) places

-- where a test holds of the first elements, it counts those at least
pub count_by_least : (p : ℕ → Bool) (xs : List ℕ) (i : ℕ) → i ≤ length xs → AllWithin (λ y. p y ≡ true) xs 0 i → i ≤ count_by p xs
count_by_least p [] i within hits = omega arith
count_by_least p (x ∷ xs) zero within hits = omega arith
count_by_least p (x ∷ xs) (suc i) within hits =
    let here : p x ≡ true = hits 0 x (omega arith) (omega arith) in
    let rest : i ≤ count_by p xs = count_by_least p xs i (omega arith) (λ k d from to. hits (suc k) d (omega arith) (omega arith)) in
    let count : count_by p (x ∷ xs) ≡ 1 + count_by p xs =
    sum_by-cons (λ y. cond (p y) 1 0) x xs ∙ ap (λ (b : Bool). cond b 1 0 + count_by p xs) here in
    omega (arith, rest, count)

-- and where it holds of none after them, those at most
pub count_by_most : (p : ℕ → Bool) (xs : List ℕ) (i : ℕ) → AllWithin (λ y. p y ≡ false) xs i (length xs) → count_by p xs ≤ i
count_by_most p [] i misses = omega arith
count_by_most p (x ∷ xs) zero misses =
    let here : p x ≡ false = misses 0 x (omega arith) (omega arith) in
    let rest : count_by p xs ≤ 0 = count_by_most p xs zero (λ k d from to. misses (suc k) d (omega arith) (omega arith)) in
    let count : count_by p (x ∷ xs) ≡ count_by p xs =
    sum_by-cons (λ y. cond (p y) 1 0) x xs ∙ ap (λ (b : Bool). cond b 1 0 + count_by p xs) here ∙ omega arith in
    omega (arith, rest, count)
count_by_most p (x ∷ xs) (suc i) misses =
    let rest : count_by p xs ≤ i = count_by_most p xs i (λ k d from to. misses (suc k) d (omega arith) (omega arith)) in
    let one : cond (p x) 1 0 ≤ 1 = cond_both (p x) 1 0 (λ n. n ≤ 1) (λ e. omega arith) (λ e. omega arith) in
    omega (arith, rest, one, sum_by-cons (λ y. cond (p y) 1 0) x xs)

-- so at the point between them it counts those before
pub count_by_point : (p : ℕ → Bool) (xs : List ℕ) (i : ℕ) → i ≤ length xs → AllWithin (λ y. p y ≡ true) xs 0 i →
    AllWithin (λ y. p y ≡ false) xs i (length xs) → count_by p xs ≡ i
count_by_point p xs i within hits misses = omega (arith, count_by_least p xs i within hits, count_by_most p xs i misses)

-- in a rising list the first numbers, up to one that is below, are below
pub count_below_past : (xs : List ℕ) (i at : ℕ) → IsNonDecreasing xs → i < length xs → get_or xs i 0 < at → i < count_below xs at
count_below_past xs i at rising within past =
    count_by_least (λ y. nat_lt y at) xs (suc i) (omega arith)
    (λ k d from to. lt-ltb _ at (omega (arith, rising k i d (omega arith) within, get_or_default xs i d 0 within)))

-- and no number is from one on that is not
pub count_below_before : (xs : List ℕ) (i at : ℕ) → IsNonDecreasing xs → at ≤ get_or xs i 0 → count_below xs at ≤ i
count_below_before xs i at rising before =
    count_by_most (λ y. nat_lt y at) xs i
    (λ k d from to. le-ltb _ at (omega (arith, before, rising i k d from to, get_or_default xs i d 0 (omega arith))))

-- it never falls as the place rises
pub count_below_rises : (xs : List ℕ) (at to : ℕ) → at ≤ to → count_below xs at ≤ count_below xs to
count_below_rises [] at to le = omega arith
count_below_rises (x ∷ xs) at to le =
    let here : cond (nat_lt x at) 1 0 ≤ cond (nat_lt x to) 1 0 = grind (arith, nat_tests) in
    omega (
      arith,
      here,
      count_below_rises xs at to le,
      sum_by-cons (λ y. cond (nat_lt y at) 1 0) x xs,
      sum_by-cons (λ y. cond (nat_lt y to) 1 0) x xs,
    )

abbrev is_below : ℕ → ℕ → Bool
is_below at place = nat_lt place at

abbrev is_from : ℕ → ℕ → Bool
is_from at place = nat_le at place

one_side : (at x : ℕ) → cond (is_below at x) 1 0 + cond (is_from at x) 1 0 ≡ 1
one_side at x = elim (cases_lt x at) [ inl l ↦ grind (arith, nat_tests) | inr g ↦ grind (arith, nat_tests) ]

-- each number is below it or not
pub count_by_sides : (at : ℕ) (xs : List ℕ) → count_by (λ place. nat_lt place at) xs + count_by (λ place. nat_le at place) xs ≡ length xs
count_by_sides at [] = omega arith
count_by_sides at (x ∷ xs) =
    let below : count_by (λ place. nat_lt place at) (x ∷ xs) ≡ cond (is_below at x) 1 0 + count_by (λ place. nat_lt place at) xs =
    sum_by-cons (λ y. cond (is_below at y) 1 0) x xs in
    let from : count_by (λ place. nat_le at place) (x ∷ xs) ≡ cond (is_from at x) 1 0 + count_by (λ place. nat_le at place) xs =
    sum_by-cons (λ y. cond (is_from at y) 1 0) x xs in
    omega (arith, below, from, one_side at x, count_by_sides at xs)

pub abs_diff_gap : (a b : ℕ) → abs_diff a b ≡ gap a b
abs_diff_gap a b = elim (cases_lt a b) [ inl l ↦ grind (arith, nat_tests) | inr g ↦ grind (arith, nat_tests) ]

pub abs_diff_difference : (places : List ℕ) (at below rest : ℕ) → below ≡ count_by (λ place. nat_lt place at) places →
    rest ≡ length places - below → abs_diff below rest ≡ difference places at
abs_diff_difference places at below rest is others =
    let sides : count_by (λ place. nat_lt place at) places + count_by (λ place. nat_le at place) places ≡ length places =
    count_by_sides at places in
    let upper : rest ≡ count_by (λ place. nat_le at place) places = omega arith in
    abs_diff_gap below rest ∙ (λ i. gap (is i) (upper i))

-- the order of the places makes no difference
pub difference_permutation : (places sorted : List ℕ) (at : ℕ) → IsPermutation places sorted → difference sorted at ≡ difference places at
difference_permutation places sorted at same =
    λ i. gap (sum_by-IsPermutation (λ place. cond (nat_lt place at) 1 0) places sorted same i)
    (sum_by-IsPermutation (λ place. cond (nat_le at place) 1 0) places sorted same i)
