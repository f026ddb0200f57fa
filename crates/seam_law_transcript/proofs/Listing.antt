-- The entities of a book can be listed in rising number.
use Rattle.seam_law_transcript.proofs.Prelude.{◌≡◌, ◌≤◌, ◌<◌, ℕ, zero, suc, ◌+◌, List, [], ◌∷◌, map, subst, arith, inl, inr, Contains}
use Rattle.seam_law_transcript.proofs.Prelude.{AllByRecursion, list_any, range_with_len, nat_cmp, Less, cases_eq, nat_tests}
use Rattle.seam_law_transcript.proofs.Prelude.{IsStrictlyIncreasing-from_sorted, Create, Book, entries, creates_of, created_as, live_as}
use Rattle.seam_law_transcript.proofs.Prelude.{destroys, Lists, contains_first, contains_later, contains_cases, lists_live, lists_living}
use Rattle.std.specs.List.Sorted.{IsStrictlySortedBy}

-- ---- a range of numbers rises, and has each of them

is_less : (a b : ℕ) → a < b → nat_cmp a b ≡ Less
is_less a b lt = grind (arith, nat_tests, lt)

above_all : (x a n : ℕ) → x < a → AllByRecursion (λ y. nat_cmp x y ≡ Less) (range_with_len a n)
above_all x a zero lt = tt
above_all x a (suc n) lt = (is_less x a lt, above_all x (a + 1) n (omega (arith, lt)))

sorted : (a n : ℕ) → IsStrictlySortedBy nat_cmp (range_with_len a n)
unfolding IsStrictlySortedBy
sorted a zero = tt
sorted a (suc n) = (above_all a (a + 1) n (omega arith), sorted (a + 1) n)

has : (a n e : ℕ) → a ≤ e → e < a + n → Contains (range_with_len a n) e
has a zero e from to = absurd (omega (arith, from, to))
has a (suc n) e from to = elim (cases_eq a e) [
  | inl same ↦ subst (λ x. Contains (range_with_len a (suc n)) x) same (contains_first a (range_with_len (a + 1) n))
  | inr other ↦ contains_later a e (range_with_len (a + 1) n) (has (a + 1) n e (omega (arith, from, other)) (omega (arith, to)))
]

-- ---- a number above those of all entities

abbrev above : List Create → ℕ
above [] = 0
above (c ∷ cs) = suc (c.entity + above cs)

is_above : (cs : List Create) (e : ℕ) → Contains (map (λ c. c.entity) cs) e → e < above cs
is_above [] e (k, within, is) = absurd (omega arith)
is_above (c ∷ cs) e there = elim (contains_cases c.entity e (map (λ d. d.entity) cs) there) [
  | inl same ↦ omega (arith, same)
  | inr later ↦ (let less = is_above cs e later in omega (arith, less))
]

-- ---- the lists

pub made_listed : (b : Book) → (made : List Create) × Lists (created_as b) made
made_listed b =
    let cs = creates_of (entries b) in (
      _,
      lists_live cs (range_with_len 0 (above cs)) (
        IsStrictlyIncreasing-from_sorted (range_with_len 0 (above cs)) (sorted 0 (above cs)),
        λ e there. (let less = is_above cs e there in has 0 (above cs) e (omega arith) (omega (arith, less))),
      ),
    )

pub live_listed : (b : Book) → (live : List Create) × Lists (live_as b) live
live_listed b =
    let m = made_listed b in (_, lists_living (created_as b) (λ e. list_any (destroys e) (entries b)) m.0 m.1)
