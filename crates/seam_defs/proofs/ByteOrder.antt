-- The byte order of two texts, one byte after another.
use Rattle.std.proofs.Common.{◌≡◌, ◌≢◌, ◌∙◌, ℕ, zero, suc, ◌<◌, List, [], ◌∷◌, length, get_or, inl, inr, refl, sym, ap, arith}
use Rattle.std.specs.Cmp.{nat_cmp_is}
use Rattle.std.specs.Cmp.Lexicographic.{slice_cmp}
use Rattle.std.specs.Ordering.{nat_cmp, ordering_then}
use Rattle.std.specs.declared.cmp.Ordering.{Ordering}
use Rattle.std.specs.declared.cmp.Ordering.TheVariants.{Less, Equal, Greater}
use Rattle.std.proofs.lemmas.Bool.{cases_order}

-- two bytes that are the same leave the order to those after them
same_first : (x y : ℕ) (o : Ordering) → x ≡ y → ordering_then (nat_cmp x y) o ≡ o
same_first x y o e = ap (λ (r : Ordering). ordering_then r o) (sym (nat_cmp_is x y Equal e))

-- and two others decide it
other_first : (x y : ℕ) (o : Ordering) → x ≢ y → ordering_then (nat_cmp x y) o ≡ nat_cmp x y
other_first x y o ne =
    elim (cases_order x y) [
      | inl same ↦ absurd (ne same)
      | inr apart ↦ elim apart [
        | inl below ↦ let less = nat_cmp_is x y Less below in ap (λ (r : Ordering). ordering_then r o) (sym less) ∙ less
        | inr above ↦ let greater = nat_cmp_is x y Greater above in ap (λ (r : Ordering). ordering_then r o) (sym greater) ∙ greater
      ]
    ]

pub decided_at : (xs ys : List ℕ) (i : ℕ) → i < length xs → i < length ys →
    ((k : ℕ) → k < i → get_or xs k 0 ≡ get_or ys k 0) → get_or xs i 0 ≢ get_or ys i 0 →
    slice_cmp nat_cmp xs ys ≡ nat_cmp (get_or xs i 0) (get_or ys i 0)
decided_at [] ys i in_x in_y same ne = absurd (omega arith)
decided_at (x ∷ xs) [] i in_x in_y same ne = absurd (omega arith)
decided_at (x ∷ xs) (y ∷ ys) zero in_x in_y same ne = other_first x y (slice_cmp nat_cmp xs ys) ne
decided_at (x ∷ xs) (y ∷ ys) (suc i) in_x in_y same ne =
    same_first x y (slice_cmp nat_cmp xs ys) (same 0 (omega arith))
    ∙ decided_at xs ys i (omega arith) (omega arith) (λ k below. same (suc k) (omega arith)) ne

longer : (m n : ℕ) → nat_cmp m n ≡ nat_cmp (suc m) (suc n)
longer m n =
    elim (cases_order m n) [
      | inl same ↦ sym (nat_cmp_is m n Equal same) ∙ nat_cmp_is (suc m) (suc n) Equal (omega arith)
      | inr apart ↦ elim apart [
        | inl below ↦ sym (nat_cmp_is m n Less below) ∙ nat_cmp_is (suc m) (suc n) Less (omega arith)
        | inr above ↦ sym (nat_cmp_is m n Greater above) ∙ nat_cmp_is (suc m) (suc n) Greater (omega arith)
      ]
    ]

-- where no byte decides, the lengths do
pub decided_by_length : (xs ys : List ℕ) → ((k : ℕ) → k < length xs → k < length ys → get_or xs k 0 ≡ get_or ys k 0) →
    slice_cmp nat_cmp xs ys ≡ nat_cmp (length xs) (length ys)
decided_by_length [] [] same = nat_cmp_is 0 0 Equal refl
decided_by_length [] (y ∷ ys) same = nat_cmp_is 0 (length (y ∷ ys)) Less (omega arith)
decided_by_length (x ∷ xs) [] same = nat_cmp_is (length (x ∷ xs)) 0 Greater (omega arith)
decided_by_length (x ∷ xs) (y ∷ ys) same =
    same_first x y (slice_cmp nat_cmp xs ys) (same 0 (omega arith) (omega arith))
    ∙ decided_by_length xs ys (λ k in_x in_y. same (suc k) (omega arith) (omega arith)) ∙ longer (length xs) (length ys)
