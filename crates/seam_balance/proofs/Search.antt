-- The search for the farthest allowed place, by steps on the way to another place.
use Rattle.std.proofs.Common.{◌≡◌, ◌⊎◌, ℕ, ◌+◌, ◌-◌, ◌<◌, ◌≤◌, min, max, sym, subst, ◌∙◌, arith, inl, inr}
use Rattle.std.specs.Int.{abs_diff}
use Rattle.std.proofs.lemmas.Bool.{cases_lt}
use Rattle.std.proofs.lemmas.Bool.Decides.{nat_tests}
use Rattle.seam_geo.specs.Pos.{gap}
use Rattle.seam_tree.specs.Division.{Division, NoneEmpty, SomeEmpty, HasBoundary, IsTree}
use Rattle.seam_tree.specs.Change.{with_place}
use Rattle.seam_balance.specs.Balance.{stepped}
use Rattle.seam_balance.proofs.Convex.{none_empty_between, some_not_none}
use Rattle.seam_balance.proofs.Counts.{abs_diff_gap}

-- steps go down to a lesser place, and up to another
pub stepped_is : (from end n : ℕ) → ((end < from) × (stepped from end n ≡ from - n)) ⊎ ((from ≤ end) × (stepped from end n ≡ from + n))
stepped_is from end n =
    elim (cases_lt end from) [
      | inl l ↦ inl (l, grind (arith, nat_tests))
      | inr g ↦ inr (g, grind (arith, nat_tests))
    ]

abbrev AllowedAt : Division → ℕ → ℕ → Type 0
AllowedAt t b at = NoneEmpty (with_place t b at)

-- what is between two allowed numbers of steps is allowed
stepped_between : (t : Division) (b from end low middle n : ℕ) → IsTree t → HasBoundary t b → low ≤ middle → middle ≤ n
    → AllowedAt t b (stepped from end low) → AllowedAt t b (stepped from end n) → AllowedAt t b (stepped from end middle)
stepped_between t b from end low middle n tree there le_low le_high at_low at_high =
    elim (stepped_is from end low) [
      | inl (l, low_is) ↦ elim (stepped_is from end middle) [
        | inl (_, middle_is) ↦ elim (stepped_is from end n) [
          | inl (_, n_is) ↦
              none_empty_between t b (stepped from end n) (stepped from end middle) (stepped from end low) tree there
              (omega (arith, n_is, middle_is)) (omega (arith, low_is, middle_is)) at_high at_low
          | inr (g, _) ↦ absurd (omega (arith, l, g))
        ]
        | inr (g, _) ↦ absurd (omega (arith, l, g))
      ]
      | inr (g, low_is) ↦ elim (stepped_is from end middle) [
        | inr (_, middle_is) ↦ elim (stepped_is from end n) [
          | inr (_, n_is) ↦
              none_empty_between t b (stepped from end low) (stepped from end middle) (stepped from end n) tree there
              (omega (arith, low_is, middle_is)) (omega (arith, n_is, middle_is)) at_low at_high
          | inl (l, _) ↦ absurd (omega (arith, l, g))
        ]
        | inl (l, _) ↦ absurd (omega (arith, l, g))
      ]
    ]

-- so many steps are allowed, and no more than `most` are
pub record IsSearched (t : Division) (b from end farthest most : ℕ) : Type 0 where
  pub range : farthest ≤ most
  pub within : most ≤ gap from end
  pub allowed : NoneEmpty (with_place t b (stepped from end farthest))
  pub refused : (n : ℕ) → most < n → n ≤ gap from end → ¬ NoneEmpty (with_place t b (stepped from end n))

pub search_begins : (t : Division) (b from end most : ℕ) → NoneEmpty (with_place t b from) → most ≡ abs_diff from end →
    IsSearched t b from end 0 most
search_begins t b from end most allowed is =
    let all : most ≡ gap from end = is ∙ abs_diff_gap from end in
    let none : stepped from end 0 ≡ from =
    elim (stepped_is from end 0) [ inl (_, e) ↦ omega (arith, e) | inr (_, e) ↦ omega (arith, e) ] in
    record {
      range = omega arith;
      within = omega arith;
      allowed = subst (AllowedAt t b) (sym none) allowed;
      refused = λ n more within. absurd (omega arith);
    }

pub search_refuses : (t : Division) (b from end farthest most middle : ℕ) → IsTree t → HasBoundary t b →
    IsSearched t b from end farthest most
    → farthest < middle → middle ≤ most → SomeEmpty (with_place t b (stepped from end middle)) →
    IsSearched t b from end farthest (middle - 1)
search_refuses t b from end farthest most middle tree there s past within empty = record {
  range = omega arith;
  within = omega (arith, s.within);
  allowed = s.allowed;
  refused = λ n more to none.
      some_not_none (with_place t b (stepped from end middle)) empty
      (stepped_between t b from end farthest middle n tree there (omega arith) (omega arith) s.allowed none);
}

pub least_stepped : (from end n : ℕ) → n ≤ gap from end → min from end ≤ stepped from end n
least_stepped from end n within =
    elim (stepped_is from end n) [ inl (l, e) ↦ omega (arith, l, e) | inr (g, e) ↦ omega (arith, g, e) ]

pub most_stepped : (from end n : ℕ) → n ≤ gap from end → stepped from end n ≤ max from end
most_stepped from end n within =
    elim (stepped_is from end n) [ inl (l, e) ↦ omega (arith, l, e) | inr (g, e) ↦ omega (arith, g, e) ]

-- no place farther on the way is allowed
pub none_above : (t : Division) (b from end n : ℕ) → IsSearched t b from end n n → (at : ℕ) → stepped from end n < at → at ≤ end →
    ¬ NoneEmpty (with_place t b at)
none_above t b from end n s at past to none =
    elim (stepped_is from end n) [
      | inl (l, e) ↦ absurd (omega (arith, l, e, s.within))
      | inr (g, e) ↦
          let back : stepped from end (at - from) ≡ at =
          elim (stepped_is from end (at - from)) [ inl (l, _) ↦ absurd (omega (arith, l, g)) | inr (_, f) ↦ omega (arith, e, f) ] in
          s.refused (at - from) (omega (arith, e)) (omega (arith, g)) (subst (AllowedAt t b) (sym back) none)
    ]

pub none_below : (t : Division) (b from end n : ℕ) → IsSearched t b from end n n → (at : ℕ) → end ≤ at → at < stepped from end n →
    ¬ NoneEmpty (with_place t b at)
none_below t b from end n s at past to none =
    elim (stepped_is from end n) [
      | inr (g, e) ↦ absurd (omega (arith, g, e, s.within))
      | inl (l, e) ↦
          let back : stepped from end (from - at) ≡ at =
          elim (stepped_is from end (from - at)) [ inr (g, _) ↦ absurd (omega (arith, l, g)) | inl (_, f) ↦ omega (arith, e, f) ] in
          s.refused (from - at) (omega (arith, e)) (omega (arith, l)) (subst (AllowedAt t b) (sym back) none)
    ]
