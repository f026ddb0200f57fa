-- The best place of a range is one of two, on the two sides of the place from which half of the places lie below.
use Rattle.std.proofs.Common.{◌≡◌, ◌≢◌, ℕ, ◌+◌, ◌-◌, ◌/◌, ◌<◌, ◌≤◌, List, length, get_or, nat_lt, min, max, subst, arith, inl, inr}
use Rattle.std.specs.List.Sorted.{IsNonDecreasing}
use Rattle.std.proofs.lemmas.List.Sums.{count_by-le-length}
use Rattle.std.proofs.lemmas.Bool.{cases_lt}
use Rattle.seam_geo.specs.Pos.{gap}
use Rattle.seam_balance.specs.Balance.{difference}
use Rattle.seam_balance.proofs.Counts.{count_below, count_below_past, count_below_before, count_below_rises, count_by_sides}

-- the first place of a range that is above at least `count` of the places
pub record IsFirstAbove (places : List ℕ) (count low high at : ℕ) : Type 0 where
  pub from : low ≤ at
  pub to : at ≤ high
  pub enough : count ≤ count_below places at
  pub first : (other : ℕ) → low ≤ other → other < at → count_below places other < count

-- where so many lie below the end of the range, the last of them does
pub last_below : (places : List ℕ) (count high : ℕ) → IsNonDecreasing places → count ≢ 0 → count ≤ count_below places high →
    get_or places (count - 1) 0 < high
last_below places count high rising some enough = elim (cases_lt (get_or places (count - 1) 0) high) [
  | inl l ↦ l
  | inr g ↦ absurd (omega (arith, count_below_before places (count - 1) high rising g))
]

-- the first place above the last of them is the first above so many
pub first_above_last : (places : List ℕ) (count low high at : ℕ) → IsNonDecreasing places → count ≢ 0 → low ≤ high →
    count ≤ count_below places high
    → at ≡ max low (get_or places (count - 1) 0 + 1) → IsFirstAbove places count low high at
first_above_last places count low high at rising some range enough is =
    let within : count - 1 < length places = omega (arith, enough, count_by-le-length (λ place. nat_lt place high) places) in
    let last : get_or places (count - 1) 0 < at = omega arith in
    record {
      from = omega arith;
      to = omega (arith, last_below places count high rising some enough);
      enough = omega (arith, count_below_past places (count - 1) at rising within last);
      first = λ other from to.
          let before : other ≤ get_or places (count - 1) 0 = omega arith in
          omega (arith, count_below_before places (count - 1) other rising before);
    }

-- the place of a range with the least difference, and the lowest of those
pub record IsBestWithin (places : List ℕ) (low high at : ℕ) : Type 0 where
  pub from : low ≤ at
  pub to : at ≤ high
  pub least : (other : ℕ) → low ≤ other → other ≤ high → difference places at ≤ difference places other
  pub lowest : (other : ℕ) → low ≤ other → other < at → difference places at < difference places other

-- how much `below` of a number differs from the rest
abbrev unevenness : ℕ → ℕ → ℕ
unevenness number below = gap below (number - below)

difference_is : (places : List ℕ) (at : ℕ) → difference places at ≡ unevenness (length places) (count_below places at)
difference_is places at = omega (arith, count_by_sides at places)

-- up to half of the number it falls
before_half : (number fewer below : ℕ) → fewer ≤ below → below ≤ number / 2 → unevenness number below ≤ unevenness number fewer
before_half number fewer below le half = omega arith

before_half_less : (number fewer below : ℕ) → fewer < below → below ≤ number / 2 → unevenness number below < unevenness number fewer
before_half_less number fewer below l half = omega arith

-- and from there on it never does
from_half : (number below more : ℕ) → number / 2 ≤ below → below ≤ more → unevenness number below ≤ unevenness number more
from_half number below more half le = omega arith

-- nor does it from the lesser of half and the most that there may be
from_count : (number most count below more : ℕ) → count ≡ min (number / 2) most → count ≤ below → below ≤ more → more ≤ most →
    unevenness number below ≤ unevenness number more
from_count number most count below more is enough le within = elim (cases_lt below (number / 2)) [
  | inl short ↦ let same : below ≡ more = omega arith in omega arith
  | inr past ↦ from_half number below more past le
]

-- the upper place is the first above half of the places, or above as many as the end of the range is
pub record IsUpper (places : List ℕ) (count low high upper : ℕ) : Type 0 where
  pub count_is : count ≡ min (length places / 2) (count_below places high)
  pub found : IsFirstAbove places count low high upper

-- and the lower the first with as many below as the place before the upper has
pub record IsLower (places : List ℕ) (low upper lower : ℕ) : Type 0 where
  pub inside : low < upper
  pub found : IsFirstAbove places (count_below places (upper - 1)) low (upper - 1) lower

-- from the upper place on it is the best
upper_least : (places : List ℕ) (low high count upper : ℕ) → IsUpper places count low high upper → (other : ℕ) → upper ≤ other →
    other ≤ high → difference places upper ≤ difference places other
upper_least places low high count upper u other from to =
    let least : unevenness (length places) (count_below places upper) ≤ unevenness (length places) (count_below places other) =
    from_count (length places) (count_below places high) count _ _ u.count_is u.found.enough (count_below_rises places upper other from)
    (count_below_rises places other high to) in
    omega (arith, least, difference_is places upper, difference_is places other)

-- fewer than half lie below the lower place
lower_short : (places : List ℕ) (low high count upper lower : ℕ) → IsUpper places count low high upper → IsLower places low upper lower →
    count_below places lower ≤ length places / 2
lower_short places low high count upper lower u l =
    let short : count_below places lower < count = u.found.first lower l.found.from (omega (arith, l.inside, l.found.to)) in
    omega (arith, short, u.count_is)

-- before the upper place it is the best
lower_least : (places : List ℕ) (low high count upper lower : ℕ) → IsUpper places count low high upper → IsLower places low upper lower
    → (other : ℕ) → low ≤ other → other < upper → difference places lower ≤ difference places other
lower_least places low high count upper lower u l other from to =
    let fewer : count_below places other ≤ count_below places (upper - 1) = count_below_rises places other (upper - 1) (omega arith) in
    let least : unevenness (length places) (count_below places lower) ≤ unevenness (length places) (count_below places other) =
    before_half (length places) _ _ (omega (arith, fewer, l.found.enough)) (lower_short places low high count upper lower u l) in
    omega (arith, least, difference_is places lower, difference_is places other)

pub best_start : (places : List ℕ) (low high count upper : ℕ) → IsUpper places count low high upper → upper ≡ low →
    IsBestWithin places low high low
best_start places low high count upper u start = subst (IsBestWithin places low high) start (record {
  from = u.found.from;
  to = u.found.to;
  least = λ other from to. upper_least places low high count upper u other (omega arith) to;
  lowest = λ other from to. absurd (omega arith);
})

pub best_lower : (places : List ℕ) (low high count upper lower : ℕ) → IsUpper places count low high upper → IsLower places low upper lower →
    difference places lower ≤ difference places upper → IsBestWithin places low high lower
best_lower places low high count upper lower u l better = record {
  from = l.found.from;
  to = omega (arith, l.found.to, u.found.to);
  least = λ other from to. elim (cases_lt other upper) [
    | inl before ↦ lower_least places low high count upper lower u l other from before
    | inr after ↦ omega (arith, better, upper_least places low high count upper u other after to)
  ];
  lowest = λ other from to.
      let less : unevenness (length places) (count_below places lower) < unevenness (length places) (count_below places other) =
      before_half_less (length places) _ _ (omega (arith, l.found.first other from to, l.found.enough))
      (lower_short places low high count upper lower u l) in
      omega (arith, less, difference_is places lower, difference_is places other);
}

pub best_upper : (places : List ℕ) (low high count upper lower : ℕ) → IsUpper places count low high upper → IsLower places low upper lower →
    difference places upper < difference places lower → IsBestWithin places low high upper
best_upper places low high count upper lower u l better = record {
  from = u.found.from;
  to = u.found.to;
  least = λ other from to. elim (cases_lt other upper) [
    | inl before ↦ omega (arith, better, lower_least places low high count upper lower u l other from before)
    | inr after ↦ upper_least places low high count upper u other after to
  ];
  lowest = λ other from to. omega (arith, better, lower_least places low high count upper lower u l other from to);
}
