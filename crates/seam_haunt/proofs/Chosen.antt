-- Sets of the numbers of a range that pass a test.
use Rattle.std.proofs.Common.{◌≡◌, ◌≢◌, ◌⊎◌, ◌<◌, ◌≤◌, ℕ, zero, suc, ◌+◌, ◌==◌, Bool, true, false, not, cond, ◌&&◌, ◌||◌, nat_le, nat_lt}
use Rattle.std.proofs.Common.{refl, sym, ap, ◌∙◌, arith, inl, inr, IsTrue, filter, ◌↔◌, List, ◌∷◌, max}
use Rattle.std.specs.List.{range_with_len}
use Rattle.std.specs.Ordering.{nat_cmp}
use Rattle.std.proofs.lemmas.Bool.{cases_eq}
use Rattle.std.proofs.lemmas.Bool.Decides.{nat_tests}
use Rattle.std.specs.FinSet as set
use Rattle.seam_geo.specs.declared.pos.Pos.{Pos}
use Rattle.seam_geo.specs.Rect.{Area, distance_to}
use Rattle.seam_tree.specs.Division.{Division, area, cells_of}
use Rattle.seam_tree.specs.Cells.{Cells}
use Rattle.seam_tree.specs.Inverse.{contains_insert_nat}
use Rattle.seam_haunt.specs.Haunts.{IsHaunt, is_close, is_haunt, haunts_of}

chosen_more : (p : ℕ → Bool) (a n q : ℕ) (rest : Cells) → p a ≡ true →
    set.contains rest q ≡ ((nat_le (a + 1) q && nat_lt q (a + 1 + n)) && p q)
    → (q ≡ a) ⊎ (q ≢ a) → set.contains (set.insert rest a) q ≡ ((nat_le a q && nat_lt q (a + suc n)) && p q)
chosen_more p a n q rest passes ih (inl e) =
    let passed : p q ≡ true = ap p e ∙ passes in
    contains_insert_nat rest a q ∙ grind (arith, nat_tests, passed)
chosen_more p a n q rest passes ih (inr other) = contains_insert_nat rest a q ∙ grind (arith, nat_tests, ih)

chosen_same : (p : ℕ → Bool) (a n q : ℕ) (rest : Cells) → p a ≡ false →
    set.contains rest q ≡ ((nat_le (a + 1) q && nat_lt q (a + 1 + n)) && p q)
    → (q ≡ a) ⊎ (q ≢ a) → set.contains rest q ≡ ((nat_le a q && nat_lt q (a + suc n)) && p q)
chosen_same p a n q rest fails ih (inl e) =
    let failed : p q ≡ false = ap p e ∙ fails in
    grind (arith, nat_tests, ih, failed)
chosen_same p a n q rest fails ih (inr other) = grind (arith, nat_tests, ih)

in_range : (q n : ℕ) → (nat_le 0 q && nat_lt q (0 + n)) ≡ nat_lt q n
in_range q n = grind (arith, nat_tests)

abbrev pub listed : List ℕ → Cells
listed numbers = set.from_list numbers

split_on : (p : ℕ → Bool) (a n q : ℕ) (b : Bool) → p a ≡ b
    → set.contains (listed (filter p (range_with_len (a + 1) n))) q ≡ ((nat_le (a + 1) q && nat_lt q (a + 1 + n)) && p q)
    → set.contains (listed (cond b (a ∷ filter p (range_with_len (a + 1) n)) (filter p (range_with_len (a + 1) n)))) q
    ≡ ((nat_le a q && nat_lt q (a + suc n)) && p q)
split_on p a n q true e ih = chosen_more p a n q (listed (filter p (range_with_len (a + 1) n))) e ih (cases_eq q a)
split_on p a n q false e ih = chosen_same p a n q (listed (filter p (range_with_len (a + 1) n))) e ih (cases_eq q a)

-- a number is chosen where it is in the range and passes
pub contains_chosen : (p : ℕ → Bool) (a n q : ℕ) →
    set.contains (listed (filter p (range_with_len a n))) q ≡ ((nat_le a q && nat_lt q (a + n)) && p q)
contains_chosen p a zero q = set.contains-empty nat_cmp q ∙ grind (arith, nat_tests)
contains_chosen p a (suc n) q = split_on p a n q (p a) refl (contains_chosen p (a + 1) n q)

and_true : (b c : Bool) → (b && c) ≡ true → (b ≡ true) × (c ≡ true)
and_true true c e = (refl, e)
and_true false c e = absurd (cc)

pub or_true : (b c : Bool) → (b || c) ≡ true → (b ≡ true) ⊎ (c ≡ true)
or_true true c e = inl refl
or_true false c e = inr e

close_or_far : (a : Area) (p : Pos) (was : Bool) (near far : ℕ) → is_close a p was near far ≡ true
    → (distance_to a p ≤ near) ⊎ (IsTrue was × (distance_to a p ≤ far))
close_or_far a p was near far close =
    elim (or_true (nat_le (distance_to a p) near) (was && nat_le (distance_to a p) far) close) [
      | inl n ↦ inl (grind (arith, nat_tests, n))
      | inr both ↦
          let two : (was ≡ true) × (nat_le (distance_to a p) far ≡ true) = and_true was (nat_le (distance_to a p) far) both in
          inr (two.0, grind (arith, nat_tests, two.1))
    ]

close_by : (a : Area) (p : Pos) (was : Bool) (near far : ℕ) → (distance_to a p ≤ near) ⊎ (IsTrue was × (distance_to a p ≤ far))
    → is_close a p was near far ≡ true
close_by a p was near far (inl n) = grind (arith, nat_tests, n)
close_by a p was near far (inr both) = grind (arith, nat_tests, both.0, both.1)

-- the test and the fact are one
pub passing_is_haunt : (p : Pos) (home : ℕ) (old : Cells) (t : Division) (near far cell : ℕ) → cell < cells_of t
    → is_haunt p home old t near far cell ≡ true → IsHaunt p home old t near far cell
passing_is_haunt p home old t near far cell there passes =
    let parts : (not (cell == home) ≡ true) × (is_close (area t cell) p (set.contains old cell) near far ≡ true) =
    and_true (not (cell == home)) (is_close (area t cell) p (set.contains old cell) near far) passes in
    record {
      there = there;
      away = λ e. grind (arith, nat_tests, parts.0);
      close = close_or_far (area t cell) p (set.contains old cell) near far parts.1;
    }

pub haunt_passes : (p : Pos) (home : ℕ) (old : Cells) (t : Division) (near far cell : ℕ) → IsHaunt p home old t near far cell
    → is_haunt p home old t near far cell ≡ true
haunt_passes p home old t near far cell h =
    let away : cell ≢ home = h.away in
    ap (λ (b : Bool). not (cell == home) && b) (close_by (area t cell) p (set.contains old cell) near far h.close)
    ∙ grind (arith, nat_tests)

-- what the set of all haunts holds
pub contains_haunts_of : (p : Pos) (home : ℕ) (old : Cells) (t : Division) (near far cell : ℕ) →
    set.contains (haunts_of p home old t near far) cell ≡ (nat_lt cell (cells_of t) && is_haunt p home old t near far cell)
contains_haunts_of p home old t near far cell =
    contains_chosen (is_haunt p home old t near far) 0 (cells_of t) cell
    ∙ ap (λ (b : Bool). b && is_haunt p home old t near far cell) (in_range cell (cells_of t))

pub haunts_of_each : (p : Pos) (home : ℕ) (old : Cells) (t : Division) (near far cell : ℕ) →
    IsTrue (set.contains (haunts_of p home old t near far) cell) ↔ IsHaunt p home old t near far cell
haunts_of_each p home old t near far cell = (
  λ held.
      let parts : (nat_lt cell (cells_of t) ≡ true) × (is_haunt p home old t near far cell ≡ true) =
      and_true (nat_lt cell (cells_of t)) (is_haunt p home old t near far cell) (sym (contains_haunts_of p home old t near far cell)
      ∙ held) in
      passing_is_haunt p home old t near far cell (grind (arith, nat_tests, parts.0)) parts.1,
  λ h.
      let there : nat_lt cell (cells_of t) ≡ true = grind (arith, nat_tests, h.there) in
      contains_haunts_of p home old t near far cell ∙ ap (λ (b : Bool). b && is_haunt p home old t near far cell) there
      ∙ haunt_passes p home old t near far cell h,
)

-- the cells below one number and then the next
pub contains_haunts_more : (test : ℕ → Bool) (n : ℕ) (chosen : Cells) → ((c : ℕ) → set.contains chosen c ≡ (nat_lt c n && test c)) →
    test n ≡ true → (c : ℕ) → set.contains (set.insert chosen n) c ≡ (nat_lt c (n + 1) && test c)
contains_haunts_more test n chosen before passes c =
    elim (cases_eq c n) [
      | inl e ↦ let passed : test c ≡ true = ap test e ∙ passes in contains_insert_nat chosen n c ∙ grind (arith, nat_tests, passed)
      | inr other ↦ contains_insert_nat chosen n c ∙ grind (arith, nat_tests, before c)
    ]

pub contains_haunts_same : (test : ℕ → Bool) (n : ℕ) (chosen : Cells) → ((c : ℕ) → set.contains chosen c ≡ (nat_lt c n && test c)) →
    test n ≡ false → (c : ℕ) → set.contains chosen c ≡ (nat_lt c (n + 1) && test c)
contains_haunts_same test n chosen before fails c =
    elim (cases_eq c n) [
      | inl e ↦ let failed : test c ≡ false = ap test e ∙ fails in grind (arith, nat_tests, before c, failed)
      | inr other ↦ grind (arith, nat_tests, before c)
    ]

-- the test of one cell, by its parts
pub close_is_haunt : (p : Pos) (home : ℕ) (old : Cells) (t : Division) (near far cell : ℕ) → cell ≢ home
    → is_close (area t cell) p (set.contains old cell) near far ≡ true → is_haunt p home old t near far cell ≡ true
close_is_haunt p home old t near far cell other close = ap (λ (b : Bool). not (cell == home) && b) close ∙ grind (arith, nat_tests)

pub far_is_none : (p : Pos) (home : ℕ) (old : Cells) (t : Division) (near far cell : ℕ)
    → is_close (area t cell) p (set.contains old cell) near far ≡ false → is_haunt p home old t near far cell ≡ false
far_is_none p home old t near far cell not_close = ap (λ (b : Bool). not (cell == home) && b) not_close ∙ grind (arith, nat_tests)

pub home_is_none : (p : Pos) (home : ℕ) (old : Cells) (t : Division) (near far cell : ℕ) → cell ≡ home →
    is_haunt p home old t near far cell ≡ false
home_is_none p home old t near far cell is =
    ap (λ (b : Bool). b && is_close (area t cell) p (set.contains old cell) near far)
    (let e : not (cell == home) ≡ false = grind (arith, nat_tests) in e)

-- an area beyond both distances is near enough for no ghost
pub beyond_is_not_close : (a : Area) (p : Pos) (was : Bool) (near far : ℕ) → nat_le (distance_to a p) (max near far) ≡ false
    → is_close a p was near far ≡ false
beyond_is_not_close a p was near far beyond = grind (arith, nat_tests, beyond)
