-- Sums of weights: lists that grow or shrink, maps that are set, and items that are held.
use Rattle.seam_law_bounds.proofs.Prelude.{◌≡◌, ℕ, zero, suc, ◌+◌, ◌*◌, ◌≤◌, Bool, true, false, cond, eqb, ltb, List, [], ◌∷◌, length}
use Rattle.seam_law_bounds.proofs.Prelude.{Option, None, Some, filter, refl, ap, ◌∙◌, arith, filter_map, cons_option, nat_cmp}
use Rattle.seam_law_bounds.proofs.Prelude.{match_ordering, Ordering, Less, Equal, Greater, OrderView, item_at, with_item, next_item}
use Rattle.seam_law_bounds.proofs.Prelude.{after_offer, after_item, after_taking, Map, set_at, weight_or, map_total, total_of_insert}
use Rattle.seam_law_bounds.proofs.Prelude.{total_of_remove}
use Rattle.std.specs.FinMap as table
use Rattle.seam_order.specs.Held.{without}

-- ---- products

pub times_grows : (a b c : ℕ) → a ≤ b → a * c ≤ b * c
times_grows a b zero h = grind arith
times_grows a b (suc c) h = let e = times_grows a b c h in grind (arith, e, h)

pub none_times : (n c : ℕ) → n ≡ 0 → n * c ≡ 0
none_times n c is = ap (λ x. x * c) is ∙ zero_times c
  where
    zero_times : (c : ℕ) → 0 * c ≡ 0
    zero_times c = omega arith

-- one more weighs that much more
pub one_more : (n m c : ℕ) → n ≡ m + 1 → n * c ≡ m * c + c
one_more n m c is = ap (λ x. x * c) is ∙ more m c
  where
    more : (m c : ℕ) → (m + 1) * c ≡ m * c + c
    more m c = grind arith

-- ---- lists

pub filter_shortens : {X : Type 0} (t : X → Bool) (xs : List X) → length (filter t xs) ≤ length xs
filter_shortens t [] = omega arith
filter_shortens t (x ∷ xs) = by (t x) (filter_shortens t xs)
  where
    by : (b : Bool) → length (filter t xs) ≤ length xs → length (cond b (x ∷ filter t xs) (filter t xs)) ≤ suc (length xs)
    by true h = omega (arith, h)
    by false h = omega (arith, h)

option_adds : {X : Type 0} (o : Option X) (xs : List X) → length (cons_option o xs) ≤ length xs + 1
option_adds None xs = omega arith
option_adds (Some x) xs = omega arith

pub chosen_are_few : {X Y : Type 0} (f : X → Option Y) (xs : List X) → length (filter_map f xs) ≤ length xs
chosen_are_few f [] = omega arith
chosen_are_few f (x ∷ xs) =
    let one = option_adds (f x) (filter_map f xs) in
    let two = chosen_are_few f xs in
    omega (arith, one, two)

-- ---- maps

pub total_of_set_at : {X : Type 0} (f : X → ℕ) (m : Map X) (k : ℕ) (o : Option X) →
    map_total f (set_at m k o) + weight_or f (table.get m k) ≡ map_total f m + weight_or f o
total_of_set_at f m k None = let e = total_of_remove f m k in omega (arith, e)
total_of_set_at f m k (Some v) = total_of_insert f m k v

-- ---- items that are held

module _ {T : Type 0} where
  with_by : (n : ℕ) (x : T) (p : ℕ × T) (ps : List (ℕ × T)) (b : Bool) → length (with_item n x ps) ≡ length ps + 1 →
      length (cond b ((n, x) ∷ p ∷ ps) (p ∷ with_item n x ps)) ≡ length (p ∷ ps) + 1
  with_by n x p ps true h = omega arith
  with_by n x p ps false h = omega (arith, h)

  with_counts : (n : ℕ) (x : T) (ps : List (ℕ × T)) → length (with_item n x ps) ≡ length ps + 1
  with_counts n x [] = refl
  with_counts n x (p ∷ ps) = with_by n x p ps (ltb n p.0) (with_counts n x ps)

  without_by : (n : ℕ) (x : T) (p : ℕ × T) (ps : List (ℕ × T)) (b : Bool) →
      (item_at n ps ≡ Some x → length (without n ps) + 1 ≡ length ps) → cond b (Some p.1) (item_at n ps) ≡ Some x →
      length (cond b ps (p ∷ without n ps)) + 1 ≡ length (p ∷ ps)
  without_by n x p ps true h at = omega arith
  without_by n x p ps false h at = let k = h at in omega (arith, k)

  without_counts : (n : ℕ) (x : T) (ps : List (ℕ × T)) → item_at n ps ≡ Some x → length (without n ps) + 1 ≡ length ps
  without_counts n x [] at = cc
  without_counts n x (p ∷ ps) at = without_by n x p ps (eqb p.0 n) (without_counts n x ps) at

  -- an order holds at most one more after an offer
  pub offer_adds : (o : OrderView T) (n : ℕ) (x : T) → length (after_offer o n x).held ≤ length o.held + 1
  offer_adds o n x = by (nat_cmp n o.next)
    where
      by : (r : Ordering) →
          length (match_ordering r o (record o { next = o.next + 1 }) (record o { held = with_item n x o.held })).held ≤ length o.held + 1
      by Less = omega arith
      by Equal = omega arith
      by Greater = let e = with_counts n x o.held in omega (arith, e)

  -- one less after its next was taken
  pub taking_removes : (o : OrderView T) (x : T) → next_item o ≡ Some x → length (after_taking o).held + 1 ≡ length o.held
  taking_removes o x e =
      let one = ap (λ i. length (after_item o i).held) e in
      let two = without_counts o.next x o.held e in
      omega (arith, one, two)
