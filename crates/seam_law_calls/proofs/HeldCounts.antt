-- How many calls a real holds after an offer and after one was taken.
use Rattle.seam_law_calls.proofs.Prelude.{◌≡◌, ℕ, ◌+◌, ◌<◌, Bool, true, false, cond, eqb, ltb, List, [], ◌∷◌, length, Option, None, Some}
use Rattle.seam_law_calls.proofs.Prelude.{refl, ap, arith, nat_cmp, match_ordering, Ordering, Less, Equal, Greater, nat_tests, found}
use Rattle.seam_law_calls.proofs.Prelude.{OrderView, item_at, with_item, next_item, after_offer, after_item, after_taking, Call, Orders}
use Rattle.seam_law_calls.proofs.Prelude.{order_or, order_is_ready, ready_order, held_of, held_in, weight_or}
use Rattle.std.specs.FinMap as table
use Rattle.seam_order.specs.Held.{without}
use Rattle.seam_net_runs.proofs.MapSums.{total_of_insert}

with_by : (n : ℕ) (c : Call) (p : ℕ × Call) (ps : List (ℕ × Call)) (b : Bool) → length (with_item n c ps) ≡ length ps + 1 →
    length (cond b ((n, c) ∷ p ∷ ps) (p ∷ with_item n c ps)) ≡ length (p ∷ ps) + 1
with_by n c p ps true h = omega arith
with_by n c p ps false h = omega (arith, h)

with_counts : (n : ℕ) (c : Call) (ps : List (ℕ × Call)) → length (with_item n c ps) ≡ length ps + 1
with_counts n c [] = refl
with_counts n c (p ∷ ps) = with_by n c p ps (ltb n p.0) (with_counts n c ps)

without_by : (n : ℕ) (c : Call) (p : ℕ × Call) (ps : List (ℕ × Call)) (b : Bool) →
    (item_at n ps ≡ Some c → length (without n ps) + 1 ≡ length ps) → cond b (Some p.1) (item_at n ps) ≡ Some c →
    length (cond b ps (p ∷ without n ps)) + 1 ≡ length (p ∷ ps)
without_by n c p ps true h at = omega arith
without_by n c p ps false h at = let k = h at in omega (arith, k)

without_counts : (n : ℕ) (c : Call) (ps : List (ℕ × Call)) → item_at n ps ≡ Some c → length (without n ps) + 1 ≡ length ps
without_counts n c [] at = cc
without_counts n c (p ∷ ps) at = without_by n c p ps (eqb p.0 n) (without_counts n c ps) at

or_counts : (o : Option (OrderView Call)) → weight_or held_of o ≡ length (order_or o).held
or_counts None = refl
or_counts (Some o) = refl

-- an order put in place of the one that was there
put_counts : (os : Orders) (k : ℕ) (o : OrderView Call) → held_in (table.insert os k o) + length (order_or (table.get os k)).held
    ≡ held_in os + length o.held
put_counts os k o = let put = total_of_insert held_of os k o in let was = or_counts (table.get os k) in omega (arith, put, was)

offer_by : (o : OrderView Call) (n : ℕ) (c : Call) (r : Ordering) → (r ≡ Equal) →
    length (match_ordering r o (record o { next = o.next + 1 }) (record o { held = with_item n c o.held })).held ≡ length o.held
offer_by o n c Less is = refl
offer_by o n c Equal is = refl
offer_by o n c Greater is = cc

early_by : (o : OrderView Call) (n : ℕ) (c : Call) (r : Ordering) → (r ≡ Greater) →
    length (match_ordering r o (record o { next = o.next + 1 }) (record o { held = with_item n c o.held })).held ≡ length o.held + 1
early_by o n c Less is = cc
early_by o n c Equal is = cc
early_by o n c Greater is = with_counts n c o.held

equal_is : (a b : ℕ) → a ≡ b → nat_cmp a b ≡ Equal
equal_is a b is = grind (arith, nat_tests)

greater_is : (a b : ℕ) → b < a → nat_cmp a b ≡ Greater
greater_is a b is = grind (arith, nat_tests)

-- a call in its turn is not held
pub turn_counts : (os : Orders) (k n : ℕ) (c : Call) → n ≡ (order_or (table.get os k)).next →
    held_in (table.insert os k (after_offer (order_or (table.get os k)) n c)) ≡ held_in os
turn_counts os k n c is =
    let o = order_or (table.get os k) in
    let put = put_counts os k (after_offer o n c) in
    let same = offer_by o n c (nat_cmp n o.next) (equal_is n o.next is) in
    omega (arith, put, same)

-- an early one is
pub early_counts : (os : Orders) (k n : ℕ) (c : Call) → (order_or (table.get os k)).next < n →
    held_in (table.insert os k (after_offer (order_or (table.get os k)) n c)) ≡ held_in os + 1
early_counts os k n c is =
    let o = order_or (table.get os k) in
    let put = put_counts os k (after_offer o n c) in
    let more = early_by o n c (nat_cmp n o.next) (greater_is n o.next is) in
    omega (arith, put, more)

taking_by : (o : OrderView Call) (c : Call) (i : Option Call) → next_item o ≡ i → i ≡ Some c →
    length (after_item o i).held + 1 ≡ length o.held
taking_by o c None at is = cc
taking_by o c (Some x) at is = without_counts o.next x o.held at

-- one that is ready is not, once it was taken
pub taken_counts : (os : Orders) (o : ℕ × OrderView Call) (c : Call) → ready_order os ≡ Some o → next_item o.1 ≡ Some c →
    held_in (table.insert os o.0 (after_taking o.1)) + 1 ≡ held_in os
taken_counts os o c at item =
    let there : table.get os o.0 ≡ Some o.1 = (found order_is_ready os o at).0 in
    let put = put_counts os o.0 (after_taking o.1) in
    let was = ap (λ x. length (order_or x).held) there in
    let less = taking_by o.1 c (next_item o.1) refl item in
    omega (arith, put, was, less)
