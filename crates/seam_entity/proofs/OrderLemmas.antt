-- What entries are seen before: the orders from which something came, and the senders that have a place.
use Rattle.std.proofs.Common.{◌≡◌, ◌≤◌, ◌<◌, ◌+◌, ℕ, zero, suc, Bool, true, false, cond, ◌&&◌, ◌||◌, eqb, List, [], ◌∷◌, ◌++◌, length}
use Rattle.std.proofs.Common.{take, drop, is_ok}
use Rattle.std.proofs.Common.{ltb, inl, inr, Result, Ok, Err, OnOk, get_or, set, None, Some, refl, sym, ap, subst, ◌∙◌, arith}
use Rattle.std.specs.Ordering.{nat_cmp, eq_by_cmp, is_eq, match_ordering}
use Rattle.std.specs.declared.cmp.Ordering.TheVariants.{Less, Equal, Greater}
use Rattle.std.specs.declared.cmp.Ordering.{Ordering}
use Rattle.std.proofs.lemmas.Bool.{cases_lt}
use Rattle.seam_order.specs.Offers.{after_offer}
use Rattle.std.specs.Cmp.{nat_cmp_total}
use Rattle.std.specs.List.{AllByRecursion, AllWithin, insert, list_any}
use Rattle.std.specs.List.Sorted.{IsStrictlySortedBy, IsNonDecreasingBy}
use Rattle.std.proofs.lemmas.List.{take-append-drop, drop_more, length-take, get_or_read}
use Rattle.std.proofs.Math.Seq.{set-append_seam}
use Rattle.std.proofs.lemmas.Map.Keys.{sorted_head, sorted_tail}
use Rattle.std.proofs.lemmas.Bool.Decides.{nat_tests}
use Rattle.std.specs.FinMap as table
use Rattle.std.specs.FinSet as set_of
use Rattle.seam_order.specs.Held.{OrderView, with_item}
use Rattle.seam_call.specs.declared.sender.Sender.{Sender}
use Rattle.seam_call.specs.declared.call.Call.{Call}
use Rattle.seam_call.specs.Senders.{rank_of}
use Rattle.seam_entity.specs.Orders.{Orders, new_order, order_or, order_of, is_new, shown, view_of}
use Rattle.seam_entity.specs.SenderPlaces.{Entries, ranks, AreOrdered, IsAt, IsGap}

abbrev pub Entry : Type 0
Entry = Sender × OrderView Call

-- no entry of the list has that rank
abbrev pub Apart : ℕ → Entries → Type 0
Apart q ps = AllByRecursion (λ p. is_eq (nat_cmp q (rank_of p.0)) ≡ false) ps

-- ---- numbers

less_of : (x y : ℕ) → nat_cmp x y ≡ Less → x < y
less_of x y e = grind (arith, nat_tests)

less_is : (x y : ℕ) → x < y → nat_cmp x y ≡ Less
less_is x y e = grind (arith, nat_tests)

apart_of : (x y : ℕ) → nat_cmp x y ≡ Less → is_eq (nat_cmp y x) ≡ false
apart_of x y e = grind (arith, nat_tests)

apart_less : (x y : ℕ) → nat_cmp x y ≡ Less → is_eq (nat_cmp x y) ≡ false
apart_less x y e = rw e refl

same_rank : (x : ℕ) → is_eq (nat_cmp x x) ≡ true
same_rank x = grind (arith, nat_tests)

-- a number that is two numbers makes them the same
joined : (q x y : ℕ) → is_eq (nat_cmp q x) ≡ true → is_eq (nat_cmp q y) ≡ true → is_eq (nat_cmp y x) ≡ true
joined q x y e f = grind (arith, nat_tests)

-- ---- an order that is new

one_of : (n : ℕ) (b : Bool) → eqb n 1 ≡ b → (b && true) ≡ true → 1 ≡ n
one_of n true h t = grind (arith, nat_tests)
one_of n false h t = cc

not_one : (b : Bool) → (b && false) ≡ true → ⊥
not_one true t = cc
not_one false t = cc

new_step : (n : ℕ) (held : List (ℕ × Call)) → is_new (record { next = n; held = held }) ≡ true →
    new_order ≡ record { next = n; held = held }
new_step n [] t = let e = one_of n (eqb n 1) refl t in λ i. record { next = e i; held = [] }
new_step n (x ∷ xs) t = absurd (not_one (eqb n 1) t)

pub new_of : (o : OrderView Call) → is_new o ≡ true → new_order ≡ o
new_of o t = new_step o.next o.held t

-- ---- what a search of the shown orders finds

pub find_apart : (q : ℕ) (ps : Entries) → Apart q ps → table.find nat_cmp q (shown ps) ≡ None
find_apart q [] h = refl
find_apart q (p ∷ ps) h =
    elim (is_new p.1) as (λ b. table.find nat_cmp q (cond b (shown ps) ((rank_of p.0, p.1) ∷ shown ps)) ≡ None) [
      | true ↦ find_apart q ps h.1
      | false ↦ ap (λ b. cond b (Some p.1) (table.find nat_cmp q (shown ps))) h.0 ∙ find_apart q ps h.1
    ]

module _ (s : Sender) (past : Entries) where
  find_here : (o : OrderView Call) (b : Bool) → is_new o ≡ b → Apart (rank_of s) past →
      order_or (table.find nat_cmp (rank_of s) (cond b (shown past) ((rank_of s, o) ∷ shown past))) ≡ o
  find_here o true e h = ap order_or (find_apart (rank_of s) past h) ∙ new_of o e
  find_here o false e h = ap (λ b. order_or (cond b (Some o) (table.find nat_cmp (rank_of s) (shown past)))) (same_rank (rank_of s))

  pub find_entry : (o : OrderView Call) (before : Entries) → Apart (rank_of s) before → Apart (rank_of s) past →
      order_or (table.find nat_cmp (rank_of s) (shown (before ++ (s, o) ∷ past))) ≡ o
  find_entry o [] h k = find_here o (is_new o) refl k
  find_entry o (a ∷ before) h k =
      elim (is_new a.1) as (λ b. order_or (table.find nat_cmp (rank_of s)
      (cond b (shown (before ++ (s, o) ∷ past)) ((rank_of a.0, a.1) ∷ shown (before ++ (s, o) ∷ past)))) ≡ o) [
        | true ↦ find_entry o before h.1 k
        | false ↦ ap (λ b. order_or (cond b (Some a.1) (table.find nat_cmp (rank_of s) (shown (before ++ (s, o) ∷ past))))) h.0
            ∙ find_entry o before h.1 k
      ]

  -- a place for a new order is not shown
  pub shown_with_new : (n : OrderView Call) (before : Entries) → is_new n ≡ true → shown (before ++ (s, n) ∷ past) ≡ shown (before ++ past)
  shown_with_new n [] e = ap (λ b. cond b (shown past) ((rank_of s, n) ∷ shown past)) e
  shown_with_new n (a ∷ before) e = ap (λ l. cond (is_new a.1) l ((rank_of a.0, a.1) ∷ l)) (shown_with_new n before e)

twice : {X : Type 0} (b : Bool) (x y z : X) → cond b x z ≡ cond b x (cond b y z)
twice true x y z = refl
twice false x y z = refl

swapped : {X : Type 0} (a b : Bool) (x y l r : X) → (a ≡ true → b ≡ true → ⊥) → l ≡ cond b y r → cond a x l ≡ cond b y (cond a x r)
swapped true true x y l r n e = absurd (n refl refl)
swapped true false x y l r n e = refl
swapped false b x y l r n e = e

not_both : (b : Bool) → b ≡ false → b ≡ true → ⊥
not_both true e f = cc
not_both false e f = cc

module _ (s : Sender) (o n : OrderView Call) (past : Entries) (kept : is_new n ≡ false) where
  find_written_here : (q : ℕ) → table.find nat_cmp q (shown ((s, n) ∷ past))
      ≡ cond (is_eq (nat_cmp q (rank_of s))) (Some n) (table.find nat_cmp q (shown ((s, o) ∷ past)))
  find_written_here q =
      ap (λ b. table.find nat_cmp q (cond b (shown past) ((rank_of s, n) ∷ shown past))) kept
      ∙ elim (is_new o) as (λ b. cond (is_eq (nat_cmp q (rank_of s))) (Some n) (table.find nat_cmp q (shown past))
      ≡ cond (is_eq (nat_cmp q (rank_of s))) (Some n) (table.find nat_cmp q (cond b (shown past) ((rank_of s, o) ∷ shown past)))) [
        | true ↦ refl
        | false ↦ twice (is_eq (nat_cmp q (rank_of s))) (Some n) (Some o) (table.find nat_cmp q (shown past))
      ]

  find_written : (before : Entries) → Apart (rank_of s) before → (q : ℕ) → table.find nat_cmp q (shown (before ++ (s, n) ∷ past))
      ≡ cond (is_eq (nat_cmp q (rank_of s))) (Some n) (table.find nat_cmp q (shown (before ++ (s, o) ∷ past)))
  find_written [] h q = find_written_here q
  find_written (a ∷ before) h q =
      let rest = find_written before h.1 q in
      elim (is_new a.1) as (λ b.
      table.find nat_cmp q (cond b (shown (before ++ (s, n) ∷ past)) ((rank_of a.0, a.1) ∷ shown (before ++ (s, n) ∷ past)))
      ≡ cond (is_eq (nat_cmp q (rank_of s))) (Some n)
      (table.find nat_cmp q (cond b (shown (before ++ (s, o) ∷ past)) ((rank_of a.0, a.1) ∷ shown (before ++ (s, o) ∷ past))))) [
        | true ↦ rest
        | false ↦ swapped (is_eq (nat_cmp q (rank_of a.0))) (is_eq (nat_cmp q (rank_of s))) (Some a.1) (Some n) _ _
            (λ e f. not_both (is_eq (nat_cmp (rank_of s) (rank_of a.0))) h.0 (joined q (rank_of a.0) (rank_of s) e f)) rest
      ]

  -- another order in place of one
  pub orders_written : (before : Entries) → Apart (rank_of s) before →
      (view_of (before ++ (s, n) ∷ past)).orders ≡ table.insert (view_of (before ++ (s, o) ∷ past)).orders (rank_of s) n
  orders_written before h =
      table.same_map nat_cmp_total table.nat_cmp-IsAntisymmetric _ _ (λ q.
      table.get-from_entries nat_cmp_total (shown (before ++ (s, n) ∷ past)) q
      ∙ find_written before h q
      ∙ ap (cond (is_eq (nat_cmp q (rank_of s))) (Some n)) (sym (table.get-from_entries nat_cmp_total (shown (before ++ (s, o) ∷ past)) q))
      ∙ sym (table.get-insert nat_cmp_total (view_of (before ++ (s, o) ∷ past)).orders (rank_of s) n q))

-- ---- the order of the senders

module _ (s : Sender) (past : Entries) where
  ranks_same : (o n : OrderView Call) (before : Entries) → ranks (before ++ (s, o) ∷ past) ≡ ranks (before ++ (s, n) ∷ past)
  ranks_same o n [] = refl
  ranks_same o n (a ∷ before) = ap (λ l. rank_of a.0 ∷ l) (ranks_same o n before)

  less_there : (k : ℕ) (o : OrderView Call) (before : Entries) →
      AllByRecursion (λ y. nat_cmp k y ≡ Less) (ranks (before ++ (s, o) ∷ past)) →
      nat_cmp k (rank_of s) ≡ Less
  less_there k o [] h = h.0
  less_there k o (a ∷ before) h = less_there k o before h.1

  pub apart_before : (o : OrderView Call) (before : Entries) → AreOrdered (before ++ (s, o) ∷ past) → Apart (rank_of s) before
  apart_before o [] h = tt
  apart_before o (a ∷ before) h = (
    apart_of (rank_of a.0) (rank_of s)
        (less_there (rank_of a.0) o before (sorted_head nat_cmp (rank_of a.0) (ranks (before ++ (s, o) ∷ past)) h)),
    apart_before o before (sorted_tail nat_cmp (rank_of a.0) (ranks (before ++ (s, o) ∷ past)) h),
  )

  apart_all : (k : ℕ) (ps : Entries) → AllByRecursion (λ y. nat_cmp k y ≡ Less) (ranks ps) → Apart k ps
  apart_all k [] h = tt
  apart_all k (p ∷ ps) h = (apart_less k (rank_of p.0) h.0, apart_all k ps h.1)

  pub apart_after : (o : OrderView Call) (before : Entries) → AreOrdered (before ++ (s, o) ∷ past) → Apart (rank_of s) past
  apart_after o [] h = apart_all (rank_of s) past (sorted_head nat_cmp (rank_of s) (ranks past) h)
  apart_after o (a ∷ before) h = apart_after o before (sorted_tail nat_cmp (rank_of a.0) (ranks (before ++ (s, o) ∷ past)) h)

  all_with : (k : ℕ) (n : OrderView Call) (before : Entries) → nat_cmp k (rank_of s) ≡ Less →
      AllByRecursion (λ y. nat_cmp k y ≡ Less) (ranks (before ++ past)) →
      AllByRecursion (λ y. nat_cmp k y ≡ Less) (ranks (before ++ (s, n) ∷ past))
  all_with k n [] l h = (l, h)
  all_with k n (a ∷ before) l h = (h.0, all_with k n before l h.1)

  -- one more sender between those before and after it
  pub ordered_with : (n : OrderView Call) (before : Entries) → AllByRecursion (λ p. nat_cmp (rank_of p.0) (rank_of s) ≡ Less) before →
      AllByRecursion (λ y. nat_cmp (rank_of s) y ≡ Less) (ranks past) → AreOrdered (before ++ past) → AreOrdered (before ++ (s, n) ∷ past)
  unfolding IsStrictlySortedBy
  ordered_with n [] below above h = (above, h)
  ordered_with n (a ∷ before) below above h = (all_with (rank_of a.0) n before below.0 h.0, ordered_with n before below.1 above h.1)

at_above : (x : ℕ) (ps : Entries) (k : ℕ) (d : Entry) → AllByRecursion (λ y. nat_cmp x y ≡ Less) (ranks ps) → k < length ps →
    x < rank_of (get_or ps k d).0
at_above x [] k d h lt = absurd (omega (arith, lt))
at_above x (p ∷ ps) zero d h lt = less_of x (rank_of p.0) h.0
at_above x (p ∷ ps) (suc k) d h lt = at_above x ps k d h.1 (omega (arith, lt))

pub rising : (ps : Entries) → AreOrdered ps → IsNonDecreasingBy (λ p. rank_of p.0) ps
rising [] o i j d le lt = absurd (omega (arith, lt))
rising (p ∷ ps) o zero zero d le lt = omega arith
rising (p ∷ ps) o zero (suc j) d le lt =
    let h = at_above (rank_of p.0) ps j d (sorted_head nat_cmp (rank_of p.0) (ranks ps) o) (omega (arith, lt)) in
    omega (arith, h)
rising (p ∷ ps) o (suc i) zero d le lt = absurd (omega (arith, le))
rising (p ∷ ps) o (suc i) (suc j) d le lt =
    rising ps (sorted_tail nat_cmp (rank_of p.0) (ranks ps) o) i j d (omega (arith, le)) (omega (arith, lt))

-- ---- by places

-- the entries before a place, the one there, and those after it
pub parts : (ps : Entries) (i : ℕ) (d : Entry) → i < length ps → ps ≡ take i ps ++ get_or ps i d ∷ drop (i + 1) ps
parts ps i d lt = sym (take-append-drop i ps) ∙ ap (λ l. take i ps ++ l) (drop_more ps i d lt)

pub parts_set : (ps : Entries) (i : ℕ) (d y : Entry) → i < length ps → set ps i y ≡ take i ps ++ y ∷ drop (i + 1) ps
parts_set ps i d y lt =
    let long : i ≡ length (take i ps) = let a = length-take i ps in omega (arith, a, lt) in
    ap (λ l. set l i y) (parts ps i d lt)
    ∙ ap (λ k. set (take i ps ++ get_or ps i d ∷ drop (i + 1) ps) k y) long
    ∙ set-append_seam (take i ps) (get_or ps i d) (drop (i + 1) ps) y

below_before : (q : ℕ) (ps : Entries) (i : ℕ) → ((k : ℕ) (d : Entry) → k < i → k < length ps → rank_of (get_or ps k d).0 < q) →
    AllByRecursion (λ p. nat_cmp (rank_of p.0) q ≡ Less) (take i ps)
below_before q [] zero h = tt
below_before q [] (suc i) h = tt
below_before q (p ∷ ps) zero h = tt
below_before q (p ∷ ps) (suc i) h = (
  less_is (rank_of p.0) q (h zero p (omega arith) (omega arith)),
  below_before q ps i (λ k d lt in_range. h (suc k) d (omega (arith, lt)) (omega (arith, in_range))),
)

above_after : (q : ℕ) (ps : Entries) (i : ℕ) → ((k : ℕ) (d : Entry) → i ≤ k → k < length ps → q < rank_of (get_or ps k d).0) →
    AllByRecursion (λ y. nat_cmp q y ≡ Less) (ranks (drop i ps))
above_after q [] zero h = tt
above_after q [] (suc i) h = tt
above_after q (p ∷ ps) zero h = (
  less_is q (rank_of p.0) (h zero p (omega arith) (omega arith)),
  above_after q ps zero (λ k d le lt. h (suc k) d (omega arith) (omega (arith, lt))),
)
above_after q (p ∷ ps) (suc i) h = above_after q ps i (λ k d le lt. h (suc k) d (omega (arith, le)) (omega (arith, lt)))

apart_below : (q : ℕ) (ps : Entries) → AllByRecursion (λ p. nat_cmp (rank_of p.0) q ≡ Less) ps → Apart q ps
apart_below q [] h = tt
apart_below q (p ∷ ps) h = (apart_of (rank_of p.0) q h.0, apart_below q ps h.1)

apart_above : (q : ℕ) (ps : Entries) → AllByRecursion (λ y. nat_cmp q y ≡ Less) (ranks ps) → Apart q ps
apart_above q [] h = tt
apart_above q (p ∷ ps) h = (apart_less q (rank_of p.0) h.0, apart_above q ps h.1)

apart_both : (q : ℕ) (before past : Entries) → Apart q before → Apart q past → Apart q (before ++ past)
apart_both q [] past h k = k
apart_both q (a ∷ before) past h k = (h.0, apart_both q before past h.1 k)

pub gap_apart : (ps : Entries) (q i : ℕ) → IsGap ps q i → Apart q ps
gap_apart ps q i g =
    subst (Apart q) (take-append-drop i ps)
    (apart_both q (take i ps) (drop i ps)
    (apart_below q (take i ps) (below_before q ps i (λ k d lt in_range. g.below k d (omega arith) lt)))
    (apart_above q (drop i ps) (above_after q ps i (λ k d le lt. g.above k d le lt))))

-- the order of a sender that has no place
pub order_absent : (ps : Entries) (s : Sender) (i : ℕ) → IsGap ps (rank_of s) i → order_of (view_of ps).orders s ≡ new_order
order_absent ps s i g =
    ap order_or (table.get-from_entries nat_cmp_total (shown ps) (rank_of s) ∙ find_apart (rank_of s) ps (gap_apart ps (rank_of s) i g))

order_in_parts : (before past : Entries) (e : Entry) → AreOrdered (before ++ e ∷ past) →
    order_of (view_of (before ++ e ∷ past)).orders e.0 ≡ e.1
order_in_parts before past e h =
    ap order_or (table.get-from_entries nat_cmp_total (shown (before ++ e ∷ past)) (rank_of e.0))
    ∙ find_entry e.0 past e.1 before (apart_before e.0 past e.1 before h) (apart_after e.0 past e.1 before h)

by_rank : (os : Orders) (s t : Sender) → rank_of s ≡ rank_of t → order_of os t ≡ order_of os s
by_rank os s t e = ap (λ r. order_or (table.get os r)) (sym e)

-- the order of a sender that has one
pub order_there : (ps : Entries) (s : Sender) (i : ℕ) (d : Entry) → AreOrdered ps → IsAt ps (rank_of s) i →
    order_of (view_of ps).orders s ≡ (get_or ps i d).1
order_there ps s i d h at =
    let split = parts ps i d at.inside in
    by_rank (view_of ps).orders (get_or ps i d).0 s (at.rank_there d)
    ∙ ap (λ l. order_of (view_of l).orders (get_or ps i d).0) split
    ∙ order_in_parts (take i ps) (drop (i + 1) ps) (get_or ps i d) (subst AreOrdered split h)

-- another order at its place
pub written_there : (ps : Entries) (s : Sender) (i : ℕ) (d : Entry) (n : OrderView Call) → AreOrdered ps → IsAt ps (rank_of s) i →
    is_new n ≡ false → (view_of (set ps i ((get_or ps i d).0, n))).orders ≡ table.insert (view_of ps).orders (rank_of s) n
written_there ps s i d n h at kept =
    let split = parts ps i d at.inside in
    ap (λ l. (view_of l).orders) (parts_set ps i d ((get_or ps i d).0, n) at.inside)
    ∙ orders_written (get_or ps i d).0 (get_or ps i d).1 n (drop (i + 1) ps) kept (take i ps)
    (apart_before (get_or ps i d).0 (drop (i + 1) ps) (get_or ps i d).1 (take i ps) (subst AreOrdered split h))
    ∙ ap (λ l. table.insert (view_of l).orders (rank_of (get_or ps i d).0) n) (sym split)
    ∙ ap (λ r. table.insert (view_of ps).orders r n) (at.rank_there d)

pub ordered_written : (ps : Entries) (i : ℕ) (d : Entry) (n : OrderView Call) → AreOrdered ps → i < length ps →
    AreOrdered (set ps i ((get_or ps i d).0, n))
ordered_written ps i d n h lt =
    subst AreOrdered (sym (parts_set ps i d ((get_or ps i d).0, n) lt))
    (subst (IsStrictlySortedBy nat_cmp) (ranks_same (get_or ps i d).0 (drop (i + 1) ps) (get_or ps i d).1 n (take i ps))
    (subst AreOrdered (parts ps i d lt) h))

-- a place more
pub ordered_inserted : (ps : Entries) (s : Sender) (i : ℕ) (n : OrderView Call) → AreOrdered ps → IsGap ps (rank_of s) i →
    AreOrdered (insert ps i (s, n))
ordered_inserted ps s i n h g =
    ordered_with s (drop i ps) n (take i ps) (below_before (rank_of s) ps i (λ k d lt in_range. g.below k d (omega arith) lt))
    (above_after (rank_of s) ps i (λ k d le lt. g.above k d le lt)) (subst AreOrdered (sym (take-append-drop i ps)) h)

pub orders_inserted : (ps : Entries) (s : Sender) (i : ℕ) (n : OrderView Call) → is_new n ≡ true →
    (view_of (insert ps i (s, n))).orders ≡ (view_of ps).orders
orders_inserted ps s i n e =
    ap table.from_entries (shown_with_new s (drop i ps) n (take i ps) e ∙ ap shown (take-append-drop i ps))

-- ---- the senders that have a place

any_apart : (q : ℕ) (ps : Entries) → Apart q ps → list_any (eq_by_cmp nat_cmp q) (ranks ps) ≡ false
any_apart q [] h = refl
any_apart q (p ∷ ps) h = rw h.0 (any_apart q ps h.1)

any_there : (s : Sender) (n : OrderView Call) (before past : Entries) →
    list_any (eq_by_cmp nat_cmp (rank_of s)) (ranks (before ++ (s, n) ∷ past)) ≡ true
any_there s n [] past = rw (same_rank (rank_of s)) refl
any_there s n (a ∷ before) past =
    elim (is_eq (nat_cmp (rank_of s) (rank_of a.0))) as (λ b.
    (b || list_any (eq_by_cmp nat_cmp (rank_of s)) (ranks (before ++ (s, n) ∷ past))) ≡ true) [
      | true ↦ refl
      | false ↦ any_there s n before past
    ]

pub no_place : (ps : Entries) (q i : ℕ) → IsGap ps q i → set_of.contains (view_of ps).senders q ≡ false
no_place ps q i g = set_of.contains-from_list nat_cmp_total (ranks ps) q ∙ any_apart q ps (gap_apart ps q i g)

pub place_made : (ps : Entries) (s : Sender) (i : ℕ) (n : OrderView Call) →
    set_of.contains (view_of (insert ps i (s, n))).senders (rank_of s) ≡ true
place_made ps s i n =
    set_of.contains-from_list nat_cmp_total (ranks (insert ps i (s, n))) (rank_of s) ∙ any_there s n (take i ps) (drop i ps)

pub place_there : (ps : Entries) (q i : ℕ) (d : Entry) → IsAt ps q i → set_of.contains (view_of ps).senders q ≡ true
place_there ps q i d at =
    let e = get_or ps i d in
    set_of.contains-from_list nat_cmp_total (ranks ps) q
    ∙ ap (λ l. list_any (eq_by_cmp nat_cmp q) (ranks l)) (parts ps i d at.inside)
    ∙ ap (λ r. list_any (eq_by_cmp nat_cmp r) (ranks (take i ps ++ e ∷ drop (i + 1) ps))) (sym (at.rank_there d))
    ∙ any_there e.0 e.1 (take i ps) (drop (i + 1) ps)

pub ordered_none : AreOrdered []
unfolding IsStrictlySortedBy
ordered_none = tt

-- ---- what a search found, in the caller's words

rank_strict : (ps : Entries) (i j : ℕ) (d : Entry) → AreOrdered ps → i < j → j < length ps →
    rank_of (get_or ps i d).0 < rank_of (get_or ps j d).0
rank_strict [] i j d o l lt = absurd (omega (arith, lt))
rank_strict (p ∷ ps) i zero d o l lt = absurd (omega (arith, l))
rank_strict (p ∷ ps) zero (suc j) d o l lt =
    at_above (rank_of p.0) ps j d (sorted_head nat_cmp (rank_of p.0) (ranks ps) o) (omega (arith, lt))
rank_strict (p ∷ ps) (suc i) (suc j) d o l lt =
    rank_strict ps i j d (sorted_tail nat_cmp (rank_of p.0) (ranks ps) o) (omega (arith, l)) (omega (arith, lt))

strict_of : (a b : ℕ) → a ≤ b → (b ≡ a → ⊥) → a < b
strict_of a b le n = elim (cases_lt a b) [
  | inl lt ↦ lt
  | inr ge ↦ absurd (n (omega (arith, le, ge)))
]

pub gap_from : (ps : Entries) (q i : ℕ) (x : Entry) → AreOrdered ps → i < length ps → x ≡ get_or ps i x → (rank_of x.0 ≡ q → ⊥) →
    AllWithin (λ p. rank_of p.0 < q) ps 0 i → AllWithin (λ p. q ≤ rank_of p.0) ps i (length ps) → IsGap ps q i
gap_from ps q i x o lt read other below above = record { inside = omega (arith, lt); below = below; above = strictly }
  where
    here : (d : Entry) → q < rank_of (get_or ps i d).0
    here d =
        strict_of q (rank_of (get_or ps i d).0) (above i d (omega arith) lt)
        (λ e. other (ap (λ p. rank_of p.0) (get_or_read ps i x lt read d) ∙ e))

    strictly : AllWithin (λ p. q < rank_of p.0) ps i (length ps)
    strictly k d le in_range = elim (cases_lt i k) [
      | inl l ↦ let a = above i d (omega arith) lt in let b = rank_strict ps i k d o l in_range in omega (arith, a, b)
      | inr ge ↦ subst (λ m. q < rank_of (get_or ps m d).0) (let e : i ≡ k = omega (arith, le, ge) in e) (here d)
    ]

pub at_of : (ls ps : Entries) (r q i : ℕ) → ls ≡ ps → r ≡ q → IsAt ls r i → IsAt ps q i
at_of ls ps r q i e f h = subst (λ l. IsAt l q i) e (subst (λ k. IsAt ls k i) f h)

pub gap_of : (ls ps : Entries) (r q i : ℕ) → ls ≡ ps → r ≡ q → IsGap ls r i → IsGap ps q i
gap_of ls ps r q i e f h = subst (λ l. IsGap l q i) e (subst (λ k. IsGap ls k i) f h)

pub order_read : (ps : Entries) (s : Sender) (i : ℕ) (x : Entry) → AreOrdered ps → IsAt ps (rank_of s) i → x ≡ get_or ps i x →
    order_of (view_of ps).orders s ≡ x.1
order_read ps s i x o h read = order_there ps s i x o h ∙ ap (λ p. p.1) (sym read)

pub written_read : (ps : Entries) (s : Sender) (i : ℕ) (x : Entry) (n : OrderView Call) → AreOrdered ps → IsAt ps (rank_of s) i →
    x ≡ get_or ps i x → is_new n ≡ false → (view_of (set ps i (x.0, n))).orders ≡ table.insert (view_of ps).orders (rank_of s) n
written_read ps s i x n o h read kept =
    ap (λ p. (view_of (set ps i (p.0, n))).orders) read ∙ written_there ps s i x n o h kept

pub ordered_read : (ps : Entries) (i : ℕ) (x : Entry) (n : OrderView Call) → AreOrdered ps → i < length ps → x ≡ get_or ps i x →
    AreOrdered (set ps i (x.0, n))
ordered_read ps i x n o lt read = subst (λ p. AreOrdered (set ps i (p.0, n))) (sym read) (ordered_written ps i x n o lt)

-- ---- an order that something came for

and_false : (b : Bool) → (b && false) ≡ false
and_false true = refl
and_false false = refl

pub not_new : (n : ℕ) (held : List (ℕ × Call)) → 1 < n → is_new (record { next = n; held = held }) ≡ false
not_new n held lt = let e : eqb n 1 ≡ false = grind (arith, nat_tests) in rw e refl

held_kept : (next n : ℕ) (k : Call) (xs : List (ℕ × Call)) → is_new (record { next = next; held = with_item n k xs }) ≡ false
held_kept next n k [] = and_false (eqb next 1)
held_kept next n k (p ∷ ps) =
    elim (ltb n p.0) as (λ b. is_new (record { next = next; held = cond b ((n, k) ∷ p ∷ ps) (p ∷ with_item n k ps) }) ≡ false) [
      | true ↦ and_false (eqb next 1)
      | false ↦ and_false (eqb next 1)
    ]

offered_step : (o : OrderView Call) (n : ℕ) (k : Call) (c : Ordering) → nat_cmp n o.next ≡ c → 1 ≤ n →
    is_new (match_ordering c o (record o { next = o.next + 1 }) (record o { held = with_item n k o.held })) ≡ false
offered_step o n k Less e le = not_new o.next o.held (let h = less_of n o.next e in omega (arith, h, le))
offered_step o n k Equal e le = not_new (o.next + 1) o.held (let h : n ≡ o.next = grind (arith, nat_tests) in omega (arith, h, le))
offered_step o n k Greater e le = held_kept o.next n k o.held

pub offered_kept : (o : OrderView Call) (n : ℕ) (k : Call) → 1 ≤ n → is_new (after_offer o n k) ≡ false
offered_kept o n k le = offered_step o n k (nat_cmp n o.next) refl le

pub on_ok : {A B P Q : Type 0} (r : Result A B) → (P → Q) → OnOk r P → OnOk r Q
on_ok (Ok x) f h = f h
on_ok (Err e) f h = tt

pub new_is : (o : OrderView Call) → o.next ≡ 1 → o.held ≡ [] → is_new o ≡ true
new_is o e f = let same : o ≡ new_order = λ i. record { next = e i; held = f i } in ap is_new same

pub either : {X : Type 0} (P : X → Type 0) (b : Bool) (x y : X) → P x → P y → P (cond b x y)
either P true x y h k = h
either P false x y h k = k

pub where_ok : {X A B : Type 0} (P : X → Type 0) (r : Result A B) (x y : X) → P x → OnOk r (P (cond (is_ok r) x y))
where_ok P (Ok a) x y h = h
where_ok P (Err e) x y h = tt
