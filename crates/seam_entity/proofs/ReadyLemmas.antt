-- Which order is ready, by places.
use Rattle.std.proofs.Common.{◌≡◌, ◌≤◌, ◌<◌, ℕ, zero, suc, Bool, true, false, cond, List, [], ◌∷◌, length, get_or, None, Some, Option}
use Rattle.std.proofs.Common.{refl, sym, ap}
use Rattle.std.proofs.Common.{◌∙◌, ◌+◌, ◌&&◌, arith, find, is_some, IfSome, IfNone, set}
use Rattle.std.specs.Ordering.{nat_cmp}
use Rattle.std.specs.declared.cmp.Ordering.TheVariants.{Less}
use Rattle.std.specs.Cmp.{nat_cmp_total}
use Rattle.std.specs.List.{AllByRecursion, AllWithin, list_all}
use Rattle.std.proofs.lemmas.List.{get_or_read}
use Rattle.std.proofs.lemmas.Map.Keys.{sorted_head, sorted_tail}
use Rattle.std.specs.FinMap as table
use Rattle.seam_order.specs.Held.{OrderView}
use Rattle.seam_order.specs.Offers.{next_item, after_item, after_taking}
use Rattle.seam_call.specs.declared.call.Call.{Call}
use Rattle.seam_call.specs.Senders.{rank_of}
use Rattle.seam_entity.specs.Orders.{Orders, is_new, shown, view_of}
use Rattle.seam_entity.specs.ReadyCalls.{is_ready, order_is_ready, ready_order, has_ready, call_in, ready_call, after_order, after_ready}
use Rattle.seam_entity.specs.ReadyCalls.{item_passes, order_passes, all_held}
use Rattle.seam_entity.specs.SenderPlaces.{Entries, ranks, AreOrdered, IsAt, NoneReady, IsFirstReady}
use Rattle.seam_entity.proofs.OrderLemmas.{Entry, new_of, not_new, written_read}

-- ---- the shown orders, in rising number

put_below : (k : ℕ) (o : OrderView Call) (ps : Entries) → AllByRecursion (λ y. nat_cmp k y ≡ Less) (ranks ps) →
    table.put nat_cmp k o (shown ps) ≡ (k, o) ∷ shown ps
put_below k o [] h = refl
put_below k o (p ∷ ps) h =
    elim (is_new p.1) as (λ b. table.put nat_cmp k o (cond b (shown ps) ((rank_of p.0, p.1) ∷ shown ps))
    ≡ (k, o) ∷ cond b (shown ps) ((rank_of p.0, p.1) ∷ shown ps)) [
      | true ↦ put_below k o ps h.1
      | false ↦ rw h.0 refl
    ]

no_length : {A : Type 0} (xs : List A) → length xs ≡ 0 → xs ≡ []
no_length [] e = refl
no_length (x ∷ xs) e = absurd (omega arith)

entries_empty : table.entries (table.empty {X = OrderView Call} {R = nat_cmp}) ≡ []
entries_empty = no_length _ (sym (table.len-entries table.empty) ∙ table.len-empty nat_cmp _)

entries_shown : (ps : Entries) → AreOrdered ps → table.entries (view_of ps).orders ≡ shown ps
entries_shown [] o = entries_empty
entries_shown (p ∷ ps) o =
    let rest = entries_shown ps (sorted_tail nat_cmp (rank_of p.0) (ranks ps) o) in
    elim (is_new p.1) as (λ b. table.entries (table.from_entries {R = nat_cmp} (cond b (shown ps) ((rank_of p.0, p.1) ∷ shown ps)))
    ≡ cond b (shown ps) ((rank_of p.0, p.1) ∷ shown ps)) [
      | true ↦ rest
      | false ↦
          table.entries-insert nat_cmp_total _ (rank_of p.0) p.1
          ∙ (ap (table.put nat_cmp (rank_of p.0) p.1) rest
          ∙ put_below (rank_of p.0) p.1 ps (sorted_head nat_cmp (rank_of p.0) (ranks ps) o))
    ]

-- ---- the first that is ready

new_waits : (o : OrderView Call) → is_new o ≡ true → is_ready o ≡ false
new_waits o e = ap is_ready (sym (new_of o e))

not_ready_new : (o : OrderView Call) (b : Bool) → is_new o ≡ b → is_ready o ≡ true → b ≡ false
not_ready_new o true e r = let f : false ≡ true = sym (new_waits o e) ∙ r in cc
not_ready_new o false e r = refl

none_here : (p : Entry) (ps : Entries) → is_ready p.1 ≡ false → find order_is_ready (shown (p ∷ ps)) ≡ find order_is_ready (shown ps)
none_here p ps w =
    elim (is_new p.1) as (λ b. find order_is_ready (cond b (shown ps) ((rank_of p.0, p.1) ∷ shown ps))
    ≡ find order_is_ready (shown ps)) [
      | true ↦ refl
      | false ↦ ap (λ b. cond b (Some (rank_of p.0, p.1)) (find order_is_ready (shown ps))) w
    ]

ready_here : (p : Entry) (ps : Entries) → is_ready p.1 ≡ true → find order_is_ready (shown (p ∷ ps)) ≡ Some (rank_of p.0, p.1)
ready_here p ps r =
    ap (λ b. find order_is_ready (cond b (shown ps) ((rank_of p.0, p.1) ∷ shown ps))) (not_ready_new p.1 (is_new p.1) refl r)
    ∙ ap (λ b. cond b (Some (rank_of p.0, p.1)) (find order_is_ready (shown ps))) r

find_none : (ps : Entries) → AllWithin (λ p. is_ready p.1 ≡ false) ps 0 (length ps) → find order_is_ready (shown ps) ≡ None
find_none [] h = refl
find_none (p ∷ ps) h =
    none_here p ps (h zero p (omega arith) (omega arith))
    ∙ find_none ps (λ k d le lt. h (suc k) d (omega arith) (omega (arith, lt)))

find_at : (ps : Entries) (i : ℕ) (d : Entry) → i < length ps → AllWithin (λ p. is_ready p.1 ≡ false) ps 0 i →
    is_ready (get_or ps i d).1 ≡ true → find order_is_ready (shown ps) ≡ Some (rank_of (get_or ps i d).0, (get_or ps i d).1)
find_at [] i d lt h r = absurd (omega (arith, lt))
find_at (p ∷ ps) zero d lt h r = ready_here p ps r
find_at (p ∷ ps) (suc i) d lt h r =
    none_here p ps (h zero p (omega arith) (omega arith))
    ∙ find_at ps i d (omega (arith, lt)) (λ k e le l. h (suc k) e (omega arith) (omega (arith, l))) r

ready_none : (ps : Entries) → AreOrdered ps → NoneReady ps (length ps) → ready_order (view_of ps).orders ≡ None
ready_none ps o h = ap (find order_is_ready) (entries_shown ps o) ∙ find_none ps h

ready_at : (ps : Entries) (i : ℕ) (d : Entry) → AreOrdered ps → IsFirstReady ps i →
    ready_order (view_of ps).orders ≡ Some (rank_of (get_or ps i d).0, (get_or ps i d).1)
ready_at ps i d o f = ap (find order_is_ready) (entries_shown ps o) ∙ find_at ps i d f.inside f.before (f.ready d)

-- ---- what a search found, in the caller's words

pub ready_found : (ps : Entries) (o : Option ℕ) → AreOrdered ps → IfSome o (IsFirstReady ps) → IfNone o (NoneReady ps (length ps)) →
    is_some o ≡ has_ready (view_of ps).orders
ready_found ps None h some none = ap is_some (sym (ready_none ps h none))
ready_found [] (Some i) h some none = absurd (let lt = some.inside in omega (arith, lt))
ready_found (p ∷ ps) (Some i) h some none = ap is_some (sym (ready_at (p ∷ ps) i p h some))

pub no_call : (ps : Entries) → AreOrdered ps → NoneReady ps (length ps) → None ≡ ready_call (view_of ps).orders
no_call ps o h = sym (ap call_in (ready_none ps o h))

pub nothing_taken : (ps : Entries) → AreOrdered ps → NoneReady ps (length ps) → (view_of ps).orders ≡ after_ready (view_of ps).orders
nothing_taken ps o h = sym (ap (after_order (view_of ps).orders) (ready_none ps o h))

pub call_there : (ps : Entries) (i : ℕ) (d : Entry) → AreOrdered ps → IsFirstReady ps i →
    next_item (get_or ps i d).1 ≡ ready_call (view_of ps).orders
call_there ps i d o f = sym (ap call_in (ready_at ps i d o f))

pub call_found : (ps : Entries) (i : ℕ) (x : Entry) → AreOrdered ps → IsFirstReady ps i → x ≡ get_or ps i x →
    next_item x.1 ≡ ready_call (view_of ps).orders
call_found ps i x o f read = ap (λ p. next_item p.1) read ∙ call_there ps i x o f

taken_new : (o : OrderView Call) (k : Option Call) → 1 ≤ o.next → is_some k ≡ true → is_new (after_item o k) ≡ false
taken_new o None le e = absurd (let f : false ≡ true = e in cc)
taken_new o (Some k) le e = not_new (o.next + 1) _ (omega (arith, le))

pub call_taken : (ps : Entries) (i : ℕ) (x : Entry) (n : OrderView Call) → AreOrdered ps → IsFirstReady ps i → x ≡ get_or ps i x →
    1 ≤ x.1.next → n ≡ after_taking x.1 → (view_of (set ps i (x.0, n))).orders ≡ after_ready (view_of ps).orders
call_taken ps i x n o f read le e =
    let there : IsAt ps (rank_of x.0) i = record {
      inside = f.inside;
      rank_there = λ d. sym (ap (λ p. rank_of p.0) (get_or_read ps i x f.inside read d));
    } in
    let ready : is_ready x.1 ≡ true = ap (λ p. is_ready p.1) read ∙ f.ready x in
    let kept : is_new n ≡ false = ap is_new e ∙ taken_new x.1 (next_item x.1) le ready in
    written_read ps x.0 i x n o there read kept
    ∙ ap (table.insert (view_of ps).orders (rank_of x.0)) e
    ∙ ap (λ p. table.insert (view_of ps).orders (rank_of p.0) (after_taking p.1)) read
    ∙ sym (ap (after_order (view_of ps).orders) (ready_at ps i x o f))

-- ---- who is ready has a ready call

found_step : (x : ℕ × OrderView Call) (rest : Option (ℕ × OrderView Call)) (b : Bool) → order_is_ready x ≡ b →
    is_some (cond b (Some x) rest) ≡ true → call_in (cond b (Some x) rest) ≡ None → (is_some rest ≡ true → call_in rest ≡ None → ⊥) → ⊥
found_step x rest true e h n more = let f : false ≡ true = sym (ap is_some n) ∙ e in cc
found_step x rest false e h n more = more h n

found_some : (xs : List (ℕ × OrderView Call)) → is_some (find order_is_ready xs) ≡ true → call_in (find order_is_ready xs) ≡ None → ⊥
found_some [] h n = cc
found_some (x ∷ xs) h n = found_step x (find order_is_ready xs) (order_is_ready x) refl h n (found_some xs)

pub ready_is_some : (os : Orders) → has_ready os ≡ true → ready_call os ≡ None → ⊥
ready_is_some os h n = found_some (table.entries os) h n

-- ---- a test of all held calls

abbrev pub entry_passes : (Call → Bool) → Entry → Bool
entry_passes test p = list_all (item_passes test) p.1.held

new_passes : (test : Call → Bool) (o : OrderView Call) → is_new o ≡ true → list_all (item_passes test) o.held ≡ true
new_passes test o e = ap (λ q. list_all (item_passes test) q.held) (sym (new_of o e))

first_passes : (b c : Bool) → b ≡ true → c ≡ (b && c)
first_passes true c e = refl
first_passes false c e = cc

shown_first : (test : Call → Bool) (p : Entry) (ps : Entries) (b : Bool) → is_new p.1 ≡ b →
    list_all (order_passes test) (shown ps) ≡ list_all (entry_passes test) ps →
    list_all (order_passes test) (cond b (shown ps) ((rank_of p.0, p.1) ∷ shown ps))
    ≡ (list_all (item_passes test) p.1.held && list_all (entry_passes test) ps)
shown_first test p ps true e h = h ∙ first_passes _ _ (new_passes test p.1 e)
shown_first test p ps false e h = ap (λ c. list_all (item_passes test) p.1.held && c) h

shown_pass : (test : Call → Bool) (ps : Entries) → list_all (order_passes test) (shown ps) ≡ list_all (entry_passes test) ps
shown_pass test [] = refl
shown_pass test (p ∷ ps) = shown_first test p ps (is_new p.1) refl (shown_pass test ps)

pub all_pass : (test : Call → Bool) (ps : Entries) → AreOrdered ps → list_all (entry_passes test) ps ≡ all_held test (view_of ps).orders
all_pass test ps o = sym (ap (list_all (order_passes test)) (entries_shown ps o) ∙ shown_pass test ps)
