-- Calls that are held all pass a test, whatever becomes of their orders.
use Rattle.std.proofs.Common.{◌≡◌, ℕ, ◌+◌, Bool, true, false, cond, eqb, ltb, ◌&&◌, List, [], ◌∷◌, find, Option, None, Some}
use Rattle.std.proofs.Common.{refl, sym, ap, ◌∙◌, subst}
use Rattle.std.specs.List.{list_all}
use Rattle.std.specs.Ordering.{nat_cmp, match_ordering}
use Rattle.std.specs.declared.cmp.Ordering.{Ordering}
use Rattle.std.specs.declared.cmp.Ordering.TheVariants.{Less, Equal, Greater}
use Rattle.std.specs.Cmp.{nat_cmp_total}
use Rattle.std.specs.FinMap as table
use Rattle.std.specs.FinMap.Entries.{put, find as key_find}
use Rattle.seam_order.specs.Held.{OrderView, item_at, with_item, without}
use Rattle.seam_order.specs.Offers.{next_item, after_offer, after_taking, after_item}
use Rattle.seam_call.specs.declared.call.Call.{Call}
use Rattle.seam_entity.specs.Orders.{Orders, order_or}
use Rattle.seam_entity.specs.ReadyCalls.{item_passes, order_passes, all_held}

pub both : (a b : Bool) → (a && b) ≡ true → (a ≡ true) × (b ≡ true)
both true b h = (refl, h)
both false b h = cc

pub all_two : (a b : Bool) → a ≡ true → b ≡ true → (a && b) ≡ true
all_two true b h k = k
all_two false b h k = cc

module _ {X : Type 0} (test : ℕ × X → Bool) (by_value : (a b : ℕ) (x : X) → test (a, x) ≡ test (b, x)) where
  put_by : (k : ℕ) (x : X) (e : ℕ × X) (es : List (ℕ × X)) (o : Ordering) → list_all test (e ∷ es) ≡ true → test (k, x) ≡ true →
      list_all test (put nat_cmp k x es) ≡ true →
      list_all test (match_ordering o ((k, x) ∷ e ∷ es) ((e.0, x) ∷ es) (e ∷ put nat_cmp k x es)) ≡ true
  put_by k x e es Less h new more = all_two (test (k, x)) (list_all test (e ∷ es)) new h
  put_by k x e es Equal h new more =
      all_two (test (e.0, x)) (list_all test es) (by_value e.0 k x ∙ new) (both (test e) (list_all test es) h).1
  put_by k x e es Greater h new more = all_two (test e) (list_all test (put nat_cmp k x es)) (both (test e) (list_all test es) h).0 more

  put_passes : (k : ℕ) (x : X) (es : List (ℕ × X)) → list_all test es ≡ true → test (k, x) ≡ true →
      list_all test (put nat_cmp k x es) ≡ true
  put_passes k x [] h new = all_two (test (k, x)) true new refl
  put_passes k x (e ∷ es) h new =
      put_by k x e es (nat_cmp k e.0) h new (put_passes k x es (both (test e) (list_all test es) h).1 new)

  pub insert_passes : (m : table.FinMap nat_cmp X) (k : ℕ) (x : X) → list_all test (table.entries m) ≡ true → test (k, x) ≡ true →
      list_all test (table.entries (table.insert m k x)) ≡ true
  insert_passes m k x h new = ap (list_all test) (table.entries-insert nat_cmp_total m k x) ∙ put_passes k x (table.entries m) h new

  found_by : (k : ℕ) (x : X) (e : ℕ × X) (es : List (ℕ × X)) (b : Bool) → list_all test (e ∷ es) ≡ true →
      (list_all test es ≡ true → key_find nat_cmp k es ≡ Some x → test (k, x) ≡ true) →
      cond b (Some e.1) (key_find nat_cmp k es) ≡ Some x → test (k, x) ≡ true
  found_by k x e es true h more at =
      let same : e.1 ≡ x = cc in
      ap (λ y. test (k, y)) (sym same) ∙ (by_value k e.0 e.1 ∙ (both (test e) (list_all test es) h).0)
  found_by k x e es false h more at = more (both (test e) (list_all test es) h).1 at

  found_passes : (k : ℕ) (x : X) (es : List (ℕ × X)) → list_all test es ≡ true → key_find nat_cmp k es ≡ Some x → test (k, x) ≡ true
  found_passes k x [] h at = cc
  found_passes k x (e ∷ es) h at = found_by k x e es _ h (found_passes k x es) at

  pub got_passes : (m : table.FinMap nat_cmp X) (k : ℕ) (x : X) → list_all test (table.entries m) ≡ true → table.get m k ≡ Some x →
      test (k, x) ≡ true
  got_passes m k x h at = found_passes k x (table.entries m) h (sym (table.get-entries m k) ∙ at)

module _ {X : Type 0} (test picks : X → Bool) where
  picked_by : (x y : X) (xs : List X) (b : Bool) → (test y && list_all test xs) ≡ true →
      (list_all test xs ≡ true → find picks xs ≡ Some x → test x ≡ true) → cond b (Some y) (find picks xs) ≡ Some x → test x ≡ true
  picked_by x y xs true h more at =
      let same : y ≡ x = cc in
      ap test (sym same) ∙ (both (test y) (list_all test xs) h).0
  picked_by x y xs false h more at = more (both (test y) (list_all test xs) h).1 at

  -- what a search finds passes, where all do
  pub picked_passes : (x : X) (xs : List X) → list_all test xs ≡ true → find picks xs ≡ Some x → test x ≡ true
  picked_passes x [] h at = cc
  picked_passes x (y ∷ xs) h at = picked_by x y xs (picks y) h (picked_passes x xs) at

module _ (test : Call → Bool) where
  abbrev passes : List (ℕ × Call) → Type 0
  passes items = list_all (item_passes test) items ≡ true

  with_by : (n : ℕ) (c : Call) (p : ℕ × Call) (ps : List (ℕ × Call)) (b : Bool) → passes (p ∷ ps) → test c ≡ true →
      passes (with_item n c ps) → passes (cond b ((n, c) ∷ p ∷ ps) (p ∷ with_item n c ps))
  with_by n c p ps true h new more = all_two (test c) (list_all (item_passes test) (p ∷ ps)) new h
  with_by n c p ps false h new more =
      all_two (test p.1) (list_all (item_passes test) (with_item n c ps)) (both (test p.1) (list_all (item_passes test) ps) h).0 more

  with_passes : (n : ℕ) (c : Call) (ps : List (ℕ × Call)) → passes ps → test c ≡ true → passes (with_item n c ps)
  with_passes n c [] h new = all_two (test c) true new refl
  with_passes n c (p ∷ ps) h new =
      with_by n c p ps (ltb n p.0) h new (with_passes n c ps (both (test p.1) (list_all (item_passes test) ps) h).1 new)

  without_by : (p : ℕ × Call) (ps qs : List (ℕ × Call)) (b : Bool) → passes (p ∷ ps) → passes qs → passes (cond b ps (p ∷ qs))
  without_by p ps qs true h more = (both (test p.1) (list_all (item_passes test) ps) h).1
  without_by p ps qs false h more =
      all_two (test p.1) (list_all (item_passes test) qs) (both (test p.1) (list_all (item_passes test) ps) h).0 more

  without_passes : (n : ℕ) (ps : List (ℕ × Call)) → passes ps → passes (without n ps)
  without_passes n [] h = h
  without_passes n (p ∷ ps) h =
      without_by p ps (without n ps) (eqb p.0 n) h (without_passes n ps (both (test p.1) (list_all (item_passes test) ps) h).1)

  item_by : (p : ℕ × Call) (ps : List (ℕ × Call)) (n : ℕ) (c : Call) (b : Bool) → passes (p ∷ ps) →
      (passes ps → item_at n ps ≡ Some c → test c ≡ true) → cond b (Some p.1) (item_at n ps) ≡ Some c → test c ≡ true
  item_by p ps n c true h more at =
      let same : p.1 ≡ c = cc in
      ap test (sym same) ∙ (both (test p.1) (list_all (item_passes test) ps) h).0
  item_by p ps n c false h more at = more (both (test p.1) (list_all (item_passes test) ps) h).1 at

  -- an item that is held passes
  pub item_passes_too : (n : ℕ) (c : Call) (ps : List (ℕ × Call)) → passes ps → item_at n ps ≡ Some c → test c ≡ true
  item_passes_too n c [] h at = cc
  item_passes_too n c (p ∷ ps) h at = item_by p ps n c (eqb p.0 n) h (item_passes_too n c ps) at

  offer_by : (o : OrderView Call) (n : ℕ) (c : Call) (r : Ordering) → passes o.held → test c ≡ true →
      passes (match_ordering r o (record o { next = o.next + 1 }) (record o { held = with_item n c o.held })).held
  offer_by o n c Less h new = h
  offer_by o n c Equal h new = h
  offer_by o n c Greater h new = with_passes n c o.held h new

  offer_passes : (o : OrderView Call) (n : ℕ) (c : Call) → passes o.held → test c ≡ true → passes (after_offer o n c).held
  offer_passes o n c h new = offer_by o n c (nat_cmp n o.next) h new

  taking_by : (o : OrderView Call) (i : Option Call) → passes o.held → passes (after_item o i).held
  taking_by o None h = h
  taking_by o (Some c) h = without_passes o.next o.held h

  taking_passes : (o : OrderView Call) → passes o.held → passes (after_taking o).held
  taking_passes o h = taking_by o (next_item o) h

  pub same_value : (a b : ℕ) (o : OrderView Call) → order_passes test (a, o) ≡ order_passes test (b, o)
  same_value a b o = refl

  pub order_at : (os : Orders) (k : ℕ) (o : Option (OrderView Call)) → all_held test os ≡ true → table.get os k ≡ o →
      passes (order_or o).held
  order_at os k None h at = refl
  order_at os k (Some o) h at = got_passes (order_passes test) same_value os k o h at

  -- after an offer of a call that passes
  pub held_offered : (os : Orders) (k : ℕ) (o : OrderView Call) (n : ℕ) (c : Call) → all_held test os ≡ true →
      order_or (table.get os k) ≡ o →
      test c ≡ true → all_held test (table.insert os k (after_offer o n c)) ≡ true
  held_offered os k o n c h at new =
      insert_passes (order_passes test) same_value os k (after_offer o n c) h
      (offer_passes o n c (subst (λ x. passes x.held) at (order_at os k (table.get os k) h refl)) new)

  -- after one was taken of an order that is there
  pub held_taken : (os : Orders) (k : ℕ) (o : OrderView Call) → all_held test os ≡ true → passes o.held →
      all_held test (table.insert os k (after_taking o)) ≡ true
  held_taken os k o h at = insert_passes (order_passes test) same_value os k (after_taking o) h (taking_passes o at)
