-- What a table answers, by what its entries hold.
use Rattle.std.proofs.Common.{◌≡◌, ℕ, Bool, true, false, not, cond, ◌||◌, ◌&&◌, List, [], ◌∷◌, Option, None, Some, refl, nat_eq}
use Rattle.std.proofs.Common.{sym, ap, subst, ◌∙◌, arith, is_some, position, slice_get, option_map, unwrap_or}
use Rattle.std.specs.Option.{option_flatten, IfSome}
use Rattle.std.specs.Ordering.{nat_cmp, eq_by_cmp, is_eq}
use Rattle.std.specs.Cmp.{nat_cmp_total}
use Rattle.std.specs.Map.{lookup, keys_of}
use Rattle.std.specs.BTreeMap.{is_at}
use Rattle.std.specs.List.{list_any, IsDistinct}
use Rattle.std.proofs.lemmas.Cmp.{nat_eq_equiv}
use Rattle.std.proofs.lemmas.Map.{lookup-none}
use Rattle.std.proofs.lemmas.Map.Entries.{none_past_head}
use Rattle.std.proofs.lemmas.Map.Keys.{IsDistinct-tail}
use Rattle.std.proofs.lemmas.Map.Made.{is_some-lookup}
use Rattle.std.proofs.lemmas.Map.Entries.{lookup_from_place}
use Rattle.std.proofs.lemmas.Option.{slice_get-map, slice_get-get_or}
use Rattle.std.proofs.lemmas.List.Quantifiers.{position-Some}
use Rattle.std.proofs.lemmas.Bool.Decides.{nat_tests}
use Rattle.std.specs.FinMap as map
use Rattle.std.specs.FinSet as set
use Rattle.indexmap.specs.IndexMap.{IndexMap, keys, with_value_at}
use Rattle.indexmap.proofs.CallerLemmas.{keys-with_value_at, updates-with_value_at}
use Rattle.seam_table.specs.Tables.{TableView, with_item, without_item, without_room}
use Rattle.seam_table.specs.Entries.{kept_before, kept, table_of, Writes}

-- ---- numbers that are the same

pub same_number : (q k : ℕ) → is_eq (nat_cmp q k) ≡ nat_eq q k
same_number q k = grind (arith, nat_tests)

same_turned : (q k : ℕ) → nat_eq k q ≡ is_eq (nat_cmp q k)
same_turned q k = grind (arith, nat_tests)

key_is : (e k : ℕ) → is_eq (nat_cmp e k) ≡ true → k ≡ e
key_is e k t = grind (arith, nat_tests)

pub number_is : (e k : ℕ) → nat_eq e k ≡ true → k ≡ e
number_is e k t = grind (arith, nat_tests)

-- ---- an entry and its item

kept_some : {T : Type 0} (g : T) (b : Bool) (o : Option T) (r : Option (Option T)) → o ≡ option_flatten r →
    cond b (Some g) o ≡ option_flatten (cond b (Some (Some g)) r)
kept_some g true o r e = refl
kept_some g false o r e = e

kept_none : {T : Type 0} (b : Bool) (o : Option T) (r : Option (Option T)) → o ≡ option_flatten r → (b ≡ true → r ≡ None) →
    o ≡ option_flatten (cond b (Some None) r)
kept_none true o r e none = e ∙ ap option_flatten (none refl)
kept_none false o r e none = e

find-slot : {T : Type 0} (q : ℕ) (s : ℕ × Option T) (slot : Option T) (ss : List (ℕ × Option T)) → IsDistinct nat_eq (keys_of (s ∷ ss)) →
    map.find nat_cmp q (kept ss) ≡ option_flatten (lookup (nat_eq q) ss) →
    map.find nat_cmp q (kept_before s.0 slot (kept ss)) ≡ option_flatten (cond (nat_eq q s.0) (Some slot) (lookup (nat_eq q) ss))
find-slot q s None ss apart rest =
    kept_none (nat_eq q s.0) (map.find nat_cmp q (kept ss)) (lookup (nat_eq q) ss) rest
    (λ t. lookup-none (nat_eq q) ss (none_past_head nat_eq_equiv q s ss apart t))
find-slot q s (Some g) ss apart rest =
    ap (λ b. cond b (Some g) (map.find nat_cmp q (kept ss))) (same_number q s.0)
    ∙ kept_some g (nat_eq q s.0) (map.find nat_cmp q (kept ss)) (lookup (nat_eq q) ss) rest

find-kept : {T : Type 0} (q : ℕ) (ss : List (ℕ × Option T)) → IsDistinct nat_eq (keys_of ss) →
    map.find nat_cmp q (kept ss) ≡ option_flatten (lookup (nat_eq q) ss)
find-kept q [] apart = refl
find-kept q (s ∷ ss) apart = find-slot q s s.1 ss apart (find-kept q ss (IsDistinct-tail nat_eq s.0 (keys_of ss) apart))

-- the item that a table has of a number is that of its entry
pub item-slot : {T : Type 0} (ss : List (ℕ × Option T)) (q : ℕ) → IsDistinct nat_eq (keys_of ss) →
    map.get (table_of ss).items q ≡ option_flatten (lookup (nat_eq q) ss)
item-slot ss q d = map.get-from_entries nat_cmp_total (kept ss) q ∙ find-kept q ss d

pub any_same : (q : ℕ) (ks : List ℕ) → list_any (is_at (nat_cmp q)) ks ≡ list_any (nat_eq q) ks
any_same q ks = let same : is_at (nat_cmp q) ≡ nat_eq q = λ i k. same_number q k i in ap (λ t. list_any t ks) same

-- there is room for the number where it has an entry
pub room-slot : {T : Type 0} (ss : List (ℕ × Option T)) (q : ℕ) → set.contains (table_of ss).room q ≡ is_some (lookup (nat_eq q) ss)
room-slot ss q = set.contains-from_list nat_cmp_total (keys_of ss) q ∙ (any_same q (keys_of ss) ∙ sym (is_some-lookup (nat_eq q) ss))

-- there is room for what has an entry
pub room_of_entry : {T X : Type 0} (ss : List (ℕ × Option T)) (q : ℕ) (slot : Option T) (o : Option X) → Some slot ≡ lookup (nat_eq q) ss →
    IfSome o (λ _. set.contains (table_of ss).room q ≡ true)
room_of_entry ss q slot None h = tt
room_of_entry ss q slot (Some x) h = room-slot ss q ∙ ap is_some (sym h)

pub same_room : {T X : Type 0} (w v : TableView T) (q : ℕ) (o : Option X) → w ≡ v → IfSome o (λ _. set.contains w.room q ≡ true) →
    IfSome o (λ _. set.contains v.room q ≡ true)
same_room w v q None h e = tt
same_room w v q (Some x) h e = sym (ap (λ u. set.contains u.room q) h) ∙ e

-- ---- an entry more, or an entry written

cond_flat : {G : Type 0} (b : Bool) (x : Option G) (r : Option (Option G)) →
    option_flatten (cond b (Some x) r) ≡ cond b x (option_flatten r)
cond_flat true x r = refl
cond_flat false x r = refl

cond_some : {G : Type 0} (b : Bool) (x : G) (r : Option G) → is_some (cond b (Some x) r) ≡ (b || is_some r)
cond_some true x r = refl
cond_some false x r = refl

same_or_none : {T : Type 0} (b : Bool) (r : Option (Option T)) → (b ≡ true → r ≡ None) →
    option_flatten (cond b (Some None) r) ≡ option_flatten r
same_or_none true r none = sym (ap option_flatten (none refl))
same_or_none false r none = refl

or_same : (b r : Bool) → (b ≡ true → r ≡ true) → r ≡ (b || r)
or_same true r h = h refl
or_same false r h = refl

as_it_was : {G : Type 0} (b : Bool) (s r : G) → (b ≡ true → s ≡ r) → cond b s r ≡ r
as_it_was true s r h = h refl
as_it_was false s r h = refl

-- room that is there already
room_inserted : (room : set.FinSet nat_cmp) (e : ℕ) → set.contains room e ≡ true → set.insert room e ≡ room
room_inserted room e there =
    set.same_set nat_cmp_total set.nat_cmp-IsAntisymmetric _ _ (λ q.
    set.contains-insert nat_cmp_total room e q
    ∙ sym (or_same (eq_by_cmp nat_cmp q e) (set.contains room q) (λ t. ap (set.contains room) (sym (key_is q e t)) ∙ there)))

room-there : {T : Type 0} (ss : List (ℕ × Option T)) (e : ℕ) → is_some (lookup (nat_eq e) ss) ≡ true →
    (table_of ss).room ≡ set.insert (table_of ss).room e
room-there ss e there = sym (room_inserted (table_of ss).room e (room-slot ss e ∙ there))

-- two tables whose entries answer the same
module _ {T : Type 0} (old new : List (ℕ × Option T)) where
  -- the entry of the number is there after it was written
  entry_written : (e : ℕ) (slot : Option T) → Writes e slot old new → Some slot ≡ lookup (nat_eq e) new
  entry_written e slot h = sym (h e ∙ ap (λ b. cond b (Some slot) (lookup (nat_eq e) old)) (nat_eq_equiv.refl e))

  pub room-written : (e : ℕ) (slot : Option T) → Writes e slot old new → (table_of new).room ≡ set.insert (table_of old).room e
  room-written e slot h =
      set.same_set nat_cmp_total set.nat_cmp-IsAntisymmetric _ _ (λ q.
      room-slot new q
      ∙ ap is_some (h q)
      ∙ cond_some (nat_eq e q) slot (lookup (nat_eq q) old)
      ∙ ap (λ b. b || is_some (lookup (nat_eq q) old)) (same_turned q e)
      ∙ ap (λ b. eq_by_cmp nat_cmp q e || b) (sym (room-slot old q))
      ∙ sym (set.contains-insert nat_cmp_total (table_of old).room e q))

  module _ (d : IsDistinct nat_eq (keys_of old)) (n : IsDistinct nat_eq (keys_of new)) where
    pub table-written : (e : ℕ) (g : T) → Writes e (Some g) old new → table_of new ≡ with_item (table_of old) e g
    table-written e g h =
        let a =
        map.same_map nat_cmp_total map.nat_cmp-IsAntisymmetric (table_of new).items (map.insert (table_of old).items e g) (λ q.
        item-slot new q n
        ∙ ap option_flatten (h q)
        ∙ cond_flat (nat_eq e q) (Some g) (lookup (nat_eq q) old)
        ∙ ap (λ b. cond b (Some g) (option_flatten (lookup (nat_eq q) old))) (same_turned q e)
        ∙ ap (λ r. cond (eq_by_cmp nat_cmp q e) (Some g) r) (sym (item-slot old q d))
        ∙ sym (map.get-insert nat_cmp_total (table_of old).items e g q)) in
        let b = room-written e (Some g) h in
        λ i. record { items = a i; room = b i }

    same_table : ((q : ℕ) → lookup (nat_eq q) new ≡ lookup (nat_eq q) old) → table_of new ≡ table_of old
    same_table same =
        let a =
        map.same_map nat_cmp_total map.nat_cmp-IsAntisymmetric (table_of new).items (table_of old).items (λ q.
        item-slot new q n ∙ ap option_flatten (same q) ∙ sym (item-slot old q d)) in
        let b =
        set.same_set nat_cmp_total set.nat_cmp-IsAntisymmetric (table_of new).room (table_of old).room (λ q.
        room-slot new q ∙ ap is_some (same q) ∙ sym (room-slot old q)) in
        λ i. record { items = a i; room = b i }

    -- an entry written as it was leaves the table
    table-rewritten : (e : ℕ) (slot : Option T) → Some slot ≡ lookup (nat_eq e) old → Writes e slot old new → table_of new ≡ table_of old
    table-rewritten e slot there h =
        same_table (λ q. h q ∙ as_it_was (nat_eq e q) (Some slot) (lookup (nat_eq q) old)
        (λ t. there ∙ ap (λ k. lookup (nat_eq k) old) (sym (number_is e q t))))

    -- room made where there was none leaves the items
    items-reserved : (e : ℕ) → lookup (nat_eq e) old ≡ None → Writes e None old new → (table_of new).items ≡ (table_of old).items
    items-reserved e none h =
        map.same_map nat_cmp_total map.nat_cmp-IsAntisymmetric _ _ (λ q.
        item-slot new q n
        ∙ ap option_flatten (h q)
        ∙ same_or_none (nat_eq e q) (lookup (nat_eq q) old) (λ t. ap (λ k. lookup (nat_eq k) old) (number_is e q t) ∙ none)
        ∙ sym (item-slot old q d))

    -- an entry made without an item, where there was none, leaves the items
    pub items-made : (e : ℕ) → Writes e (unwrap_or (lookup (nat_eq e) old) None) old new → (table_of new).items ≡ (table_of old).items
    items-made e = by (lookup (nat_eq e) old) refl
      where
        by : (o : Option (Option T)) → lookup (nat_eq e) old ≡ o → Writes e (unwrap_or o None) old new →
            (table_of new).items ≡ (table_of old).items
        by None is h = items-reserved e is h
        by (Some slot) is h = ap (λ w. w.items) (table-rewritten e slot (sym is) h)

-- ---- an item out, with its room or without

emptied : {G : Type 0} (b : Bool) (r : Option (Option G)) → option_flatten (cond b (Some None) r) ≡ cond b None (option_flatten r)
emptied true r = refl
emptied false r = refl

gone : {G : Type 0} (b : Bool) (r : Option (Option G)) → option_flatten (cond b None r) ≡ cond b None (option_flatten r)
gone true r = refl
gone false r = refl

room_gone : {G : Type 0} (b : Bool) (r : Option G) → is_some (cond b None r) ≡ (not b && is_some r)
room_gone true r = refl
room_gone false r = refl

none_or : {G : Type 0} (b : Bool) (r : Option G) → (b ≡ true → r ≡ None) → r ≡ cond b None r
none_or true r h = h refl
none_or false r h = refl

module _ {T : Type 0} (old new : List (ℕ × Option T)) (e : ℕ) (d : IsDistinct nat_eq (keys_of old)) (n : IsDistinct nat_eq (keys_of new))
  where
    without : (x : Option (Option T)) → option_flatten x ≡ None →
        ((q : ℕ) → lookup (nat_eq q) new ≡ cond (nat_eq e q) x (lookup (nat_eq q) old)) →
        (table_of new).items ≡ map.remove (table_of old).items e
    without x none h =
        map.same_map nat_cmp_total map.nat_cmp-IsAntisymmetric _ _ (λ q.
        item-slot new q n
        ∙ ap option_flatten (h q)
        ∙ by (nat_eq e q) x (lookup (nat_eq q) old) none
        ∙ ap (λ b. cond b None (option_flatten (lookup (nat_eq q) old))) (same_turned q e)
        ∙ ap (λ r. cond (eq_by_cmp nat_cmp q e) None r) (sym (item-slot old q d))
        ∙ sym (map.get-remove nat_cmp_total (table_of old).items e q))
      where
        by : (b : Bool) (x r : Option (Option T)) → option_flatten x ≡ None → option_flatten (cond b x r) ≡ cond b None (option_flatten r)
        by true x r none = none
        by false x r none = refl

    -- the entry that was there has no item now
    table-emptied : is_some (lookup (nat_eq e) old) ≡ true → Writes e None old new → table_of new ≡ without_item (table_of old) e
    table-emptied there h =
        let a = without (Some None) refl h in
        let b = room-written old new e None h ∙ sym (room-there old e there) in
        λ i. record { items = a i; room = b i }

    -- the entry is gone
    table-removed : ((q : ℕ) → lookup (nat_eq q) new ≡ cond (nat_eq e q) None (lookup (nat_eq q) old)) →
        table_of new ≡ without_room (table_of old) e
    table-removed h =
        let a = without None refl h in
        let b =
        set.same_set nat_cmp_total set.nat_cmp-IsAntisymmetric (table_of new).room (set.remove (table_of old).room e) (λ q.
        room-slot new q
        ∙ ap is_some (h q)
        ∙ room_gone (nat_eq e q) (lookup (nat_eq q) old)
        ∙ ap (λ b. not b && is_some (lookup (nat_eq q) old)) (same_turned q e)
        ∙ ap (λ b. not (eq_by_cmp nat_cmp q e) && b) (sym (room-slot old q))
        ∙ sym (set.contains-remove nat_cmp_total (table_of old).room e q)) in
        λ i. record { items = a i; room = b i }

module _ {T : Type 0} (ss : List (ℕ × Option T)) (e : ℕ) (d : IsDistinct nat_eq (keys_of ss)) (none : lookup (nat_eq e) ss ≡ None) where
  absent_at : (q : ℕ) → eq_by_cmp nat_cmp q e ≡ true → lookup (nat_eq q) ss ≡ None
  absent_at q t = ap (λ k. lookup (nat_eq k) ss) (sym (key_is q e t)) ∙ none

  items-absent : (table_of ss).items ≡ map.remove (table_of ss).items e
  items-absent =
      map.same_map nat_cmp_total map.nat_cmp-IsAntisymmetric (table_of ss).items (map.remove (table_of ss).items e) (λ q.
      none_or (eq_by_cmp nat_cmp q e) (map.get (table_of ss).items q) (λ t. item-slot ss q d ∙ ap option_flatten (absent_at q t))
      ∙ sym (map.get-remove nat_cmp_total (table_of ss).items e q))

  -- a table without an entry of the number is the table without its item, and without room for it
  pub table-absent : table_of ss ≡ without_item (table_of ss) e
  table-absent = λ i. record { items = items-absent i; room = (table_of ss).room }

  pub room-absent : table_of ss ≡ without_room (table_of ss) e
  room-absent =
      table-removed ss ss e d d (λ q.
      none_or (nat_eq e q) (lookup (nat_eq q) ss) (λ t. ap (λ k. lookup (nat_eq k) ss) (number_is e q t) ∙ none))

-- ---- an entry by its place

-- the number that a search finds is there
pub number_found : (n : ℕ) (ks : List ℕ) (i : ℕ) → position (nat_eq n) ks ≡ Some i → slice_get ks i ≡ Some n
number_found n ks i found =
    let h = position-Some (nat_eq n) ks i n found in slice_get-get_or ks i n h.0 ∙ ap Some (number_is n _ h.1)

-- a table whose entry of the number is at the place
module _ {T S : Type 0} (m : IndexMap ℕ (Option T) S) {v : TableView T} (is : table_of m.entries ≡ v)
    (d : IsDistinct nat_eq (keys_of m.entries)) (i : ℕ) {n k : ℕ} {slot : Option T} (number : slice_get (keys m) i ≡ Some n)
    (at : slice_get m.entries i ≡ Some (k, slot)) where
  same_key : k ≡ n
  same_key = let same : Some k ≡ Some n = sym (slice_get-map (λ e. e.0) m.entries i ∙ ap (option_map (λ e. e.0)) at) ∙ number in cc

  entry_at : slice_get m.entries i ≡ Some (n, slot)
  entry_at = at ∙ ap (λ x. Some (x, slot)) same_key

  slot_at : Some slot ≡ lookup (nat_eq n) m.entries
  slot_at = sym (lookup_from_place nat_eq_equiv m.entries i n slot d entry_at)

  written_at : (w : Option T) → Writes n w m.entries (with_value_at m i w).entries
  written_at w = (updates-with_value_at m i w nat_eq_equiv d n slot entry_at).0

  pub distinct_at : (w : Option T) → IsDistinct nat_eq (keys_of (with_value_at m i w).entries)
  distinct_at w = subst (IsDistinct nat_eq) (sym (keys-with_value_at m i w)) d

  pub item_at : slot ≡ map.get v.items n
  item_at = ap option_flatten slot_at ∙ sym (item-slot m.entries n d) ∙ ap (λ w. map.get w.items n) is

  -- the table where an item is written there, or none, or what was there
  pub put_at : (item : T) → table_of (with_value_at m i (Some item)).entries ≡ with_item v n item
  put_at item =
      table-written m.entries (with_value_at m i (Some item)).entries d (distinct_at (Some item)) n item (written_at (Some item))
      ∙ ap (λ w. with_item w n item) is

  pub emptied_at : table_of (with_value_at m i None).entries ≡ without_item v n
  emptied_at =
      table-emptied m.entries (with_value_at m i None).entries n d (distinct_at None) (sym (ap is_some slot_at)) (written_at None)
      ∙ ap (λ w. without_item w n) is

  pub same_at : table_of (with_value_at m i slot).entries ≡ v
  same_at = table-rewritten m.entries (with_value_at m i slot).entries d (distinct_at slot) n slot slot_at (written_at slot) ∙ is

  pub room_at : {X : Type 0} (w : Option T) (o : Option X) →
      IfSome o (λ _. set.contains (table_of (with_value_at m i w).entries).room n ≡ true)
  room_at w o =
      room_of_entry (with_value_at m i w).entries n w o (entry_written m.entries (with_value_at m i w).entries n w (written_at w))

  -- the table where the entry is taken away
  pub removed_at : (new : IndexMap ℕ (Option T) S) → IsDistinct nat_eq (keys_of new.entries) →
      ((q : ℕ) → lookup (nat_eq q) new.entries ≡ cond (nat_eq k q) None (lookup (nat_eq q) m.entries)) →
      table_of new.entries ≡ without_room v n
  removed_at new distinct h =
      table-removed m.entries new.entries n d distinct (λ q. h q ∙ ap (λ x. cond (nat_eq x q) None (lookup (nat_eq q) m.entries)) same_key)
      ∙ ap (λ w. without_room w n) is
