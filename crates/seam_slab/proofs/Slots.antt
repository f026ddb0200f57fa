-- What a table has, by its index and its slots.
use Rattle.std.proofs.Common.{◌≡◌, ◌≢◌, ◌⊎◌, inl, inr, ⊎_elim, ℕ, zero, suc, ◌+◌, Bool, true, false, not, cond, ◌&&◌, List, [], ◌∷◌}
use Rattle.std.proofs.Common.{Option, None, Some, nat_eq, is_some, option_map, map as each, refl, sym, ap, subst, ◌∙◌, arith, true≢false}
use Rattle.std.proofs.Common.{MutBor}
use Rattle.std.specs.Prelude.{slice_index_or, slice_get, unwrap_or}
use Rattle.std.specs.Option.{option_flatten, IfSome}
use Rattle.std.specs.Ordering.{nat_cmp, eq_by_cmp, is_eq}
use Rattle.std.specs.Cmp.{nat_cmp_total}
use Rattle.std.specs.List.{IsDistinct}
use Rattle.std.specs.Map.{keys_of, lookup}
use Rattle.std.specs.FinMap as map
use Rattle.std.specs.FinSet as set
use Rattle.std.proofs.lemmas.Bool.{cases_eq}
use Rattle.std.proofs.lemmas.Bool.Decides.{nat_tests}
use Rattle.std.proofs.lemmas.Cmp.{nat_eq_equiv}
use Rattle.slab.specs.Slab.{Slab, get, Updates, RetainsFrom}
use Rattle.seam_table.specs.Tables.{TableView, without_item, without_room}
use Rattle.seam_table.specs.Entries.{table_of, Writes}
use Rattle.seam_table.proofs.TableLemmas.{number_is, item-slot, room-slot}
use Rattle.seam_slab.specs.Slotted.{item_at, slotted, IsSlotted}

pub no_some : {X : Type 0} (x : X) → None ≡ Some x → ⊥
no_some x e = cc

pub none_is : {X : Type 0} (o : Option X) → is_some o ≡ false → o ≡ None
none_is None e = refl
none_is (Some x) e = absurd (true≢false e)

pub if_some : {X : Type 0} {P : Type 0} (o : Option X) → P → IfSome o (λ _. P)
if_some None p = tt
if_some (Some x) p = p

some_mapped : {X Y : Type 0} (f : X → Y) (o : Option X) → is_some (option_map f o) ≡ is_some o
some_mapped f None = refl
some_mapped f (Some x) = refl

-- ---- the entries of a table by the index and the slots

module _ {T : Type 0} (s : Slab (Option T)) where
  pub keys_slotted : (es : List (ℕ × ℕ)) → keys_of (slotted s es) ≡ keys_of es
  keys_slotted [] = refl
  keys_slotted (e ∷ es) = ap (λ ks. e.0 ∷ ks) (keys_slotted es)

  at_head : (b : Bool) (k : ℕ) (o : Option ℕ) →
      cond b (Some (item_at s k)) (option_map (item_at s) o) ≡ option_map (item_at s) (cond b (Some k) o)
  at_head true k o = refl
  at_head false k o = refl

  pub lookup_slotted : (q : ℕ) (es : List (ℕ × ℕ)) →
      lookup (nat_eq q) (slotted s es) ≡ option_map (item_at s) (lookup (nat_eq q) es)
  lookup_slotted q [] = refl
  lookup_slotted q (e ∷ es) =
      ap (cond (nat_eq q e.0) (Some (item_at s e.1))) (lookup_slotted q es) ∙ at_head (nat_eq q e.0) e.1 (lookup (nat_eq q) es)

  pub distinct_slotted : (es : List (ℕ × ℕ)) → IsDistinct nat_eq (keys_of es) → IsDistinct nat_eq (keys_of (slotted s es))
  distinct_slotted es d = subst (IsDistinct nat_eq) (sym (keys_slotted es)) d

-- the rooms of two tables with one index
pub same_room : {T : Type 0} (s t : Slab (Option T)) (es : List (ℕ × ℕ)) → (table_of (slotted t es)).room ≡ (table_of (slotted s es)).room
same_room s t es = ap (set.from_list {R = nat_cmp}) (keys_slotted t es ∙ sym (keys_slotted s es))

module _ {T : Type 0} {v : TableView T} (s : Slab (Option T)) (es : List (ℕ × ℕ)) (is : table_of (slotted s es) ≡ v) where
  -- the item of a number is that in its slot
  pub item_of : IsSlotted es s → (n : ℕ) → option_flatten (option_map (item_at s) (lookup (nat_eq n) es)) ≡ map.get v.items n
  item_of w n =
      ap option_flatten (sym (lookup_slotted s n es))
      ∙ sym (item-slot (slotted s es) n (distinct_slotted s es w.distinct))
      ∙ ap (λ x. map.get x.items n) is

  -- there is room for the number where it has an entry
  pub room_of : (n : ℕ) → is_some (lookup (nat_eq n) es) ≡ set.contains v.room n
  room_of n =
      sym (some_mapped (item_at s) (lookup (nat_eq n) es))
      ∙ ap is_some (sym (lookup_slotted s n es))
      ∙ sym (room-slot (slotted s es) n)
      ∙ ap (λ x. set.contains x.room n) is

pub room_when_found : {T : Type 0} (s : Slab (Option T)) (es : List (ℕ × ℕ)) (n k : ℕ) → Some k ≡ lookup (nat_eq n) es →
    set.contains (table_of (slotted s es)).room n ≡ true
room_when_found s es n k at =
    room-slot (slotted s es) n ∙ ap is_some (lookup_slotted s n es ∙ ap (option_map (item_at s)) (sym at))

pub none_slotted : {T : Type 0} (s : Slab (Option T)) (es : List (ℕ × ℕ)) (n : ℕ) → lookup (nat_eq n) es ≡ None →
    lookup (nat_eq n) (slotted s es) ≡ None
none_slotted s es n none = lookup_slotted s n es ∙ ap (option_map (item_at s)) none

-- ---- index and slots agree

pub empty_slotted : {T : Type 0} (s : Slab (Option T)) (es : List (ℕ × ℕ)) → IsDistinct nat_eq (keys_of es) → es ≡ [] → IsSlotted es s
empty_slotted s es d is =
    record {
      distinct = d;
      kept = λ n k e. absurd (no_some k (ap (lookup (nat_eq n)) (sym is) ∙ e));
      apart = λ n m k e f. absurd (no_some k (ap (lookup (nat_eq n)) (sym is) ∙ e));
    }

-- slots that changed no more than their room
module _ {T : Type 0} (s t : Slab (Option T)) (same : t.slots ≡ s.slots) where
  pub slotted_with_room : (es : List (ℕ × ℕ)) → slotted t es ≡ slotted s es
  slotted_with_room es = ap (λ l. each (λ e. (e.0, option_flatten (slice_index_or l e.1 None))) es) same

  pub agree_with_room : (es : List (ℕ × ℕ)) → IsSlotted es s → IsSlotted es t
  agree_with_room es w =
      record {
        distinct = w.distinct;
        kept = λ n k e. ap (λ l. is_some (slice_index_or l k None)) same ∙ w.kept n k e;
        apart = w.apart;
      }

  pub updates_past_room : (r : Slab (Option T)) (k : ℕ) (x : Option (Option T)) → Updates t r k x → Updates s r k x
  updates_past_room r k x u =
      record { changed = u.changed; others = λ o n. u.others o n ∙ ap (λ l. slice_index_or l o None) same }

  pub vacant_past_room : (k : ℕ) → get t k ≡ None → get s k ≡ None
  vacant_past_room k e = sym (ap (λ l. slice_index_or l k None) same) ∙ e

-- the slots have items where they had, or not
pub agree_when_changed : {T : Type 0} (s t : Slab (Option T)) (es : List (ℕ × ℕ)) → IsSlotted es s →
    ((k : ℕ) → is_some (get t k) ≡ is_some (get s k)) → IsSlotted es t
agree_when_changed s t es w same =
    record { distinct = w.distinct; kept = λ n k e. same k ∙ w.kept n k e; apart = w.apart }

-- the slot of one number was written, or is gone
module _ {T : Type 0} (s t : Slab (Option T)) (es : List (ℕ × ℕ)) (w : IsSlotted es s) (n k : ℕ) (at : Some k ≡ lookup (nat_eq n) es)
    (x : Option (Option T)) (u : Updates s t k x) where
  pub other_slot : (q j : ℕ) → lookup (nat_eq q) es ≡ Some j → nat_eq n q ≡ false → j ≢ k
  other_slot q j found apart same =
      let one : q ≡ n = w.apart q n k (found ∙ ap Some same) (sym at) in
      true≢false (sym (ap (nat_eq n) one ∙ nat_eq_equiv.refl n) ∙ apart)

  same_other : (q : ℕ) → nat_eq n q ≡ false → (o : Option ℕ) → lookup (nat_eq q) es ≡ o →
      option_map (item_at t) o ≡ option_map (item_at s) o
  same_other q apart None found = refl
  same_other q apart (Some j) found = ap (λ y. Some (option_flatten y)) (u.others j (other_slot q j found apart))

  pub same_others : (q : ℕ) → nat_eq n q ≡ false →
      option_map (item_at t) (lookup (nat_eq q) es) ≡ option_map (item_at s) (lookup (nat_eq q) es)
  same_others q apart = same_other q apart (lookup (nat_eq q) es) refl

-- an item, or none, was written
module _ {T : Type 0} (s t : Slab (Option T)) (es : List (ℕ × ℕ)) (w : IsSlotted es s) (n k : ℕ) (at : Some k ≡ lookup (nat_eq n) es)
    (x : Option T) (u : Updates s t k (Some x)) where
  written_at : (q : ℕ) (b : Bool) → nat_eq n q ≡ b →
      option_map (item_at t) (lookup (nat_eq q) es) ≡ cond b (Some x) (option_map (item_at s) (lookup (nat_eq q) es))
  written_at q true same =
      ap (option_map (item_at t)) (ap (λ m. lookup (nat_eq m) es) (number_is n q same) ∙ sym at)
      ∙ ap (λ y. Some (option_flatten y)) u.changed
  written_at q false apart = same_others s t es w n k at (Some x) u q apart

  pub written : Writes n x (slotted s es) (slotted t es)
  written = λ q.
      lookup_slotted t q es
      ∙ (written_at q (nat_eq n q) refl ∙ ap (cond (nat_eq n q) (Some x)) (sym (lookup_slotted s q es)))

  pub agree_when_written : IsSlotted es t
  agree_when_written =
      record {
        distinct = w.distinct;
        kept = λ q j found. ⊎_elim (λ e. ap is_some (ap (get t) e ∙ u.changed)) (λ o. ap is_some (u.others j o) ∙ w.kept q j found)
            (cases_eq j k);
        apart = w.apart;
      }

-- a number has an entry more, with an open slot
module _ {T : Type 0} (s t : Slab (Option T)) (es fs : List (ℕ × ℕ)) (w : IsSlotted es s) (n k : ℕ) (vacant : get s k ≡ None)
    (u : Updates s t k (Some None)) (h : (q : ℕ) → lookup (nat_eq q) fs ≡ cond (nat_eq n q) (Some k) (lookup (nat_eq q) es)) where
  used : (q j : ℕ) → lookup (nat_eq q) es ≡ Some j → j ≢ k
  used q j found same = true≢false (sym (w.kept q j found) ∙ ap is_some (ap (get s) same ∙ vacant))

  found_at : (q j : ℕ) → lookup (nat_eq q) fs ≡ Some j → ((nat_eq n q ≡ true) × (j ≡ k)) ⊎ (lookup (nat_eq q) es ≡ Some j)
  found_at q j found = by (nat_eq n q) refl (sym (h q) ∙ found)
    where
      by : (b : Bool) → nat_eq n q ≡ b → cond b (Some k) (lookup (nat_eq q) es) ≡ Some j →
          ((nat_eq n q ≡ true) × (j ≡ k)) ⊎ (lookup (nat_eq q) es ≡ Some j)
      by true is e = let f : Some k ≡ Some j = e in let same : j ≡ k = cc in inl (is, same)
      by false is e = inr e

  pub agree_when_made : IsDistinct nat_eq (keys_of fs) → IsSlotted fs t
  agree_when_made d =
      record {
        distinct = d;
        kept = λ q j found. ⊎_elim (λ p. ap is_some (ap (get t) p.1 ∙ u.changed))
            (λ o. ap is_some (u.others j (used q j o)) ∙ w.kept q j o) (found_at q j found);
        apart = λ q m j a b. ⊎_elim
            (λ p. ⊎_elim (λ r. number_is n q p.0 ∙ sym (number_is n m r.0)) (λ o. absurd (used m j o p.1)) (found_at m j b))
            (λ o. ⊎_elim (λ r. absurd (used q j o r.1)) (λ r. w.apart q m j o r) (found_at m j b)) (found_at q j a);
      }

  pub made : Writes n None (slotted s es) (slotted t fs)
  made = λ q.
      lookup_slotted t q fs
      ∙ (ap (option_map (item_at t)) (h q) ∙ (by q (nat_eq n q) ∙ ap (cond (nat_eq n q) (Some None)) (sym (lookup_slotted s q es))))
    where
      others : (q : ℕ) (o : Option ℕ) → lookup (nat_eq q) es ≡ o → option_map (item_at t) o ≡ option_map (item_at s) o
      others q None found = refl
      others q (Some j) found = ap (λ y. Some (option_flatten y)) (u.others j (used q j found))

      by : (q : ℕ) (b : Bool) → option_map (item_at t) (cond b (Some k) (lookup (nat_eq q) es))
          ≡ cond b (Some None) (option_map (item_at s) (lookup (nat_eq q) es))
      by q true = ap (λ y. Some (option_flatten y)) u.changed
      by q false = others q (lookup (nat_eq q) es) refl

-- the key that a number has in a slab with a vacant key: its own, or the vacant one
module _ {T : Type 0} (s : Slab (Option T)) (es : List (ℕ × ℕ)) (n vacant k : ℕ) (is : k ≡ unwrap_or (lookup (nat_eq n) es) vacant) where
  pub none_when_vacant : IsSlotted es s → get s vacant ≡ None → k ≡ vacant → lookup (nat_eq n) es ≡ None
  none_when_vacant w free same = by (lookup (nat_eq n) es) refl is
    where
      by : (o : Option ℕ) → lookup (nat_eq n) es ≡ o → k ≡ unwrap_or o vacant → o ≡ None
      by None found e = refl
      by (Some j) found e =
          absurd (true≢false (sym (w.kept n j found) ∙ ap is_some (ap (get s) (sym e ∙ same) ∙ free)))

  pub found_when_another : k ≢ vacant → lookup (nat_eq n) es ≡ Some k
  found_when_another apart = by (lookup (nat_eq n) es) is
    where
      by : (o : Option ℕ) → k ≡ unwrap_or o vacant → o ≡ Some k
      by None e = absurd (apart e)
      by (Some j) e = ap Some (sym e)

-- the number had an entry, and each look-up answers as before
module _ {T : Type 0} (s t : Slab (Option T)) (same : t.slots ≡ s.slots) (es fs : List (ℕ × ℕ)) (n : ℕ)
    (there : is_some (lookup (nat_eq n) es) ≡ true) (h : (q : ℕ) → lookup (nat_eq q) fs ≡ lookup (nat_eq q) es) where
  pub agree_as_before : IsSlotted es s → IsDistinct nat_eq (keys_of fs) → IsSlotted fs t
  agree_as_before w d =
      let v = agree_with_room s t same es w in
      record {
        distinct = d;
        kept = λ q k found. v.kept q k (sym (h q) ∙ found);
        apart = λ q m k a b. v.apart q m k (sym (h q) ∙ a) (sym (h m) ∙ b);
      }

  pub written_as_before : Writes n (unwrap_or (lookup (nat_eq n) (slotted s es)) None) (slotted s es) (slotted t fs)
  written_as_before = λ q.
      lookup_slotted t q fs
      ∙ (ap (option_map (item_at t)) (h q)
      ∙ (sym (lookup_slotted t q es)
      ∙ (ap (lookup (nat_eq q)) (slotted_with_room s t same es) ∙ own q (nat_eq n q) refl)))
    where
      filled : (o : Option (Option T)) → is_some o ≡ true → o ≡ Some (unwrap_or o None)
      filled None e = absurd (true≢false (sym e))
      filled (Some x) e = refl

      own : (q : ℕ) (b : Bool) → nat_eq n q ≡ b → lookup (nat_eq q) (slotted s es)
          ≡ cond b (Some (unwrap_or (lookup (nat_eq n) (slotted s es)) None)) (lookup (nat_eq q) (slotted s es))
      own q true is =
          ap (λ m. lookup (nat_eq m) (slotted s es)) (number_is n q is)
          ∙ filled (lookup (nat_eq n) (slotted s es))
          (ap is_some (lookup_slotted s n es) ∙ (some_mapped (item_at s) (lookup (nat_eq n) es) ∙ there))
      own q false is = refl

-- an entry that is written as it was leaves each look-up
pub found_as_before : (es fs : List (ℕ × ℕ)) (n k : ℕ) → lookup (nat_eq n) es ≡ Some k →
    ((q : ℕ) → lookup (nat_eq q) fs ≡ cond (nat_eq n q) (Some k) (lookup (nat_eq q) es)) →
    (q : ℕ) → lookup (nat_eq q) fs ≡ lookup (nat_eq q) es
found_as_before es fs n k found h q = h q ∙ by (nat_eq n q) refl
  where
    by : (b : Bool) → nat_eq n q ≡ b → cond b (Some k) (lookup (nat_eq q) es) ≡ lookup (nat_eq q) es
    by true is = sym found ∙ ap (λ m. lookup (nat_eq m) es) (sym (number_is n q is))
    by false is = refl

-- the entry that was taken away is that of the number whose place it is
pub without_entry : (es fs : List (ℕ × ℕ)) (i n k : ℕ) {p : ℕ × ℕ} → slice_get es i ≡ Some (n, k) → Some p ≡ slice_get es i →
    ((q : ℕ) → lookup (nat_eq q) fs ≡ cond (nat_eq p.0 q) None (lookup (nat_eq q) es)) →
    (q : ℕ) → lookup (nat_eq q) fs ≡ cond (nat_eq n q) None (lookup (nat_eq q) es)
without_entry es fs i n k {p} place at h q =
    let same : Some p ≡ Some (n, k) = at ∙ place in
    let number : p.0 ≡ n = ap (λ o. (unwrap_or o p).0) same in
    h q ∙ ap (λ m. cond (nat_eq m q) None (lookup (nat_eq q) es)) number

-- the entry of a number is taken away
module _ (es fs : List (ℕ × ℕ)) (n : ℕ) (h : (q : ℕ) → lookup (nat_eq q) fs ≡ cond (nat_eq n q) None (lookup (nat_eq q) es)) where
  left_in : (q j : ℕ) → lookup (nat_eq q) fs ≡ Some j → (nat_eq n q ≡ false) × (lookup (nat_eq q) es ≡ Some j)
  left_in q j found = by (nat_eq n q) refl (sym (h q) ∙ found)
    where
      by : (b : Bool) → nat_eq n q ≡ b → cond b None (lookup (nat_eq q) es) ≡ Some j →
          (nat_eq n q ≡ false) × (lookup (nat_eq q) es ≡ Some j)
      by true is e = absurd (no_some j e)
      by false is e = (is, e)

  -- and its slot is gone
  module _ {T : Type 0} (s t : Slab (Option T)) (w : IsSlotted es s) (k : ℕ) (at : Some k ≡ lookup (nat_eq n) es)
      (u : Updates s t k None) where
    pub agree_when_removed : IsDistinct nat_eq (keys_of fs) → IsSlotted fs t
    agree_when_removed d =
        record {
          distinct = d;
          kept = λ q j found. let p = left_in q j found in
              ap is_some (u.others j (other_slot s t es w n k at None u q j p.1 p.0)) ∙ w.kept q j p.1;
          apart = λ q m j a b. w.apart q m j (left_in q j a).1 (left_in m j b).1;
        }

    pub lookup_removed : (q : ℕ) → lookup (nat_eq q) (slotted t fs) ≡ cond (nat_eq n q) None (lookup (nat_eq q) (slotted s es))
    lookup_removed q =
        lookup_slotted t q fs
        ∙ (ap (option_map (item_at t)) (h q)
        ∙ (by (nat_eq n q) refl ∙ ap (cond (nat_eq n q) None) (sym (lookup_slotted s q es))))
      where
        by : (b : Bool) → nat_eq n q ≡ b → option_map (item_at t) (cond b None (lookup (nat_eq q) es))
            ≡ cond b None (option_map (item_at s) (lookup (nat_eq q) es))
        by true is = refl
        by false is = same_others s t es w n k at None u q is

-- ---- tables

same_turned : (q k : ℕ) → nat_eq k q ≡ is_eq (nat_cmp q k)
same_turned q k = grind (arith, nat_tests)

module _ {T : Type 0} (old new : List (ℕ × Option T)) (n : ℕ) (d : IsDistinct nat_eq (keys_of old))
    (f : IsDistinct nat_eq (keys_of new)) where
  items_without :
      ((q : ℕ) → option_flatten (lookup (nat_eq q) new) ≡ cond (nat_eq n q) None (option_flatten (lookup (nat_eq q) old))) →
      (table_of new).items ≡ map.remove (table_of old).items n
  items_without h =
      map.same_map nat_cmp_total map.nat_cmp-IsAntisymmetric (table_of new).items (map.remove (table_of old).items n) (λ q.
      item-slot new q f
      ∙ (h q
      ∙ (ap (λ b. cond b None (option_flatten (lookup (nat_eq q) old))) (same_turned q n)
      ∙ (ap (λ r. cond (eq_by_cmp nat_cmp q n) None r) (sym (item-slot old q d))
      ∙ sym (map.get-remove nat_cmp_total (table_of old).items n q)))))

  -- the item was taken out, and its entry stays
  pub table_when_emptied : Writes n None old new → (table_of new).room ≡ (table_of old).room → table_of new ≡ without_item (table_of old) n
  table_when_emptied h room =
      let items = items_without (λ q. ap option_flatten (h q) ∙ by (nat_eq n q) (lookup (nat_eq q) old)) in
      λ i. record { items = items i; room = room i }
    where
      by : (b : Bool) (r : Option (Option T)) → option_flatten (cond b (Some None) r) ≡ cond b None (option_flatten r)
      by true r = refl
      by false r = refl

  -- the entry is gone
  pub table_when_removed : ((q : ℕ) → lookup (nat_eq q) new ≡ cond (nat_eq n q) None (lookup (nat_eq q) old)) →
      table_of new ≡ without_room (table_of old) n
  table_when_removed h =
      let items = items_without (λ q. ap option_flatten (h q) ∙ by (nat_eq n q) (lookup (nat_eq q) old)) in
      let room =
      set.same_set nat_cmp_total set.nat_cmp-IsAntisymmetric (table_of new).room (set.remove (table_of old).room n) (λ q.
      room-slot new q
      ∙ (ap is_some (h q)
      ∙ (gone (nat_eq n q) (lookup (nat_eq q) old)
      ∙ (ap (λ b. not b && is_some (lookup (nat_eq q) old)) (same_turned q n)
      ∙ (ap (λ b. not (eq_by_cmp nat_cmp q n) && b) (sym (room-slot old q))
      ∙ sym (set.contains-remove nat_cmp_total (table_of old).room n q)))))) in
      λ i. record { items = items i; room = room i }
    where
      by : (b : Bool) (r : Option (Option T)) → option_flatten (cond b None r) ≡ cond b None (option_flatten r)
      by true r = refl
      by false r = refl

      gone : (b : Bool) (r : Option (Option T)) → is_some (cond b None r) ≡ (not b && is_some r)
      gone true r = refl
      gone false r = refl

-- ---- each item changed

module _ {X F : Type 0} (step : F → ℕ → MutBor X → Bool → MutBor X → F → Type 0) where
  -- a test that always answers `true` keeps each slot
  pub kept_all :
      ((f : F) (k : ℕ) (shown : MutBor X) (keep : Bool) (left : MutBor X) (next : F) → step f k shown keep left next → keep ≡ true) →
      (f : F) (k : ℕ) (old new : List (Option X)) → RetainsFrom step f k old new → (i : ℕ) →
      is_some (slice_index_or new i None) ≡ is_some (slice_index_or old i None)
  kept_all stays f k [] new r i = ap (λ l. is_some (slice_index_or l i None)) r
  kept_all stays f k (None ∷ old) new r zero = ap (λ l. is_some (slice_index_or l 0 None)) r.1
  kept_all stays f k (None ∷ old) new r (suc i) =
      ap (λ l. is_some (slice_index_or l (suc i) None)) r.1 ∙ kept_all stays f (k + 1) old r.0 r.2 i
  kept_all stays f k (Some x ∷ old) new r zero =
      ap (λ l. is_some (slice_index_or l 0 None)) r.5
      ∙ ap (λ b. is_some (cond b (Some r.1) None)) (stays f k r.3.shown r.0 r.3.left r.2 r.3.called)
  kept_all stays f k (Some x ∷ old) new r (suc i) =
      ap (λ l. is_some (slice_index_or l (suc i) None)) r.5 ∙ kept_all stays r.2 (k + 1) old r.4 r.6 i

  -- and one that leaves g of each value, and stays as it was, changes all so
  pub changed_all : (g : X → X) (f : F) →
      ((k : ℕ) (shown : MutBor X) (keep : Bool) (left : MutBor X) (next : F) → step f k shown keep left next →
      (keep ≡ true) × (left.now ≡ g shown.now) × (next ≡ f)) → (k : ℕ) (old new : List (Option X)) → RetainsFrom step f k old new →
      new ≡ each (option_map g) old
  changed_all g f leaves k [] new r = r
  changed_all g f leaves k (None ∷ old) new r = r.1 ∙ ap (λ l. None ∷ l) (changed_all g f leaves (k + 1) old r.0 r.2)
  changed_all g f leaves k (Some x ∷ old) new r =
      let a = leaves k r.3.shown r.0 r.3.left r.2 r.3.called in
      let rest = changed_all g f leaves (k + 1) old r.4 (subst (λ u. RetainsFrom step u (k + 1) old r.4) a.2 r.6) in
      r.5
      ∙ (ap (λ b. cond b (Some r.1) None ∷ r.4) a.0
      ∙ (ap (λ y. Some y ∷ r.4) (sym r.3.leaves ∙ (a.1 ∙ ap g r.3.shows)) ∙ ap (λ l. Some (g x) ∷ l) rest))

module _ {T : Type 0} (f : T → T) where
  flat_changed : (l : List (Option (Option T))) (k : ℕ) → option_flatten (slice_index_or (each (option_map (option_map f)) l) k None)
      ≡ option_map f (option_flatten (slice_index_or l k None))
  flat_changed [] k = refl
  flat_changed (None ∷ l) zero = refl
  flat_changed (Some x ∷ l) zero = refl
  flat_changed (x ∷ l) (suc k) = flat_changed l k

  pub slotted_changed : (s t : Slab (Option T)) → t.slots ≡ each (option_map (option_map f)) s.slots → (es : List (ℕ × ℕ)) →
      slotted t es ≡ each (λ e. (e.0, option_map f e.1)) (slotted s es)
  slotted_changed s t is [] = refl
  slotted_changed s t is (e ∷ es) =
      let item : item_at t e.1 ≡ option_map f (item_at s e.1) =
      ap (λ l. option_flatten (slice_index_or l e.1 None)) is ∙ flat_changed s.slots e.1 in
      λ i. (e.0, item i) ∷ slotted_changed s t is es i
