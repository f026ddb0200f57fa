-- What the locations are after an entity was put, moved or taken out.
use Rattle.std.proofs.Common.{◌≡◌, ◌≢◌, ◌⊎◌, inl, inr, ℕ, true, false, cond, eqb, Option, None, Some, refl, sym, ap, ◌∙◌}
use Rattle.std.proofs.Common.{⊎_elim, subst, option_map, map as each}
use Rattle.std.proofs.Common.{Result, Ok, Err, OnErr}
use Rattle.std.specs.Ordering.{nat_cmp}
use Rattle.std.specs.Cmp.{nat_cmp_total, unsigned_tied}
use Rattle.std.specs.BTreeMap as tree
use Rattle.std.specs.BTreeMap.{is_at}
use Rattle.std.specs.FinMap as map
use Rattle.std.proofs.lemmas.Map.Made.{lookup-map_values}
use Rattle.slab.specs.Slab.{Slab, get, Updates}
use Rattle.seam_range.specs.declared.Location.{Location}
use Rattle.seam_range.specs.declared.Keyed.{Keyed}
use Rattle.seam_range.specs.declared.Spot.{Spot}
use Rattle.seam_range.specs.Indexed.{seen, seen_at, moved_to, locations_of, Buckets, AreLinked, IsIndexed, AreSameLocations, IsMoved}
use Rattle.seam_range.proofs.Sorted.{lookup_of_find}
use Rattle.seam_range.proofs.Ranks.{none_some, some_is}
use Rattle.seam_range.proofs.Links.{is_or_not, number_is, same_again}

abbrev pub Entries : Type 0
Entries = tree.BTreeMap ℕ Keyed

-- the location of an entity that has an entry
pub location_of_entity : (m : Entries) (q : ℕ) → map.get (locations_of m.entries) q ≡ option_map (λ x. x.location) (tree.get nat_cmp m q)
location_of_entity m q =
    map.get-from_entries nat_cmp_total (each (λ r. (r.0, r.1.location)) m.entries) q
    ∙ (lookup_of_find q (each (λ r. (r.0, r.1.location)) m.entries) ∙ lookup-map_values (λ x. x.location) (is_at (nat_cmp q)) m.entries)

-- the entries after a write of o at an entity
abbrev pub Writes : Entries → Entries → ℕ → Option Keyed → Type 0
Writes m n e o = (q : ℕ) → tree.get nat_cmp n q ≡ cond (is_at (nat_cmp e) q) o (tree.get nat_cmp m q)

-- each entity has the same entry
abbrev pub AreSameEntries : Entries → Entries → Type 0
AreSameEntries m n = (q : ℕ) → tree.get nat_cmp n q ≡ tree.get nat_cmp m q

entry_after : (m n : Entries) (e : ℕ) (o : Option Keyed) → Writes m n e o → (q : ℕ) →
    ((q ≡ e) × (tree.get nat_cmp n q ≡ o)) ⊎ ((q ≢ e) × (tree.get nat_cmp n q ≡ tree.get nat_cmp m q))
entry_after m n e o w q = elim (eqb e q) as (λ t. eqb e q ≡ t → ((q ≡ e) × (tree.get nat_cmp n q ≡ o)) ⊎
    ((q ≢ e) × (tree.get nat_cmp n q ≡ tree.get nat_cmp m q))) [
      | true ↦ λ t. inl (number_is e q t, w q ∙ ap (λ b. cond b o (tree.get nat_cmp m q)) (unsigned_tied e q ∙ t))
      | false ↦ λ t. inr (
        λ h. let f : true ≡ false = sym (same_again e) ∙ (ap (eqb e) (sym h) ∙ t) in cc,
        w q ∙ ap (λ b. cond b o (tree.get nat_cmp m q)) (unsigned_tied e q ∙ t),
      )
    ] refl

entry_here : (m n : Entries) (e : ℕ) (o : Option Keyed) → Writes m n e o → tree.get nat_cmp n e ≡ o
entry_here m n e o w = ⊎_elim (λ r. r.1) (λ r. absurd (r.0 refl)) (entry_after m n e o w e)

entry_other : (m n : Entries) (e : ℕ) (o : Option Keyed) → Writes m n e o → (q : ℕ) → q ≢ e → tree.get nat_cmp n q ≡ tree.get nat_cmp m q
entry_other m n e o w q other = ⊎_elim (λ r. absurd (other r.0)) (λ r. r.1) (entry_after m n e o w q)

-- the entry that is there, written once more
pub same_when_rewritten : (m n : Entries) (e : ℕ) (x : Keyed) → tree.get nat_cmp m e ≡ Some x → Writes m n e (Some x) → AreSameEntries m n
same_when_rewritten m n e x at w q =
    ⊎_elim (λ r. r.1 ∙ (sym at ∙ ap (tree.get nat_cmp m) (sym r.0))) (λ r. r.1) (entry_after m n e (Some x) w q)

-- an entry put and taken out again
pub same_when_back : (m n o : Entries) (e : ℕ) (x : Keyed) → tree.get nat_cmp m e ≡ None → Writes m n e (Some x) → Writes n o e None →
    AreSameEntries m o
same_when_back m n o e x none w v q =
    ⊎_elim (λ p. p.1 ∙ (sym none ∙ ap (tree.get nat_cmp m) (sym p.0))) (λ p. p.1 ∙ entry_other m n e (Some x) w q p.0)
    (entry_after n o e None v q)

not_one : (e q : ℕ) → q ≢ e → eqb q e ≡ false
not_one e q n = elim (eqb q e) as (λ t. eqb q e ≡ t → t ≡ false) [
  | true ↦ λ t. absurd (n (sym (number_is q e t)))
  | false ↦ λ t. refl
] refl

module _ (m : map.FinMap nat_cmp Location) (e q : ℕ) where
  insert_here : (p : Location) → q ≡ e → map.get (map.insert m e p) q ≡ Some p
  insert_here p h =
      map.get-insert nat_cmp_total m e p q
      ∙ ap (λ b. cond b (Some p) (map.get m q)) (unsigned_tied q e ∙ (ap (λ x. eqb x e) h ∙ same_again e))

  insert_other : (p : Location) → q ≢ e → map.get (map.insert m e p) q ≡ map.get m q
  insert_other p n =
      map.get-insert nat_cmp_total m e p q ∙ ap (λ b. cond b (Some p) (map.get m q)) (unsigned_tied q e ∙ not_one e q n)

  remove_here : q ≡ e → map.get (map.remove m e) q ≡ None
  remove_here h =
      map.get-remove nat_cmp_total m e q
      ∙ ap (λ b. cond b None (map.get m q)) (unsigned_tied q e ∙ (ap (λ x. eqb x e) h ∙ same_again e))

  remove_other : q ≢ e → map.get (map.remove m e) q ≡ map.get m q
  remove_other n =
      map.get-remove nat_cmp_total m e q ∙ ap (λ b. cond b None (map.get m q)) (unsigned_tied q e ∙ not_one e q n)

-- ---- the locations

pub locations_when_same : (m n : Entries) → AreSameEntries m n → locations_of n.entries ≡ locations_of m.entries
locations_when_same m n h =
    map.same_map nat_cmp_total map.nat_cmp-IsAntisymmetric _ _
    (λ q. location_of_entity n q ∙ (ap (option_map (λ x. x.location)) (h q) ∙ sym (location_of_entity m q)))

pub locations_when_put : (m n : Entries) (e : ℕ) (x : Keyed) → Writes m n e (Some x) →
    locations_of n.entries ≡ map.insert (locations_of m.entries) e x.location
locations_when_put m n e x w = map.same_map nat_cmp_total map.nat_cmp-IsAntisymmetric _ _ (λ q. location_of_entity n q ∙ ⊎_elim
    (λ h. ap (option_map (λ x. x.location)) h.1 ∙ sym (insert_here (locations_of m.entries) e q x.location h.0))
    (λ h. ap (option_map (λ x. x.location)) h.1
    ∙ (sym (location_of_entity m q) ∙ sym (insert_other (locations_of m.entries) e q x.location h.0)))
    (entry_after m n e (Some x) w q))

pub locations_when_removed : (m n : Entries) (e : ℕ) → Writes m n e None → locations_of n.entries ≡ map.remove (locations_of m.entries) e
locations_when_removed m n e w = map.same_map nat_cmp_total map.nat_cmp-IsAntisymmetric _ _ (λ q. location_of_entity n q ∙ ⊎_elim
    (λ h. ap (option_map (λ x. x.location)) h.1 ∙ sym (remove_here (locations_of m.entries) e q h.0))
    (λ h. ap (option_map (λ x. x.location)) h.1 ∙ (sym (location_of_entity m q) ∙ sym (remove_other (locations_of m.entries) e q h.0)))
    (entry_after m n e None w q))

none_by : (o : Option Keyed) → option_map (λ x. x.location) o ≡ None → o ≡ None
none_by None h = refl
none_by (Some x) h = absurd (none_some x.location (sym h))

-- an entity that has no location has no entry
pub none_of_location : (m : Entries) (e : ℕ) → map.get (locations_of m.entries) e ≡ None → tree.get nat_cmp m e ≡ None
none_of_location m e h = none_by (tree.get nat_cmp m e) (sym (location_of_entity m e) ∙ h)

pair_of : (r t : ℕ × Location) → Some r ≡ Some t → (r.0 ≡ t.0) × (r.1 ≡ t.1)
pair_of r t h = let e = some_is r t h in (ap (λ r. r.0) e, ap (λ r. r.1) e)

-- ---- moved

moved_here : (s t : Slab Spot) (key : ℕ) (p : Location) → IsMoved s t key p → (k : ℕ) → k ≡ key →
    seen_at t k ≡ option_map (moved_to p) (seen_at s k)
moved_here s t key p h k e =
    h k ∙ ap (λ b. cond b (option_map (moved_to p) (seen_at s k)) (seen_at s k)) (ap (eqb key) e ∙ same_again key)

moved_other : (s t : Slab Spot) (key : ℕ) (p : Location) → IsMoved s t key p → (k : ℕ) → k ≢ key → seen_at t k ≡ seen_at s k
moved_other s t key p h k n =
    h k ∙ ap (λ b. cond b (option_map (moved_to p) (seen_at s k)) (seen_at s k)) (not_one k key (λ e. n (sym e)))

-- ---- the entries, when they and the spots change

abbrev of_key : ℕ → Location → Keyed
of_key k p = record { key = k; location = p }

-- two entities have two keys
keys_apart : {Z : Type 0} (m : Entries) (s : Slab Spot) (b : Buckets Z) → IsIndexed m s b → (q e : ℕ) (x y : Keyed) →
    tree.get nat_cmp m q ≡ Some x → tree.get nat_cmp m e ≡ Some y → q ≢ e → x.key ≢ y.key
keys_apart m s b i q e x y at there n same =
    n (pair_of (q, x.location) (e, y.location) (sym (i.keyed q x at) ∙ (ap (seen_at s) same ∙ i.keyed e y there))).0

there_by : (o : Option Spot) (x : ℕ × Location) → option_map seen o ≡ Some x → (y : Spot) × (o ≡ Some y)
there_by None x h = absurd (none_some x h)
there_by (Some y) x h = (y, refl)

-- an entry's key has a spot
pub spot_of_key : {Z : Type 0} (m : Entries) (s : Slab Spot) (b : Buckets Z) → IsIndexed m s b → (e : ℕ) (x : Keyed) →
    tree.get nat_cmp m e ≡ Some x → (y : Spot) × (get s x.key ≡ Some y)
spot_of_key m s b i e x at = there_by (get s x.key) (e, x.location) (i.keyed e x at)

module _ {Z : Type 0} (m n : Entries) (s t : Slab Spot) (b c : Buckets Z) (i : IsIndexed m s b) (l : AreLinked t c)
    (o : tree.IsOrdered nat_cmp n) where
  -- nothing but ranks changed
  pub indexed_when_same : AreSameEntries m n → AreSameLocations s t → IsIndexed n t c
  indexed_when_same g h = record {
    ordered = o;
    keyed = λ e x at. h x.key ∙ i.keyed e x (sym (g e) ∙ at);
    known = λ k e p at. g e ∙ i.known k e p (sym (h k) ∙ at);
    linked = l;
  }

  module _ (e : ℕ) (x : Keyed) (there : tree.get nat_cmp m e ≡ Some x) where
    -- an entity that has this key is this one
    is_this : (q k : ℕ) (p : Location) → seen_at s k ≡ Some (q, p) → k ≢ x.key → q ≢ e
    is_this q k p at n same =
        n (ap (λ w. w.key) (some_is (of_key k p) x (sym (i.known k q p at) ∙ (ap (tree.get nat_cmp m) same ∙ there))))

    -- a moved entity
    module _ (p : Location) (h : IsMoved s t x.key p) (w : Writes m n e (Some (of_key x.key p))) where
      seen_moved : seen_at t x.key ≡ Some (e, p)
      seen_moved = moved_here s t x.key p h x.key refl ∙ ap (option_map (moved_to p)) (i.keyed e x there)

      pub indexed_when_moved : IsIndexed n t c
      indexed_when_moved = record {
        ordered = o;
        keyed = λ q y at. elim (entry_after m n e (Some (of_key x.key p)) w q) [
          | inl r ↦ subst (λ z. seen_at t z.key ≡ Some (q, z.location)) (some_is (of_key x.key p) y (sym r.1 ∙ at))
              (seen_moved ∙ (λ j. Some (sym r.0 j, p)))
          | inr r ↦ let was = sym r.1 ∙ at in
              moved_other s t x.key p h y.key (keys_apart m s b i q e y x was there r.0) ∙ i.keyed q y was
        ];
        known = λ k q z at. elim (is_or_not x.key k) [
          | inl r ↦ let f = pair_of (e, p) (q, z) (sym seen_moved ∙ (ap (seen_at t) (sym r) ∙ at)) in
              ap (tree.get nat_cmp n) (sym f.0)
              ∙ (entry_here m n e (Some (of_key x.key p)) w ∙ (λ j. Some (of_key (sym r j) (f.1 j))))
          | inr r ↦ let was = sym (moved_other s t x.key p h k r) ∙ at in
              entry_other m n e (Some (of_key x.key p)) w q (is_this q k z was r) ∙ i.known k q z was
        ];
        linked = l;
      }

    -- an entity that is taken out
    module _ (u : Slab Spot) (w : Writes m n e None) (out : Updates s u x.key None) (same : AreSameLocations u t) where
      seen_when_out : (k : ℕ) → k ≢ x.key → seen_at t k ≡ seen_at s k
      seen_when_out k other = same k ∙ ap (option_map seen) (out.others k other)

      pub indexed_when_out : IsIndexed n t c
      indexed_when_out = record {
        ordered = o;
        keyed = λ q y at. elim (entry_after m n e None w q) [
          | inl r ↦ absurd (none_some y (sym r.1 ∙ at))
          | inr r ↦ let was = sym r.1 ∙ at in seen_when_out y.key (keys_apart m s b i q e y x was there r.0) ∙ i.keyed q y was
        ];
        known = λ k q p at. elim (is_or_not x.key k) [
          | inl r ↦ absurd (none_some (q, p) (sym (same k ∙ ap (option_map seen) (ap (get u) r ∙ out.changed)) ∙ at))
          | inr r ↦ let was = sym (seen_when_out k r) ∙ at in
              entry_other m n e None w q (is_this q k p was r) ∙ i.known k q p was
        ];
        linked = l;
      }

  -- a new entity
  module _ (e key : ℕ) (x : Spot) (absent : tree.get nat_cmp m e ≡ None) (none : get s key ≡ None)
      (w : Writes m n e (Some (of_key key x.location))) (u : Updates s t key (Some x)) (name : x.entity ≡ e) where
    seen_when_written : (k : ℕ) → k ≢ key → seen_at t k ≡ seen_at s k
    seen_when_written k other = ap (option_map seen) (u.others k other)

    no_key : (q : ℕ) (y : Keyed) → tree.get nat_cmp m q ≡ Some y → y.key ≢ key
    no_key q y at same = none_some (q, y.location) (sym (ap (option_map seen) (ap (get s) same ∙ none)) ∙ i.keyed q y at)

    pub indexed_when_new : IsIndexed n t c
    indexed_when_new = record {
      ordered = o;
      keyed = λ q y at. elim (entry_after m n e (Some (of_key key x.location)) w q) [
        | inl r ↦ subst (λ z. seen_at t z.key ≡ Some (q, z.location)) (some_is (of_key key x.location) y (sym r.1 ∙ at))
            (ap (option_map seen) u.changed ∙ (λ j. Some ((name ∙ sym r.0) j, x.location)))
        | inr r ↦ let was = sym r.1 ∙ at in seen_when_written y.key (no_key q y was) ∙ i.keyed q y was
      ];
      known = λ k q p at. elim (is_or_not key k) [
        | inl r ↦ let f = pair_of (seen x) (q, p) (sym (ap (option_map seen) (ap (get t) r ∙ u.changed)) ∙ at) in
            ap (tree.get nat_cmp n) (sym f.0 ∙ name)
            ∙ (entry_here m n e (Some (of_key key x.location)) w ∙ (λ j. Some (of_key (sym r j) (f.1 j))))
        | inr r ↦ let was = sym (seen_when_written k r) ∙ at in
            let had = i.known k q p was in
            entry_other m n e (Some (of_key key x.location)) w q
            (λ same. none_some (of_key k p) (sym absent ∙ (ap (tree.get nat_cmp m) (sym same) ∙ had)))
            ∙ had
      ];
      linked = l;
    }

pub on_err : {T E P : Type 0} (r : Result T E) → P → OnErr r P
on_err (Ok x) h = tt
on_err (Err x) h = h

-- a slab that has other room alone
pub same_slots : (s r : Slab Spot) → r ≡ record s { capacity = r.capacity } → (k : ℕ) → get r k ≡ get s k
same_slots s r h k = ap (λ x. get x k) h

pub updates_past : (s r t : Slab Spot) (key : ℕ) (slot : Option Spot) → ((k : ℕ) → get r k ≡ get s k) → Updates r t key slot →
    Updates s t key slot
updates_past s r t key slot g u = record { changed = u.changed; others = λ k n. u.others k n ∙ g k }
