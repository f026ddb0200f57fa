-- Residents by their numbers, and the list of them in rising number.
use Rattle.std.proofs.Common.{◌≡◌, ℕ, Bool, List, [], ◌∷◌, map, Option, None, Some, refl, sym, ap, ◌∙◌, subst, arith, inl, inr}
use Rattle.std.specs.Prelude.{Contains}
use Rattle.std.specs.List.Sorted.{IsStrictlyIncreasing}
use Rattle.std.specs.Option.{option_map}
use Rattle.std.specs.Ordering.{nat_cmp}
use Rattle.std.specs.Cmp.{nat_cmp_total}
use Rattle.std.specs.BTreeMap.{BTreeMap, get, keys, values}
use Rattle.std.proofs.Math.ListN.{get_or-map}
use Rattle.std.proofs.lemmas.List.{length-map}
use Rattle.std.proofs.lemmas.Option.{none-some}
use Rattle.std.proofs.lemmas.Map.Keys.{IsStrictlyIncreasing-from_sorted}
use Rattle.std.proofs.lemmas.Map.Lookups.{exact_unsigned}
use Rattle.std.proofs.lemmas.Map.Views.{btree_map_get_iff}
use Rattle.seam_call.specs.declared.create.Create.{Create}
use Rattle.seam_rule_lines.proofs.Lists.{contains_first, contains_later, contains_cases}
use Rattle.seam_world_text.specs.Residents.{ListsResidents, IsByNumber}
use Rattle.seam_world_text.specs.declared.residents.Resident.{Resident}

-- ---- elements of a list that was mapped

pub mapped : {X Y : Type 0} (f : X → Y) (xs : List X) (x : X) → Contains xs x → Contains (map f xs) (f x)
mapped f xs x (k, within, is) = (k, rw (length-map xs f) within, get_or-map f xs k x ∙ ap f is)

pub unmapped : {X Y : Type 0} (f : X → Y) (xs : List X) (y : Y) → Contains (map f xs) y → (x : X) × Contains xs x × (f x ≡ y)
unmapped f [] y (k, within, is) = absurd (omega arith)
unmapped f (x ∷ xs) y has = elim (contains_cases (f x) y (map f xs) has) [
  | inl same ↦ (x, contains_first x xs, same)
  | inr later ↦ (let z = unmapped f xs y later in (z.0, contains_later x z.0 xs z.1, z.2))
]

-- ---- a map of residents

-- an entity that was made so, with a client where it has one
abbrev pub resident_of : (ℕ → Bool) → Create → Resident
resident_of has c = record { made = c; client = has c.entity }

-- the entity of a number has that number
abbrev pub AreNamed : (ℕ → Option Create) → Type 0
AreNamed entities = (e : ℕ) (c : Create) → entities e ≡ Some c → c.entity ≡ e

-- the map has each of the entities
abbrev pub Has : (ℕ → Option Create) → (ℕ → Bool) → BTreeMap ℕ Resident → Type 0
Has entities has m = (e : ℕ) → get nat_cmp m e ≡ option_map (resident_of has) (entities e)

module _ (entities : ℕ → Option Create) (has : ℕ → Bool) (named : AreNamed entities) (m : BTreeMap ℕ Resident) (by : IsByNumber m) where
  entry : (e : ℕ) (r : Resident) → get nat_cmp m e ≡ Some r → Contains (values m) r
  entry e r is =
      mapped (λ (x : ℕ × Resident). x.1) m.entries (e, r) ((btree_map_get_iff nat_cmp_total exact_unsigned m by.ordered e r).0 is)

  found : (r : Resident) → Contains (values m) r → get nat_cmp m r.made.entity ≡ Some r
  found r is =
      let x = unmapped (λ (y : ℕ × Resident). y.1) m.entries r is in
      let at : get nat_cmp m x.0.0 ≡ Some r = (btree_map_get_iff nat_cmp_total exact_unsigned m by.ordered x.0.0 r).1
      (subst (λ (s : Resident). Contains m.entries (x.0.0, s)) x.2 x.1) in
      ap (get nat_cmp m) (by.named x.0.0 r at) ∙ at

  -- ---- from the list

  module _ (l : ListsResidents entities has (values m)) where
    there : (e : ℕ) (r : Resident) → get nat_cmp m e ≡ Some r → Some r ≡ option_map (resident_of has) (entities e)
    there e r is =
        let in_list = entry e r is in
        let number = by.named e r is in
        let made : entities e ≡ Some r.made =
        ap entities (sym number) ∙ (l.listed.exact r.made).0 (mapped (λ (x : Resident). x.made) (values m) r in_list) in
        ap (λ b. Some (record { made = r.made; client = b })) (l.clients r in_list) ∙ ap (option_map (resident_of has)) (sym made)

    absent : (e : ℕ) (o : Option Create) → get nat_cmp m e ≡ None → entities e ≡ o → None ≡ option_map (resident_of has) o
    absent e None none is = refl
    absent e (Some c) none is =
        let number = named e c is in
        let r = unmapped (λ (x : Resident). x.made) (values m) c ((l.listed.exact c).1 (ap entities number ∙ is)) in
        let at = found r.0 r.1 in
        absurd (none-some r.0 (sym none ∙ ap (get nat_cmp m) (sym (ap (λ (d : Create). d.entity) r.2 ∙ number)) ∙ at))

    has_by : (e : ℕ) (o : Option Resident) → get nat_cmp m e ≡ o → o ≡ option_map (resident_of has) (entities e)
    has_by e None is = absent e (entities e) is refl
    has_by e (Some r) is = there e r is

    pub from_list : Has entities has m
    from_list e = has_by e (get nat_cmp m e) refl

  -- ---- to the list

  module _ (all : Has entities has m) where
    made_by : (e : ℕ) (r : Resident) (o : Option Create) → entities e ≡ o → Some r ≡ option_map (resident_of has) o →
        (entities e ≡ Some r.made) × (r.client ≡ has r.made.entity)
    made_by e r None is same = absurd (none-some r (sym same))
    made_by e r (Some c) is same =
        let one : r ≡ resident_of has c = cc in (
          is ∙ ap (λ (s : Resident). Some s.made) (sym one),
          ap (λ (s : Resident). s.client) one ∙ ap (λ (s : Resident). has s.made.entity) (sym one),
        )

    made_so : (r : Resident) → Contains (values m) r → (entities r.made.entity ≡ Some r.made) × (r.client ≡ has r.made.entity)
    made_so r is = made_by r.made.entity r (entities r.made.entity) refl (sym (found r is) ∙ all r.made.entity)

    is_listed : (c : Create) → entities c.entity ≡ Some c → Contains (map (λ r. r.made) (values m)) c
    is_listed c is =
        mapped (λ (x : Resident). x.made) (values m) (resident_of has c)
        (entry c.entity (resident_of has c) (all c.entity ∙ ap (option_map (resident_of has)) is))

    made_listed : (c : Create) → Contains (map (λ r. r.made) (values m)) c → entities c.entity ≡ Some c
    made_listed c is =
        let r = unmapped (λ (x : Resident). x.made) (values m) c is in
        subst (λ (d : Create). entities d.entity ≡ Some d) r.2 (made_so r.0 r.1).0

    numbers_by : (xs : List (ℕ × Resident)) → ((x : ℕ × Resident) → Contains xs x → x.1.made.entity ≡ x.0) →
        map (λ (c : Create). c.entity) (map (λ (r : Resident). r.made) (map (λ (x : ℕ × Resident). x.1) xs))
        ≡ map (λ (x : ℕ × Resident). x.0) xs
    numbers_by [] each = refl
    numbers_by (x ∷ xs) each =
        (λ i. each x (contains_first x xs) i ∷ numbers_by xs (λ y has. each y (contains_later x y xs has)) i)

    pub to_list : ListsResidents entities has (values m)
    to_list = record {
      listed = record {
        rising =
            subst IsStrictlyIncreasing
            (sym (numbers_by m.entries
            (λ x has. by.named x.0 x.1 ((btree_map_get_iff nat_cmp_total exact_unsigned m by.ordered x.0 x.1).1 has))))
            (IsStrictlyIncreasing-from_sorted (keys m) by.ordered);
        exact = λ c. (made_listed c, is_listed c);
      };
      clients = λ r is. (made_so r is).1;
    }
