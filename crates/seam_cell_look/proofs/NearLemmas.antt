-- What the lists of locations give is what is known of others that are near.
use Rattle.std.proofs.Common.{◌≡◌, ◌+◌, ◌++◌, ℕ, Bool, true, false, cond, not, eqb, T, List, [], ◌∷◌, map, find}
use Rattle.std.proofs.Common.{Option, None, Some, is_some, refl, sym, ap, ◌∙◌, arith}
use Rattle.std.specs.Prelude.{nat_lt, nat_le, nat_eq, option_map}
use Rattle.std.specs.List.{filter}
use Rattle.std.specs.Ordering.{nat_cmp}
use Rattle.std.specs.FinMap as table
use Rattle.std.specs.FinMap.Entries.{is_sorted}
use Rattle.std.proofs.lemmas.Bool.Decides.{nat_tests}
use Rattle.seam_node_steps.specs.Prelude.{Pos, distance, copy_in, GhostCopy, RealView, Known, seen_as, known_of, shown_of_known, CellView}
use Rattle.seam_node_steps.specs.Prelude.{known_to, or_else, known_by, known_at, unless_self}
use Rattle.seam_range.specs.declared.Location.{Location}
use Rattle.seam_range.specs.Locations.{Locations, is_within, within}
use Rattle.seam_view.specs.declared.Seen.{Seen}
use Rattle.seam_view.specs.Replica.{Replica, seen_of}
use Rattle.seam_node_steps.specs.CellLooks.{is_of}
use Rattle.seam_node_steps.proofs.Sorted.{passing, find_filter, sorted_filter, find_mapped, sorted_mapped}
use Rattle.seam_node_steps.proofs.Knowing.{known_rises, known_to_is, known_of_others}
use Rattle.seam_cell_parts.specs.Spots.{AreNoted, location_of_real, location_of_copy, real_locations, copy_locations, located_reals}
use Rattle.seam_cell_parts.specs.Spots.{located_copies}
use Rattle.seam_cell_parts.proofs.SpotLemmas.{real_list, reals_rise, copy_list, copies_list_rise}
use Rattle.seam_cell_seen.specs.Merging.{seen_at_location, is_other, without_reals, merged}
use Rattle.seam_cell_look.specs.Near.{is_near, HasNear, seen_of_entity, location_within, AreNear}
use Rattle.seam_cell_seen.proofs.Merges.{rising_merged, find_merged, same_locations}

-- ---- what is known, by locations

abbrev location_of : ℕ → GhostCopy → Location
location_of e g = location_of_copy g

abbrev with_location : Known → ℕ × Location
with_location k = (k.0, location_of k.0 k.1)

seen_with_location : (ks : List Known) → map seen_as ks ≡ map seen_at_location (map with_location ks)
seen_with_location [] = refl
seen_with_location (k ∷ ks) = ap (λ l. seen_as k ∷ l) (seen_with_location ks)

filter_mapped : {A B : Type 0} (f : A → B) (t : B → Bool) (xs : List A) → filter t (map f xs) ≡ map f (filter (λ x. t (f x)) xs)
filter_mapped f t [] = refl
filter_mapped f t (x ∷ xs) = by (t (f x)) (filter_mapped f t xs)
  where
    by : (b : Bool) → filter t (map f xs) ≡ map f (filter (λ y. t (f y)) xs) →
        cond b (f x ∷ filter t (map f xs)) (filter t (map f xs))
        ≡ map f (cond b (x ∷ filter (λ y. t (f y)) xs) (filter (λ y. t (f y)) xs))
    by true rest = ap (λ l. f x ∷ l) rest
    by false rest = rest

-- what two lists have of others, where each has the locations that pass the test
module _ (d : CellView) (own : ℕ) (t : Seen → Bool) (reals copies : List (ℕ × Location)) (reals_sorted : T (is_sorted nat_cmp reals))
    (copies_sorted : T (is_sorted nat_cmp copies)) where
  abbrev test : ℕ × Location → Bool
  test x = t (seen_at_location x)

  abbrev only_copies : List (ℕ × Location)
  only_copies = without_reals d.reals copies

  -- what is found where there is no real
  abbrev where_none : Bool → Option Location → Option Location
  where_none b None = None
  where_none b (Some x) = cond (not b) (Some x) None

  passing_none : (q : ℕ) (o : Option Location) →
      passing (λ x. not (is_some (table.get d.reals x.0))) q o ≡ where_none (is_some (table.get d.reals q)) o
  passing_none q None = refl
  passing_none q (Some x) = refl

  -- what is known of another one
  known_location : (q : ℕ) (x : Option RealView) (c : Option GhostCopy) →
      or_else (passing test q (option_map location_of_real x))
      (where_none (is_some x) (passing test q (option_map location_of_copy c)))
      ≡ passing test q (option_map (location_of q) (known_by d.here x c))
  known_location q (Some x) c = by (test (q, location_of_real x)) (passing test q (option_map location_of_copy c))
    where
      by : (b : Bool) (o : Option Location) →
          or_else (cond b (Some (location_of_real x)) None) (where_none true o) ≡ cond b (Some (location_of_real x)) None
      by true o = refl
      by false None = refl
      by false (Some y) = refl
  known_location q None None = refl
  known_location q None (Some c) = by (test (q, location_of_copy c))
    where
      by : (b : Bool) → or_else None (where_none false (cond b (Some (location_of_copy c)) None)) ≡ cond b (Some (location_of_copy c)) None
      by true = refl
      by false = refl

  apart_or_own : (q : ℕ) (x y : Option Location) (o : Option GhostCopy) →
      (eqb own q ≡ false → or_else x y ≡ passing test q (option_map (location_of q) o)) →
      passing (is_other own) q (or_else x y) ≡ passing test q (option_map (location_of q) (unless_self own q o))
  apart_or_own q x y o are = by (eqb q own) refl (or_else x y) are
    where
      no_one : (b : Bool) (z : Option Location) → b ≡ false → passing (λ _. b) q z ≡ None
      no_one b None is = refl
      no_one b (Some z) is = ap (λ c. cond c (Some z) None) is

      all_of : (b : Bool) (z : Option Location) → b ≡ true → passing (λ _. b) q z ≡ z
      all_of b None is = refl
      all_of b (Some z) is = ap (λ c. cond c (Some z) None) is

      turned : (b : Bool) → eqb q own ≡ b → eqb own q ≡ b
      turned true is = grind (arith, nat_tests, is)
      turned false is = grind (arith, nat_tests, is)

      as_one : (z : Option Location) → passing (is_other own) q z ≡ passing (λ _. not (eqb q own)) q z
      as_one None = refl
      as_one (Some z) = refl

      by : (b : Bool) → eqb q own ≡ b → (z : Option Location) → (eqb own q ≡ false → z ≡ passing test q (option_map (location_of q) o)) →
          passing (is_other own) q z ≡ passing test q (option_map (location_of q) (cond (not (eqb q own)) o None))
      by true is z are =
          as_one z
          ∙ (no_one (not (eqb q own)) z (ap not is) ∙ sym (ap (λ c. passing test q (option_map (location_of q) (cond (not c) o None))) is))
      by false is z are =
          as_one z
          ∙ (all_of (not (eqb q own)) z (ap not is)
          ∙ (are (turned false is) ∙ sym (ap (λ c. passing test q (option_map (location_of q) (cond (not c) o None))) is)))

  only_copies_rise : T (is_sorted nat_cmp only_copies)
  only_copies_rise = sorted_filter (λ x. not (is_some (table.get d.reals x.0))) copies copies_sorted

  module _ (reals_are : (q : ℕ) → eqb own q ≡ false → table.find nat_cmp q reals ≡ passing test q (real_locations d.reals q))
      (copies_are : (q : ℕ) → eqb own q ≡ false → table.find nat_cmp q copies ≡ passing test q (copy_locations d.ghosts q)) where
    found_copy : (q : ℕ) → eqb own q ≡ false →
        table.find nat_cmp q only_copies ≡ where_none (is_some (table.get d.reals q)) (passing test q (copy_locations d.ghosts q))
    found_copy q apart =
        find_filter (λ x. not (is_some (table.get d.reals x.0))) q copies copies_sorted
        ∙ (passing_none q (table.find nat_cmp q copies) ∙ ap (where_none (is_some (table.get d.reals q))) (copies_are q apart))

    same_locations_of_others : filter (is_other own) (merged reals only_copies) ≡ filter test (map with_location (known_to d own))
    same_locations_of_others =
        let locations = sorted_mapped location_of (known_to d own) (known_rises d own) in
        let both = rising_merged reals only_copies reals_sorted only_copies_rise in
        same_locations (filter (is_other own) (merged reals only_copies)) (filter test (map with_location (known_to d own)))
        (sorted_filter (is_other own) (merged reals only_copies) both) (sorted_filter test (map with_location (known_to d own)) locations)
        (λ q. find_filter (is_other own) q (merged reals only_copies) both
        ∙ (ap (passing (is_other own) q) (find_merged q reals only_copies reals_sorted)
        ∙ (apart_or_own q (table.find nat_cmp q reals) (table.find nat_cmp q only_copies) (known_at d q)
        (λ apart. (λ i. or_else (reals_are q apart i) (found_copy q apart i))
        ∙ known_location q (table.get d.reals q) (copy_in (table.get d.ghosts q)))
        ∙ sym (find_filter test q (map with_location (known_to d own)) locations
        ∙ ap (passing test q) (find_mapped location_of q (known_to d own) ∙ ap (option_map (location_of q)) (known_to_is d own q))))))

    pub joined_are : map seen_at_location (filter (is_other own) (merged reals only_copies)) ≡ filter t (map seen_as (known_to d own))
    joined_are =
        ap (map seen_at_location) same_locations_of_others
        ∙ (sym (filter_mapped seen_at_location t (map with_location (known_to d own)))
        ∙ ap (filter t) (sym (seen_with_location (known_to d own))))

-- ---- what is near, and all

-- within a reach of radius and hysteresis together is not far
within_near : (radius hysteresis reach a : ℕ) → reach ≡ radius + hysteresis → nat_le a reach ≡ not (nat_lt (radius + hysteresis) a)
within_near radius hysteresis reach a is = grind (arith, nat_tests, is)

module _ (p : Pos) (d own : ℕ) (location : ℕ → Option Location) where
  passing_within : (q : ℕ) (o : Option Location) → passing (λ e. is_within p d e.1) q o ≡ location_within p d o
  passing_within q None = refl
  passing_within q (Some x) = refl

  -- those of a list that is kept
  pub listed_near : (l : Locations) → AreNoted l (Some own) location → AreNear p d own location (within l p d)
  listed_near l are = record {
    rising = sorted_filter (λ e. is_within p d e.1) (table.entries l) (table.entries_sorted l);
    others = λ q apart.
        find_filter (λ e. is_within p d e.1) q (table.entries l) (table.entries_sorted l)
        ∙ (passing_within q (table.find nat_cmp q (table.entries l))
        ∙ ap (location_within p d) (sym (table.get-entries l q) ∙ are q apart));
  }

  -- those of all
  pub walked_near : (xs : List (ℕ × Location)) → T (is_sorted nat_cmp xs) → ((q : ℕ) → table.find nat_cmp q xs ≡ location q) →
      AreNear p d own location (filter (λ e. is_within p d e.1) xs)
  walked_near xs rising are = record {
    rising = sorted_filter (λ e. is_within p d e.1) xs rising;
    others = λ q apart.
        find_filter (λ e. is_within p d e.1) q xs rising
        ∙ (passing_within q (table.find nat_cmp q xs) ∙ ap (location_within p d) (are q));
  }

module _ (r : Replica) (p : Pos) (reach : ℕ) (is_reach : reach ≡ r.radius + r.hysteresis) where
  test_is : (q : ℕ) (x : Location) → is_within p reach x ≡ is_near r p (seen_at_location (q, x))
  test_is q x = within_near r.radius r.hysteresis reach (distance p x.pos) is_reach

  within_is : (q : ℕ) (o : Option Location) → location_within p reach o ≡ passing (λ x. is_near r p (seen_at_location x)) q o
  within_is q None = refl
  within_is q (Some x) = ap (λ b. cond b (Some x) None) (test_is q x)

  pub near_are : (d : CellView) (own : ℕ) (reals copies : List (ℕ × Location)) → AreNear p reach own (real_locations d.reals) reals →
      AreNear p reach own (copy_locations d.ghosts) copies →
      map seen_at_location (filter (is_other own) (merged reals (without_reals d.reals copies)))
      ≡ filter (is_near r p) (map seen_as (known_to d own))
  near_are d own reals copies reals_are copies_are =
      joined_are d own (is_near r p) reals copies reals_are.rising copies_are.rising
      (λ q apart. reals_are.others q apart ∙ within_is q (real_locations d.reals q))
      (λ q apart. copies_are.others q apart ∙ within_is q (copy_locations d.ghosts q))

all_kept : (xs : List Seen) → filter (λ _. true) xs ≡ xs
all_kept [] = refl
all_kept (x ∷ xs) = ap (λ l. x ∷ l) (all_kept xs)

all_pass : {X : Type 0} (q : ℕ) (o : Option X) → o ≡ passing (λ _. true) q o
all_pass q None = refl
all_pass q (Some x) = refl

pub all_are : (d : CellView) (own : ℕ) →
    map seen_at_location (filter (is_other own) (merged (located_reals d.reals) (without_reals d.reals (located_copies d.ghosts))))
    ≡ map seen_as (known_to d own)
all_are d own =
    joined_are d own (λ _. true) (located_reals d.reals) (located_copies d.ghosts) (reals_rise d.reals) (copies_list_rise d.ghosts)
    (λ q apart. real_list d.reals q ∙ all_pass q (real_locations d.reals q))
    (λ q apart. copy_list d.ghosts q ∙ all_pass q (copy_locations d.ghosts q))
    ∙ all_kept (map seen_as (known_to d own))

-- ---- of all that is known these are near, and maybe others

pub near_alone : (r : Replica) (p : Pos) (known seen : List Seen) → seen ≡ filter (is_near r p) known → HasNear r p known seen
near_alone r p known seen is = (is_near r p, λ s near. near, is)

pub near_and_far : (r : Replica) (p : Pos) (known seen : List Seen) → seen ≡ known → HasNear r p known seen
near_and_far r p known seen is = (λ _. true, λ s near. refl, is ∙ sym (all_kept known))

-- ---- what is seen of an entity

seen_in : (e : ℕ) (ks : List Known) → seen_of e (map seen_as ks) ≡ option_map (seen_of_entity e) (known_of e ks)
seen_in e [] = refl
seen_in e (k ∷ ks) = by (nat_eq k.0 e) refl (seen_in e ks)
  where
    by : (b : Bool) → nat_eq k.0 e ≡ b → seen_of e (map seen_as ks) ≡ option_map (seen_of_entity e) (known_of e ks) →
        cond b (Some (seen_as k)) (seen_of e (map seen_as ks))
        ≡ option_map (seen_of_entity e) (option_map shown_of_known (cond b (Some k) (find (is_of e) ks)))
    by true same rest = let key : k.0 ≡ e = grind (arith, nat_tests, same) in ap (λ n. Some (seen_of_entity n k.1)) key
    by false apart rest = rest

pub seen_known : (d : CellView) (own e : ℕ) →
    seen_of e (map seen_as (known_to d own)) ≡ option_map (seen_of_entity e) (unless_self own e (known_at d e))
seen_known d own e = seen_in e (known_to d own) ∙ ap (option_map (seen_of_entity e)) (known_of_others d own e)

pub own_unseen : (d : CellView) (own e : ℕ) → e ≡ own → None ≡ seen_of e (map seen_as (known_to d own))
own_unseen d own e same = sym (seen_known d own e ∙ ap (λ b. option_map (seen_of_entity e) (cond (not b) (known_at d e) None)) yes)
  where
    yes : eqb e own ≡ true
    yes = grind (arith, nat_tests, same)

pub other_seen : (d : CellView) (own e : ℕ) → (e ≡ own → ⊥) →
    option_map (seen_of_entity e) (known_at d e) ≡ seen_of e (map seen_as (known_to d own))
other_seen d own e apart = sym (seen_known d own e ∙ ap (λ b. option_map (seen_of_entity e) (cond (not b) (known_at d e) None)) no)
  where
    no : eqb e own ≡ false
    no = grind (arith, nat_tests, apart)
