-- Members read one by one into a list: what a loop over them keeps.
use Rattle.std.proofs.Common.{◌≡◌, ℕ, List, [], ◌∷◌, ◌++◌, map, true, String, Global, Less, string_bytes, refl, ap}
use Rattle.std.specs.Prelude.{IsTrue}
use Rattle.std.specs.List.Sorted.{IsStrictlySortedBy}
use Rattle.std.specs.List.{AllByRecursion, list_all}
use Rattle.std.specs.String.{string_cmp}
use Rattle.std.specs.Map.{keys_of}
use Rattle.toml.proofs.Views.{Entry}
use Rattle.toml.specs.View.{members_view, view}
use Rattle.toml.specs.Data.{Data, Members, no_members, member, Items, no_items, item}
use Rattle.seam_defs.specs.Types.{is_name, is_before, are_rising}
use Rattle.seam_toml.specs.Tables.{Each, EachItem}

-- What was read so far and whatever the rest defines are defined by the whole, and where the whole defines a list, so does the rest.
pub record IsPartOf {X : Type 0} (R : List ℕ → Data → X → Type 0) (whole rest : Members) (done : List X) : Type 0 where
  pub more : (xs : List X) → Each R rest xs → Each R whole (done ++ xs)
  pub back : (xs : List X) → Each R whole xs → (ys : List X) × Each R rest ys

joined : {X : Type 0} (done : List X) (x : X) (xs : List X) → (done ++ x ∷ []) ++ xs ≡ done ++ x ∷ xs
joined [] x xs = refl
joined (d ∷ done) x xs = ap (λ ys. d ∷ ys) (joined done x xs)

plus_none : {X : Type 0} (done : List X) → done ++ [] ≡ done
plus_none [] = refl
plus_none (d ∷ done) = ap (λ ys. d ∷ ys) (plus_none done)

module _ {X : Type 0} (R : List ℕ → Data → X → Type 0) where
  pub at_start : (whole : Members) → IsPartOf R whole whole []
  at_start whole = record { more = λ xs h. h; back = λ xs h. (xs, h) }

  tail_of : (key : List ℕ) (d : Data) (rest : Members) (xs : List X) → Each R (member key d rest) xs → (ys : List X) × Each R rest ys
  tail_of key d rest [] h = absurd h
  tail_of key d rest (x ∷ xs) h = (xs, h.1)

  pub one_more : (whole : Members) (key : List ℕ) (d : Data) (rest : Members) (done : List X) (x : X) → R key d x →
      IsPartOf R whole (member key d rest) done → IsPartOf R whole rest (done ++ x ∷ [])
  one_more whole key d rest done x here so_far = record {
    more = λ xs h. rw (joined done x xs) (so_far.more (x ∷ xs) (here, h));
    back = λ xs h. let w = so_far.back xs h in tail_of key d rest w.0 w.1;
  }

  head_of : (key : List ℕ) (d : Data) (rest : Members) (xs : List X) → Each R (member key d rest) xs → (x : X) × R key d x
  head_of key d rest [] h = absurd h
  head_of key d rest (x ∷ xs) h = (x, h.0)

  -- where a member defines nothing, the whole does not either
  pub none_more : (whole : Members) (key : List ℕ) (d : Data) (rest : Members) (done : List X) → ((x : X) → ¬ (R key d x)) →
      IsPartOf R whole (member key d rest) done → (xs : List X) → ¬ (Each R whole xs)
  none_more whole key d rest done none so_far xs h =
      let w = so_far.back xs h in let one = head_of key d rest w.0 w.1 in none one.0 one.1

  pub all_read : (whole : Members) (done : List X) → IsPartOf R whole no_members done → Each R whole done
  all_read whole done so_far = rw (← plus_none done) (so_far.more [] tt)

-- ---- the same of items

pub record AreItemsOf {X : Type 0} (R : Data → X → Type 0) (whole rest : Items) (done : List X) : Type 0 where
  pub more : (xs : List X) → EachItem R rest xs → EachItem R whole (done ++ xs)
  pub back : (xs : List X) → EachItem R whole xs → (ys : List X) × EachItem R rest ys

module _ {X : Type 0} (R : Data → X → Type 0) where
  pub items_at_start : (whole : Items) → AreItemsOf R whole whole []
  items_at_start whole = record { more = λ xs h. h; back = λ xs h. (xs, h) }

  items_after : (d : Data) (rest : Items) (xs : List X) → EachItem R (item d rest) xs → (ys : List X) × EachItem R rest ys
  items_after d rest [] h = absurd h
  items_after d rest (x ∷ xs) h = (xs, h.1)

  pub one_more_item : (whole : Items) (d : Data) (rest : Items) (done : List X) (x : X) → R d x →
      AreItemsOf R whole (item d rest) done → AreItemsOf R whole rest (done ++ x ∷ [])
  one_more_item whole d rest done x here so_far = record {
    more = λ xs h. rw (joined done x xs) (so_far.more (x ∷ xs) (here, h));
    back = λ xs h. let w = so_far.back xs h in items_after d rest w.0 w.1;
  }

  first_item : (d : Data) (rest : Items) (xs : List X) → EachItem R (item d rest) xs → (x : X) × R d x
  first_item d rest [] h = absurd h
  first_item d rest (x ∷ xs) h = (x, h.0)

  pub no_more_items : (whole : Items) (d : Data) (rest : Items) (done : List X) → ((x : X) → ¬ (R d x)) →
      AreItemsOf R whole (item d rest) done → (xs : List X) → ¬ (EachItem R whole xs)
  no_more_items whole d rest done none so_far xs h =
      let w = so_far.back xs h in let one = first_item d rest w.0 w.1 in none one.0 one.1

  pub all_items_read : (whole : Items) (done : List X) → AreItemsOf R whole no_items done → EachItem R whole done
  all_items_read whole done so_far = rw (← plus_none done) (so_far.more [] tt)

-- ---- names rise as keys do

module _ {X : Type 0} (R : List ℕ → Data → X → Type 0) (name : X → List ℕ) (named : (key : List ℕ) (d : Data) (x : X) → R key d x →
    (name x ≡ key) × IsTrue (is_name key)) where
  names_after : (k : String Global) (es : List Entry) (xs : List X) → AllByRecursion (λ y. string_cmp k y ≡ Less) (keys_of es) →
      Each R (members_view es) xs → list_all (is_before (string_bytes k)) (map name xs) ≡ true
  names_after k [] [] less h = refl
  names_after k [] (x ∷ xs) less h = absurd h
  names_after k (e ∷ es) [] less h = absurd h
  names_after k (e ∷ es) (x ∷ xs) less h =
      rw ((named (string_bytes e.0) (view e.1) x h.0).0, less.0) (names_after k es xs less.1 h.1)

  pub rising_names : (es : List Entry) (xs : List X) → IsStrictlySortedBy string_cmp (keys_of es) → Each R (members_view es) xs →
      are_rising (map name xs) ≡ true
  unfolding IsStrictlySortedBy
  rising_names [] [] sorted h = refl
  rising_names [] (x ∷ xs) sorted h = absurd h
  rising_names (e ∷ es) [] sorted h = absurd h
  rising_names (e ∷ es) (x ∷ xs) sorted h =
      let first = named (string_bytes e.0) (view e.1) x h.0 in
      rw (first.0, first.1, names_after e.0 es xs sorted.0 h.1) (rising_names es xs sorted.1 h.1)
