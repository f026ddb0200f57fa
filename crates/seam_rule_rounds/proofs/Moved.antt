-- A round from a standing that differs from another one in where entities are held alone, as one from that other one: held where a round of
-- that one, which executes the same, leaves them.
use Rattle.std.proofs.Common.{◌≡◌, ℕ, Bool, true, false, List, [], ◌∷◌, map, None, ◌∙◌, ap, subst}
use Rattle.std.specs.Prelude.{MatchBool, All}
use Rattle.std.specs.List.{AllByRecursion, flat_map}
use Rattle.seam_rule_rounds.specs.Prelude.{Place, Create, GhostCopy, Shown, Own, Enter, Set, Leave, Header, Orders, live_as, tree_of}
use Rattle.seam_rule_rounds.specs.Prelude.{has_balance, with_round_ended, ShowsTruth, Standing, HasPlace, RoundData, IsOther, truth_of}
use Rattle.seam_rule_rounds.specs.Prelude.{ShowsClient, HasShown, HasLooked, home_line, ghost_lines, IsRound}
use Rattle.seam_rule_lines.proofs.Lists.{listed_is_one}

-- the standing with entities held elsewhere
abbrev pub held_at : Standing → (ℕ → Place) → Standing
held_at s places = record s { places = places }

pub second : (A B : Type 0) (b : Bool) → b ≡ false → MatchBool b A B → B
second A B true is both = let no : true ≡ false = is in cc
second A B false is both = both

as_second : (A B : Type 0) (b : Bool) → b ≡ false → B → MatchBool b A B
as_second A B true is one = let no : true ≡ false = is in cc
as_second A B false is one = one

-- ---- what clients are shown

module _ (h : Header) (s t : Standing) (old new : ℕ → Place) where
  other_moved : (e : ℕ) (copy : GhostCopy) → IsOther h (held_at s old) t e copy → IsOther h s (held_at t new) e copy
  other_moved e copy x = record { made = x.made; is = x.is; lived = x.lived; version = x.version; had = x.had; same = x.same }

  true_moved : (c : Create) (x : Shown) → ShowsTruth (truth_of h (held_at s old) t c) x → ShowsTruth (truth_of h s (held_at t new) c) x
  true_moved c (Own version state) so = so
  true_moved c (Enter e copy) so = other_moved e copy so
  true_moved c (Set e copy) so = other_moved e copy so
  true_moved c (Leave e) so = so

  all_moved : (c : Create) (xs : List Shown) → AllByRecursion (ShowsTruth (truth_of h (held_at s old) t c)) xs →
      AllByRecursion (ShowsTruth (truth_of h s (held_at t new) c)) xs
  all_moved c [] all = all
  all_moved c (x ∷ xs) (so, all) = (true_moved c x so, all_moved c xs all)

-- ---- the round

module _ (h : Header) (s t v : Standing) (places : ℕ → Place) (r q : RoundData) (one : IsRound h s r t)
    (other : IsRound h (held_at s places) q v) (same : t.orders ≡ v.orders) where
  live_same : one.live ≡ other.live
  live_same = listed_is_one (live_as s.book) one.live other.live one.listed other.listed

  -- the standing after it, and the round, but for where entities are held
  abbrev pub moved : Standing
  moved = held_at v t.places

  abbrev pub round_moved : RoundData
  round_moved = record q { homes = r.homes; ghosts = r.ghosts }

  abbrev with_orders : Orders → Standing
  with_orders o = record t { orders = o }

  client_moved : (c : Create) → ShowsClient h (held_at s places) q v c → ShowsClient h s round_moved moved c
  client_moved c x = record {
    types = x.types;
    numbers = x.numbers;
    right = record { in_turn = x.right.in_turn; true_ = all_moved h s v places t.places c _ x.right.true_ };
    bases = x.bases;
  }

  shown_moved : HasShown h s round_moved moved
  shown_moved = record {
    rising = other.shown.rising;
    only = other.shown.only;
    each = λ c made shown. client_moved c (other.shown.each c made shown);
    told = other.shown.told;
  }

  looked_moved : HasLooked h s round_moved moved other.live
  looked_moved = record { nothing_left = other.looked.nothing_left; one_each = other.looked.one_each }

  module _ (still : has_balance s.book ≡ false) where
    bounds_none : (q.bounds ≡ None) × (v.book ≡ with_round_ended s.book)
    bounds_none = second _ _ (has_balance s.book) still other.bounds

    pub is_moved : IsRound h s round_moved moved
    is_moved = record {
      number = other.number;
      did = other.did;
      dob = other.dob;
      live = other.live;
      listed = other.listed;
      places =
          subst (λ (live : List Create). All (HasPlace h s moved) live) live_same
          (subst (λ (o : Orders). All (HasPlace h s (with_orders o)) one.live) same one.places);
      homes =
          one.homes ∙ ap (λ (o : Orders). map (home_line h (with_orders o)) one.live) same ∙ ap (map (home_line h moved)) live_same;
      bases = other.bases;
      ghosts =
          one.ghosts ∙ ap (λ (o : Orders). flat_map (ghost_lines h (tree_of s.book) (with_orders o)) one.live) same
          ∙ ap (flat_map (ghost_lines h (tree_of s.book) moved)) live_same;
      shown = shown_moved;
      looked = looked_moved;
      bounds = as_second _ _ (has_balance s.book) still bounds_none;
      lines = other.lines;
      rounds = other.rounds;
    }
