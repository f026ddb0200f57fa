-- A legal round is legal with the standing that its lines show: where entities are held that do not live makes no difference.
use Rattle.std.proofs.Common.{◌≡◌, ◌≤◌, ◌++◌, ℕ, Bool, true, false, List, [], ◌∷◌, map, get_or, Option, None, Some, refl, sym, ap, ◌∙◌}
use Rattle.std.proofs.Common.{subst}
use Rattle.std.specs.Prelude.{MatchBool, Contains, filter}
use Rattle.std.specs.List.{All, AllByRecursion, flat_map}
use Rattle.std.proofs.lemmas.List.{get_or_default}
use Rattle.seam_rule_rounds.specs.Prelude.{MOST_CELLS, Division, cells_of, IsBalanced, Place, IsPlaceAfter, Part, is_for, Create, GhostCopy}
use Rattle.seam_rule_rounds.specs.Prelude.{Shown, Own, Enter, Set, Leave, ShowsTruth, Header, tree_of, has_balance, with_round_ended}
use Rattle.seam_rule_rounds.specs.Prelude.{with_tree, version_of, position_at, positions_past, Standing, distances, place_before, HasPlace}
use Rattle.seam_rule_rounds.specs.Prelude.{RoundData, IsOther, truth_of, ShowsClient, HasShown, HasLooked, home_line, ghost_lines}
use Rattle.seam_rule_rounds.specs.Prelude.{live_as, with_bounds, IsRound}
use Rattle.seam_defs.specs.declared.flags.Part.TheVariants as part
use Rattle.seam_rule_lines.proofs.Lists.{contains_first, contains_later}
use Rattle.seam_judge_rounds.specs.After.{AreForMade, place_in, after_round}
use Rattle.seam_judge_rounds.proofs.Executed.{cells_executed, bases_executed}
use Rattle.seam_judge_rounds.proofs.Held.{place_shown}

-- ---- what depends on where nothing is held

abbrev pub held_at : Standing → (ℕ → Place) → Standing
held_at t places = record t { places = places }

module _ (h : Header) (s t : Standing) (places : ℕ → Place) where
  other_too : (e : ℕ) (copy : GhostCopy) → IsOther h s t e copy → IsOther h s (held_at t places) e copy
  other_too e copy x = record { made = x.made; is = x.is; lived = x.lived; version = x.version; had = x.had; same = x.same }

  true_too : (c : Create) (x : Shown) → ShowsTruth (truth_of h s t c) x → ShowsTruth (truth_of h s (held_at t places) c) x
  true_too c (Own version state) so = so
  true_too c (Enter e copy) so = other_too e copy so
  true_too c (Set e copy) so = other_too e copy so
  true_too c (Leave e) so = so

  all_too : (c : Create) (xs : List Shown) → AllByRecursion (ShowsTruth (truth_of h s t c)) xs →
      AllByRecursion (ShowsTruth (truth_of h s (held_at t places) c)) xs
  all_too c [] all = all
  all_too c (x ∷ xs) (so, all) = (true_too c x so, all_too c xs all)

  client_too : (r : RoundData) (c : Create) → ShowsClient h s r t c → ShowsClient h s r (held_at t places) c
  client_too r c x = record {
    types = x.types;
    numbers = x.numbers;
    right = record { in_turn = x.right.in_turn; true_ = all_too c _ x.right.true_ };
    bases = x.bases;
  }

  shown_too : (r : RoundData) → HasShown h s r t → HasShown h s r (held_at t places)
  shown_too r x = record { rising = x.rising; only = x.only; each = λ c made shown. client_too r c (x.each c made shown); told = x.told }

  looked_too : (r : RoundData) (live : List Create) → HasLooked h s r t live → HasLooked h s r (held_at t places) live
  looked_too r live x = record { nothing_left = x.nothing_left; one_each = x.one_each }

-- ---- what depends on where the live entities are held

map_same : {X Y : Type 0} (f g : X → Y) (xs : List X) → ((x : X) → Contains xs x → f x ≡ g x) → map f xs ≡ map g xs
map_same f g [] same = refl
map_same f g (x ∷ xs) same =
    let first = same x (contains_first x xs) in
    let others = map_same f g xs (λ y has. same y (contains_later x y xs has)) in
    λ i. first i ∷ others i

flat_map_same : {X Y : Type 0} (f g : X → List Y) (xs : List X) → ((x : X) → Contains xs x → f x ≡ g x) → flat_map f xs ≡ flat_map g xs
flat_map_same f g [] same = refl
flat_map_same f g (x ∷ xs) same =
    let first = same x (contains_first x xs) in
    let others = flat_map_same f g xs (λ y has. same y (contains_later x y xs has)) in
    λ i. first i ++ others i

module _ (h : Header) (s : Standing) (r : RoundData) (t : Standing) (made : AreForMade s.book) (few : cells_of (tree_of s.book)
    ≤ MOST_CELLS)
    (x : IsRound h s r t)
  where
    abbrev pub held : Standing
    held = held_at t (place_in r)

    shown_at : (c : Create) → Contains x.live c → place_in r c.entity ≡ t.places c.entity
    shown_at c has = place_shown h s t r x.live x.listed few x.places x.homes x.ghosts c has

    -- an entity that lives is held where its lines show it
    pub place_left : (c : Create) → live_as s.book c.entity ≡ Some c → place_in r c.entity ≡ t.places c.entity
    place_left c lives = shown_at c ((x.listed.exact c).1 lives)

    places_too : All (HasPlace h s held) x.live
    places_too k d within =
        let c : Create = get_or x.live k d in
        let has : Contains x.live c = (k, within, get_or_default x.live k c d within) in
        subst (IsPlaceAfter (distances h.settings) (tree_of s.book) (place_before s c)
        (position_at h c (t.orders part.Cell c.entity) (version_of s.orders part.Cell c))
        (positions_past h c (t.orders part.Cell c.entity) (version_of s.orders part.Cell c))) (sym (shown_at c has)) (x.places k d within)

    homes_too : r.homes ≡ map (home_line h held) x.live
    homes_too =
        x.homes
        ∙ map_same (home_line h t) (home_line h held) x.live
        (λ c has. λ i. record (home_line h t c) { cell = (sym (shown_at c has) i).home })

    ghosts_too : r.ghosts ≡ flat_map (ghost_lines h (tree_of s.book) held) x.live
    ghosts_too =
        x.ghosts
        ∙ flat_map_same (ghost_lines h (tree_of s.book) t) (ghost_lines h (tree_of s.book) held) x.live
        (λ c has. ap (λ (p : Place). ghost_lines h (tree_of s.book) (held_at t (λ e. p)) c) (sym (shown_at c has)))

    round_held : IsRound h s r held
    round_held = record {
      number = x.number;
      did = x.did;
      dob = x.dob;
      live = x.live;
      listed = x.listed;
      places = places_too;
      homes = homes_too;
      bases = x.bases;
      ghosts = ghosts_too;
      shown = shown_too h s t (place_in r) r x.shown;
      looked = looked_too h s t (place_in r) r x.live x.looked;
      bounds = x.bounds;
      lines = x.lines;
      rounds = x.rounds;
    }

    book_left : t.book ≡ with_bounds (with_round_ended s.book) r.bounds
    book_left = by (has_balance s.book) x.bounds
      where
        bounded : (o : Option Division) → r.bounds ≡ o → t.book ≡ with_bounds (with_round_ended s.book) o →
            t.book ≡ with_bounds (with_round_ended s.book) r.bounds
        bounded o is left = left ∙ ap (λ (b : Option Division). with_bounds (with_round_ended s.book) b) (sym is)

        by : (b : Bool) →
            MatchBool b
            ((next : Division) × IsBalanced (map (λ l. l.state.pos) r.homes) h.settings.balance_shift (tree_of s.book) next
            × (r.bounds ≡ Some next) × (t.book ≡ with_tree (with_round_ended s.book) next))
            ((r.bounds ≡ None) × (t.book ≡ with_round_ended s.book)) →
            t.book ≡ with_bounds (with_round_ended s.book) r.bounds
        by true (next, balanced, is, left) = bounded (Some next) is left
        by false (is, left) = bounded None is left

    orders_left : (p : Part) (e : ℕ) → s.orders p e ++ filter (is_for p e) (map (λ l. l.call) (r.did ++ r.dob)) ≡ t.orders p e
    orders_left part.Cell e =
        cells_executed s.book (s.orders part.Cell) (t.orders part.Cell) (s.orders part.Base) (t.orders part.Base) r.did r.dob made x.did
        x.dob e
    orders_left part.Base e =
        bases_executed s.book (s.orders part.Cell) (t.orders part.Cell) (s.orders part.Base) (t.orders part.Base) r.did r.dob made x.did
        x.dob e

    -- the standing that its lines show differs from the one that it leaves in places alone
    pub left_is : held ≡ after_round s r
    left_is = λ i. record {
      lines = x.lines i;
      rounds = x.rounds i;
      book = book_left i;
      orders = λ p e. sym (orders_left p e) i;
      places = place_in r;
      told = λ e. x.shown.told e i;
    }

    -- a legal round is so with the standing that its lines show
    pub round_left : IsRound h s r (after_round s r)
    round_left = subst (IsRound h s r) left_is round_held
