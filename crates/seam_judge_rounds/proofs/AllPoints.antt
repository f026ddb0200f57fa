-- A round is legal where each of its points holds.
use Rattle.std.proofs.Common.{◌≡◌, ◌+◌, ◌++◌, ◌≤◌, ℕ, Bool, true, false, List, [], ◌∷◌, map, Option, None, Some, refl, sym, ap, ◌∙◌}
use Rattle.std.proofs.Common.{subst, inl, inr, IsTrue, ◌↔◌}
use Rattle.std.specs.Prelude.{⊤, filter, MatchBool}
use Rattle.std.specs.List.{All, flat_map}
use Rattle.std.proofs.lemmas.List.Elements.{All-weaker, filter-append}
use Rattle.seam_rule_rounds.specs.Prelude.{MOST_CELLS, Division, Place, cells_of, Part, is_for, Call, Create, Header, live_as, tree_of}
use Rattle.seam_rule_rounds.specs.Prelude.{has_balance, with_round_ended, DoneLine, Lists, ExtendsOrders, Standing, HasPlace, RoundData}
use Rattle.seam_rule_rounds.specs.Prelude.{HasLooked, home_line, base_line, ghost_lines, with_bounds, HasBounds, IsRound}
use Rattle.seam_rule_lines.proofs.Lists.{listed_is_one}
use Rattle.seam_judge_rounds.specs.Bounds.{PrintsBounds}
use Rattle.seam_judge_data.specs.Standings.{standing_of}
use Rattle.seam_judge_data.specs.declared.standing.Standing as plain
use Rattle.seam_judge_rounds.specs.After.{AreForMade, after_round}
use Rattle.seam_judge_rounds.specs.Points.{OfLive, Holds, HasCell, IsFirstBroken, later_points, points}
use Rattle.seam_judge_rounds.specs.declared.verdict.Point.{Point}
use Rattle.seam_judge_rounds.specs.declared.verdict.Point.TheVariants as point
use Rattle.seam_judge_rounds.proofs.Leaves.{round_left}

-- ---- the first that does not hold

module _ (H : Point → Type 0) where
  -- each of the points holds
  abbrev pub AllHold : List Point → Type 0
  AllHold [] = ⊤
  AllHold (p ∷ ps) = H p × AllHold ps

  -- none is named exactly where each holds
  pub none_or_all : (ps : List Point) (o : Option Point) → IsFirstBroken H ps o → ((o ≡ None) ↔ AllHold ps)
  none_or_all [] o is = ((λ _. tt), (λ _. is))
  none_or_all (p ∷ ps) o (inl (broken, is)) = ((λ none. absurd (cc)), (λ all. absurd (broken all.0)))
  none_or_all (p ∷ ps) o (inr (holds, rest)) =
      let more = none_or_all ps o rest in ((λ none. (holds, more.0 none)), (λ all. more.1 all.1))

  pub one_more : (p : Point) (ps : List Point) (b : Bool) (o later : Option Point) → IsFirstBroken H ps later → (IsTrue b ↔ H p) →
      MatchBool b (o ≡ later) (o ≡ Some p) → IsFirstBroken H (p ∷ ps) o
  one_more p ps true o later rest decides is = inr (decides.0 refl, subst (IsFirstBroken H ps) (sym is) rest)
  one_more p ps false o later rest decides is = inl ((λ holds. let so : false ≡ true = decides.1 holds in absurd (cc)), is)

  -- of the last point nothing comes after
  pub last_one : (p : Point) (b : Bool) (o : Option Point) → (IsTrue b ↔ H p) → MatchBool b (o ≡ None) (o ≡ Some p) →
      IsFirstBroken H (p ∷ []) o
  last_one p b o decides is = one_more p [] b o None refl decides is

-- ---- boundaries

match_map : {A B C D : Type 0} (b : Bool) → (A → C) → (B → D) → MatchBool b A B → MatchBool b C D
match_map true f g x = f x
match_map false f g x = g x

module _ (h : Header) (s : Standing) (r : RoundData) (t : Standing) (book : t.book ≡ with_bounds (with_round_ended s.book) r.bounds) where
  pub bounds_decided : (b : Bool) → (IsTrue b ↔ PrintsBounds h s r.homes r.bounds) → (IsTrue b ↔ HasBounds h s r t)
  bounds_decided b decides = (
    (λ so. match_map (has_balance s.book)
        (λ (next, balanced, is). (next, balanced, is, book ∙ ap (λ (o : Option Division). with_bounds (with_round_ended s.book) o) is))
        (λ is. (is, book ∙ ap (λ (o : Option Division). with_bounds (with_round_ended s.book) o) is)) (decides.0 so)),
    (λ has. decides.1 (match_map (has_balance s.book) (λ (next, balanced, is, left). (next, balanced, is)) (λ (is, left). is) has)),
  )

-- ---- orders

-- the orders after a round, by the calls that its lines show
pub orders_decided : (s : plain.Standing) (r : RoundData) (t : Standing) (done : List Call) (p : Part) (lines : List DoneLine) (b : Bool) →
    t ≡ after_round (standing_of s) r → done ≡ map (λ l. l.call) (r.did ++ r.dob) →
    (IsTrue b ↔ ExtendsOrders (standing_of s).book p ((standing_of s).orders p) (λ e. filter (is_for p e) (s.calls.items ++ done)) lines) →
    (IsTrue b ↔ ExtendsOrders (standing_of s).book p ((standing_of s).orders p) (t.orders p) lines)
orders_decided s r t done p lines b follows are decides =
    let same : (e : ℕ) → filter (is_for p e) (s.calls.items ++ done) ≡ t.orders p e =
    λ e. filter-append (is_for p e) s.calls.items done
    ∙ ap (λ (ds : List Call). filter (is_for p e) s.calls.items ++ filter (is_for p e) ds) are
    ∙ sym (ap (λ (x : Standing). x.orders p e) follows) in
    subst (λ (after : ℕ → List Call). IsTrue b ↔ ExtendsOrders (standing_of s).book p ((standing_of s).orders p) after lines)
    (λ i e. same e i) decides

-- ---- lines

-- what is decided of equal lines
pub of_lines : {X : Type 0} (P : List X → Type 0) (xs ys : List X) (b : Bool) → xs ≡ ys → (IsTrue b ↔ P xs) → (IsTrue b ↔ P ys)
of_lines {X} P xs ys b same decides = subst (λ (zs : List X). IsTrue b ↔ P zs) same decides

-- ---- all points

pub of_live : (s : Standing) (live : List Create) (b : Bool) (P : List Create → Type 0) → Lists (live_as s.book) live →
    (IsTrue b ↔ P live) →
    (IsTrue b ↔ OfLive s P)
of_live s live b P listed decides = (
  (λ so other listed_too. subst P (listed_is_one (live_as s.book) live other listed listed_too) (decides.0 so)),
  (λ all. decides.1 (all live listed)),
)

module _ (h : Header) (s : Standing) (r : RoundData) (t : Standing) where
  as_live : (x : IsRound h s r t) (P : List Create → Type 0) → P x.live → OfLive s P
  as_live x P holds live listed = subst P (listed_is_one (live_as s.book) x.live live x.listed listed) holds

  -- an entity that is held where it may be has its home where it may be
  cell_of : (c : Create) → HasPlace h s t c → HasCell h s t c
  cell_of c (inl is) = inl (sym (ap (λ (p : Place). p.home) is))
  cell_of c (inr (one, is)) = inr (one, sym (ap (λ (p : Place). p.home) is))

  pub points_hold : IsRound h s r t → (p : Point) → Holds h s r t p
  points_hold x point.Number = x.number
  points_hold x point.Did = x.did
  points_hold x point.Dob = x.dob
  points_hold x point.Homes = as_live x (λ (l : List Create). r.homes ≡ map (home_line h t) l) x.homes
  points_hold x point.Cells =
      as_live x (All (HasCell h s t)) (All-weaker (HasPlace h s t) (HasCell h s t) cell_of x.live x.places)
  points_hold x point.Places = as_live x (All (HasPlace h s t)) x.places
  points_hold x point.Bases = as_live x (λ (l : List Create). r.bases ≡ map (base_line h t) l) x.bases
  points_hold x point.Ghosts = as_live x (λ (l : List Create). r.ghosts ≡ flat_map (ghost_lines h (tree_of s.book) t) l) x.ghosts
  points_hold x point.Shown = x.shown
  points_hold x point.Looked = as_live x (HasLooked h s r t) x.looked
  points_hold x point.Bounds = x.bounds

  module _ (live : List Create) (listed : Lists (live_as s.book) live) where
    pub round_of : t.lines ≡ s.lines → t.rounds ≡ s.rounds + 1 → ((p : Point) → Holds h s r t p) → IsRound h s r t
    round_of lines rounds all = record {
      number = all point.Number;
      did = all point.Did;
      dob = all point.Dob;
      live = live;
      listed = listed;
      places = all point.Places live listed;
      homes = all point.Homes live listed;
      bases = all point.Bases live listed;
      ghosts = all point.Ghosts live listed;
      shown = all point.Shown;
      looked = all point.Looked live listed;
      bounds = all point.Bounds;
      lines = lines;
      rounds = rounds;
    }

    each : Holds h s r t point.Number → AllHold (Holds h s r t) later_points → (p : Point) → Holds h s r t p
    each number (did, (dob, (homes, (cells, (bases, (places, (ghosts, (shown, (looked, (bounds, _)))))))))) point.Number = number
    each number (did, (dob, (homes, (cells, (bases, (places, (ghosts, (shown, (looked, (bounds, _)))))))))) point.Did = did
    each number (did, (dob, (homes, (cells, (bases, (places, (ghosts, (shown, (looked, (bounds, _)))))))))) point.Dob = dob
    each number (did, (dob, (homes, (cells, (bases, (places, (ghosts, (shown, (looked, (bounds, _)))))))))) point.Homes = homes
    each number (did, (dob, (homes, (cells, (bases, (places, (ghosts, (shown, (looked, (bounds, _)))))))))) point.Cells = cells
    each number (did, (dob, (homes, (cells, (bases, (places, (ghosts, (shown, (looked, (bounds, _)))))))))) point.Bases = bases
    each number (did, (dob, (homes, (cells, (bases, (places, (ghosts, (shown, (looked, (bounds, _)))))))))) point.Places = places
    each number (did, (dob, (homes, (cells, (bases, (places, (ghosts, (shown, (looked, (bounds, _)))))))))) point.Ghosts = ghosts
    each number (did, (dob, (homes, (cells, (bases, (places, (ghosts, (shown, (looked, (bounds, _)))))))))) point.Shown = shown
    each number (did, (dob, (homes, (cells, (bases, (places, (ghosts, (shown, (looked, (bounds, _)))))))))) point.Looked = looked
    each number (did, (dob, (homes, (cells, (bases, (places, (ghosts, (shown, (looked, (bounds, _)))))))))) point.Bounds = bounds

    all_later : IsRound h s r t → AllHold (Holds h s r t) later_points
    all_later x =
        let hold = points_hold x in (
          hold point.Did,
          (
            hold point.Dob,
            (
              hold point.Homes,
              (
                hold point.Cells,
                (
                  hold point.Bases,
                  (
                    hold point.Places,
                    (hold point.Ghosts, (hold point.Shown, (hold point.Looked, (hold point.Bounds, tt)))),
                  ),
                ),
              ),
            ),
          ),
        )

    -- a round of the right number is legal exactly where they all hold
    pub legal : t ≡ after_round s r → r.number ≡ s.rounds + 1 → (o : Option Point) → IsFirstBroken (Holds h s r t) later_points o →
        ((o ≡ None) ↔ IsRound h s r t)
    legal follows number o first =
        let decides = none_or_all (Holds h s r t) later_points o first in (
          (λ is. round_of (ap (λ (x : Standing). x.lines) follows) (ap (λ (x : Standing). x.rounds) follows) (each number (decides.0 is))),
          (λ x. decides.1 (all_later x)),
        )

-- ---- a round of another number

pub wrong_number : (h : Header) (s : Standing) (r : RoundData) (t : Standing) (b : Bool) (o : Option Point) → b ≡ false →
    (IsTrue b ↔ (r.number ≡ s.rounds + 1)) → o ≡ Some point.Number → IsFirstBroken (Holds h s r t) points o
wrong_number h s r t b o fails decides is = inl ((λ holds. let so = decides.1 holds in absurd (cc)), is)

pub right_number : (h : Header) (s : Standing) (r : RoundData) (t : Standing) (o : Option Point) → r.number ≡ s.rounds + 1 →
    IsFirstBroken (Holds h s r t) later_points o → IsFirstBroken (Holds h s r t) points o
right_number h s r t o number later = inr (number, later)

pub never_legal : (h : Header) (s : Standing) (r : RoundData) (t : Standing) (b : Bool) → b ≡ false →
    (IsTrue b ↔ (r.number ≡ s.rounds + 1)) → ¬ (IsRound h s r t)
never_legal h s r t b fails decides x = let so = decides.1 x.number in absurd (cc)

-- a refused round is legal with no standing
pub never_left : (h : Header) (s : Standing) (r : RoundData) (o : Option Point) → ((o ≡ None) ↔ IsRound h s r (after_round s r)) →
    cells_of (tree_of s.book) ≤ MOST_CELLS → (p : Point) → o ≡ Some p → AreForMade s.book → (t : Standing) → ¬ (IsRound h s r t)
never_left h s r o decides few p is made t x =
    let none = decides.1 (round_left h s r t made few x) in
    absurd (cc)
