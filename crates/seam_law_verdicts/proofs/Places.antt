-- A legal round asks of places only where those entities are held that were made before the round and not destroyed.
use Rattle.std.proofs.Common.{◌≡◌, ℕ, Bool, true, false, cond, List, [], ◌∷◌, Option, Some, None, refl, sym, ◌∙◌, ap, subst}
use Rattle.std.proofs.Common.{arith, get_or}
use Rattle.std.specs.Prelude.{◌||◌, ◌==◌, Contains, find, is_some, if◌then◌else◌}
use Rattle.std.specs.List.{AllByRecursion, list_any}
use Rattle.std.specs.FinSet as set
use Rattle.std.proofs.lemmas.Bool.Decides.{nat_tests}
use Rattle.std.proofs.lemmas.List.{get_or_default}
use Rattle.std.proofs.lemmas.List.Folds.{list_any-append}
use Rattle.std.proofs.lemmas.Option.{none-some}
use Rattle.seam_tree.specs.Division.{leaf_at}
use Rattle.seam_defs.specs.declared.flags.Part.TheVariants as part
use Rattle.seam_rule_rounds.specs.Prelude.{Book, Create, Header, Standing, RoundData, IsRound, Place, IsPlaceAfter, distances, entries}
use Rattle.seam_rule_rounds.specs.Prelude.{live_as, created_as, creates_of, destroys, tree_of, version_of, position_at, positions_past}
use Rattle.seam_rule_rounds.specs.Prelude.{HasPlace, place_before, HasShown, HasLooked, ShowsClient, IsOther, truth_of, GhostCopy}
use Rattle.seam_rule_rounds.specs.Prelude.{Shown, Own, Enter, Set, Leave, ShowsTruth, Entry}
use Rattle.seam_rule_lines.specs.Book.{is_new, makes, was_dead}
use Rattle.seam_rule_lines.specs.declared.verdict.Entry.TheVariants as entry
use Rattle.seam_rule_lines.proofs.BookEntries.{live_is_created}
use Rattle.seam_judge_rounds.proofs.Leaves.{held_at}

-- ---- who was there

-- it was made before the open round began, and not destroyed
abbrev pub IsOld : Book → ℕ → Type 0
IsOld b e = (list_any (makes e) b.past ≡ true) × (was_dead b e ≡ false)

-- entries make an entity where it is among what they created
makes_found : (xs : List Entry) (e : ℕ) → list_any (makes e) xs ≡ is_some (find (λ (c : Create). c.entity == e) (creates_of xs))
makes_found [] e = refl
makes_found (entry.Created c ∷ xs) e = by (c.entity == e) (makes_found xs e)
  where
    by : (b : Bool) → list_any (makes e) xs ≡ is_some (find (λ (d : Create). d.entity == e) (creates_of xs)) →
        (b || list_any (makes e) xs) ≡ is_some (cond b (Some c) (find (λ (d : Create). d.entity == e) (creates_of xs)))
    by true later = refl
    by false later = later
makes_found (entry.Called c ∷ xs) e = makes_found xs e
makes_found (entry.Joined d ∷ xs) e = makes_found xs e
makes_found (entry.Ticked ∷ xs) e = makes_found xs e
makes_found (entry.Divided t ∷ xs) e = makes_found xs e
makes_found (entry.Balanced ∷ xs) e = makes_found xs e
makes_found (entry.Destroyed d ∷ xs) e = makes_found xs e

left_false : (a b : Bool) → (a || b) ≡ false → a ≡ false
left_false true b none = cc
left_false false b none = refl

left_true : (a b : Bool) → (a || b) ≡ true → b ≡ false → a ≡ true
left_true true b some none = refl
left_true false b some none = cc

-- a live entity that is not new is an old one
live_is_old : (b : Book) (c : Create) → live_as b c.entity ≡ Some c → is_new b c.entity ≡ false → IsOld b c.entity
live_is_old b c lives old =
    let e = c.entity in
    let made = ap is_some (live_is_created b e c lives) in (
      left_true (list_any (makes e) b.past) (list_any (makes e) b.current)
          (sym (list_any-append (makes e) b.past b.current) ∙ makes_found (entries b) e ∙ made) old,
      left_false (list_any (destroys e) b.past) (list_any (destroys e) b.current)
          (sym (list_any-append (destroys e) b.past b.current) ∙ by (list_any (destroys e) (entries b)) refl lives),
    )
  where
    by : (x : Bool) → list_any (destroys c.entity) (entries b) ≡ x → cond x None (created_as b c.entity) ≡ Some c →
        list_any (destroys c.entity) (entries b) ≡ false
    by true is lives = absurd (none-some c lives)
    by false is lives = is

is_number : (m n : ℕ) → (m == n) ≡ true → m ≡ n
is_number m n is = grind (arith, nat_tests, is)

found_is : (e : ℕ) (cs : List Create) (c : Create) → find (λ (d : Create). d.entity == e) cs ≡ Some c → c.entity ≡ e
found_is e [] c found = absurd (none-some c found)
found_is e (d ∷ cs) c found = by (d.entity == e) refl (found_is e cs c) found
  where
    some_is : (x y : Create) → Some x ≡ Some y → x ≡ y
    some_is x y is = cc

    by : (b : Bool) → (d.entity == e) ≡ b → (find (λ (x : Create). x.entity == e) cs ≡ Some c → c.entity ≡ e) →
        cond b (Some d) (find (λ (x : Create). x.entity == e) cs) ≡ Some c → c.entity ≡ e
    by true is later at = ap (λ (x : Create). x.entity) (sym (some_is d c at)) ∙ is_number d.entity e is
    by false is later at = later at

-- what was made and not destroyed lives
pub record Lives (b : Book) (e : ℕ) : Type 0 where
  pub made : Create
  pub number : made.entity ≡ e
  pub is : live_as b made.entity ≡ Some made

pub alive : (b : Book) (e : ℕ) → list_any (makes e) (entries b) ≡ true → list_any (destroys e) (entries b) ≡ false → Lives b e
alive b e made lives = by (created_as b e) refl
  where
    by : (o : Option Create) → created_as b e ≡ o → Lives b e
    by None none =
        let wrong : true ≡ false = sym made ∙ makes_found (entries b) e ∙ ap is_some none in
        absurd (cc)
    by (Some c) some =
        let number = found_is e (creates_of (entries b)) c some in
        record {
          made = c;
          number = number;
          is =
              subst (λ (n : ℕ). live_as b n ≡ Some c) (sym number)
              (ap (λ (x : Bool). cond x None (created_as b e)) lives ∙ some);
        }

-- ---- a round that is legal after a standing is so after one with other places for the entities that were not there

module _ (h : Header) (s t : Standing) (places : ℕ → Place) where
  abbrev was : Standing
  was = held_at s places

  other_before : (e : ℕ) (copy : GhostCopy) → IsOther h was t e copy → IsOther h s t e copy
  other_before e copy x = record { made = x.made; is = x.is; lived = x.lived; version = x.version; had = x.had; same = x.same }

  true_before : (c : Create) (x : Shown) → ShowsTruth (truth_of h was t c) x → ShowsTruth (truth_of h s t c) x
  true_before c (Own version state) so = so
  true_before c (Enter e copy) so = other_before e copy so
  true_before c (Set e copy) so = other_before e copy so
  true_before c (Leave e) so = so

  all_before : (c : Create) (xs : List Shown) → AllByRecursion (ShowsTruth (truth_of h was t c)) xs →
      AllByRecursion (ShowsTruth (truth_of h s t c)) xs
  all_before c [] all = all
  all_before c (x ∷ xs) (so, all) = (true_before c x so, all_before c xs all)

  client_before : (r : RoundData) (c : Create) → ShowsClient h was r t c → ShowsClient h s r t c
  client_before r c x = record {
    types = x.types;
    numbers = x.numbers;
    right = record { in_turn = x.right.in_turn; true_ = all_before c _ x.right.true_ };
    bases = x.bases;
  }

  shown_before : (r : RoundData) → HasShown h was r t → HasShown h s r t
  shown_before r x =
      record { rising = x.rising; only = x.only; each = λ c made shown. client_before r c (x.each c made shown); told = x.told }

  looked_before : (r : RoundData) (live : List Create) → HasLooked h was r t live → HasLooked h s r t live
  looked_before r live x = record { nothing_left = x.nothing_left; one_each = x.one_each }

  -- the place of an old entity is the same
  module _ (same : (e : ℕ) → IsOld s.book e → places e ≡ s.places e) where
    placed_before : (c : Create) → live_as s.book c.entity ≡ Some c → place_before was c ≡ place_before s c
    placed_before c lives = by (is_new s.book c.entity) refl
      where
        by : (b : Bool) → is_new s.book c.entity ≡ b →
            (if b then record { home = leaf_at (tree_of s.book) c.pos; ghosts = set.empty } else places c.entity)
            ≡ (if b then record { home = leaf_at (tree_of s.book) c.pos; ghosts = set.empty } else s.places c.entity)
        by true is = refl
        by false is = same c.entity (live_is_old s.book c lives is)

    place_too : (c : Create) → live_as s.book c.entity ≡ Some c → HasPlace h was t c → HasPlace h s t c
    place_too c lives has =
        subst (λ (p : Place).
        IsPlaceAfter (distances h.settings) (tree_of s.book) p
        (position_at h c (t.orders part.Cell c.entity) (version_of s.orders part.Cell c))
        (positions_past h c (t.orders part.Cell c.entity) (version_of s.orders part.Cell c)) (t.places c.entity))
        (placed_before c lives) has

    pub round_before : (r : RoundData) → IsRound h was r t → IsRound h s r t
    round_before r x = record {
      number = x.number;
      did = x.did;
      dob = x.dob;
      live = x.live;
      listed = x.listed;
      places = λ k d within.
          let c : Create = get_or x.live k d in
          let has : Contains x.live c = (k, within, get_or_default x.live k c d within) in
          place_too c ((x.listed.exact c).0 has) (x.places k d within);
      homes = x.homes;
      bases = x.bases;
      ghosts = x.ghosts;
      shown = shown_before r x.shown;
      looked = looked_before r x.live x.looked;
      bounds = x.bounds;
      lines = x.lines;
      rounds = x.rounds;
    }
