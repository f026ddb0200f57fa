-- Who is there once a round begins, and who lives once it has ended.
use Rattle.std.proofs.Common.{◌≡◌, ℕ, Bool, true, false, cond, List, [], Option, None, Some, refl, sym, ap, ◌∙◌, append-nil}
use Rattle.std.specs.Prelude.{◌==◌, ◌||◌, ◌&&◌, not, find, is_some}
use Rattle.std.specs.List.{list_any}
use Rattle.std.specs.Option.{option_or, option_map}
use Rattle.std.specs.BTreeMap.{BTreeMap}
use Rattle.std.proofs.lemmas.List.Elements.{filter_map-append}
use Rattle.std.proofs.lemmas.List.Folds.{find-append, list_any-append}
use Rattle.seam_node_steps.specs.Prelude.{Create}
use Rattle.seam_rule_rounds.specs.Prelude.{Book, entries, created, creates_of, created_as, live_as, destroys, joins, has_client, is_shown}
use Rattle.seam_rule_rounds.specs.Prelude.{was_dead, with_round_ended, Entry}
use Rattle.seam_rule_lines.proofs.BookEntries.{live_is_created}
use Rattle.seam_rule_lines.proofs.InOrderLemmas.{found_entity}
use Rattle.seam_world_text.specs.Residents.{present_as, is_among, newcomer, joined_if, Adds, Joins, Removes}
use Rattle.seam_world_text.specs.declared.residents.Resident.{Resident}
use Rattle.seam_world_text.proofs.Listing.{resident_of, AreNamed, Has}

-- ---- the numbers of a book's entities

pub created_named : (b : Book) → AreNamed (created_as b)
created_named b e c is = found_entity (creates_of (entries b)) e c is

pub live_named : (b : Book) → AreNamed (live_as b)
live_named b e c is = created_named b e c (live_is_created b e c is)

pub present_named : (b : Book) → AreNamed (present_as b)
present_named b e c is = by (was_dead b e) is
  where
    by : (x : Bool) → cond x None (created_as b e) ≡ Some c → c.entity ≡ e
    by true is = absurd (let z = is in cc)
    by false is = created_named b e c is

-- ---- one entity

and_true : (x : Bool) → (x && true) ≡ x
and_true true = refl
and_true false = refl

abbrev pub find_in : ℕ → List Entry → Option Create
find_in e xs = find (λ c. c.entity == e) (creates_of xs)

module _ (b : Book) (e : ℕ) where
  abbrev begun : Book
  begun = record b { current = [] }

  begun_entries : entries begun ≡ b.past
  begun_entries = append-nil b.past

  created_split : created_as b e ≡ option_or (find_in e b.past) (find_in e b.current)
  created_split =
      ap (find (λ (c : Create). c.entity == e)) (filter_map-append created b.past b.current)
      ∙ find-append (λ (c : Create). c.entity == e) (creates_of b.past) (creates_of b.current)

  any_split : (test : Entry → Bool) → list_any test (entries b) ≡ (list_any test b.past || list_any test b.current)
  any_split test = list_any-append test b.past b.current

  live_begun : live_as begun e ≡ cond (list_any (destroys e) b.past) None (find_in e b.past)
  live_begun = ap (λ xs. cond (list_any (destroys e) xs) None (find_in e xs)) begun_entries

  -- whether one that is there has a client in the round
  shown_is : (c : Create) → was_dead b e ≡ false → created_as b e ≡ Some c →
      is_shown b e ≡ (list_any (joins e) b.past || list_any (joins e) b.current)
  shown_is c alive made =
      (λ i. (is_some (made i) && list_any (joins e) (entries b)) && not (alive i)) ∙ and_true (list_any (joins e) (entries b))
      ∙ any_split (joins e)

  -- whether one that lives has one
  had_client : (c : Create) → live_as begun e ≡ Some c → has_client begun e ≡ list_any (joins e) b.past
  had_client c lives = (λ i. is_some (lives i) && list_any (joins e) (begun_entries i))

-- nothing was accepted for the entities that the round makes
abbrev pub MakesNew : Book → Type 0
MakesNew b =
    (e : ℕ) (c : Create) → find_in e b.current ≡ Some c →
    (find_in e b.past ≡ None) × (list_any (destroys e) b.past ≡ false) × (list_any (joins e) b.past ≡ false)

-- ---- a round begins

module _ (b : Book) (fresh : MakesNew b) (es : List ℕ) (among : (e : ℕ) → is_among e es ≡ list_any (joins e) b.current)
    (old mid new : BTreeMap ℕ Resident) (has : Has (live_as (begun b 0)) (has_client (begun b 0)) old)
    (adds : Adds (creates_of b.current) old mid)
    (joined : Joins es mid new) where
  abbrev Result : ℕ → Option Create → Option Create → Type 0
  Result e live now =
      option_map (joined_if (is_among e es)) (option_or (option_map (resident_of (has_client (begun b e))) live) (option_map newcomer now))
      ≡ option_map (resident_of (is_shown b)) (present_as b e)

  dead_by : (e : ℕ) (now : Option Create) → find_in e b.current ≡ now → was_dead b e ≡ true → Result e None now
  dead_by e None is dead = sym (ap (λ x. option_map (resident_of (is_shown b)) (cond x None (created_as b e))) dead)
  dead_by e (Some c) is dead = absurd (let z = sym (fresh e c is).1 ∙ dead in cc)

  there : (e : ℕ) (c : Create) → was_dead b e ≡ false → created_as b e ≡ Some c →
      Some (resident_of (is_shown b) c) ≡ option_map (resident_of (is_shown b)) (present_as b e)
  there e c alive made = ap (option_map (resident_of (is_shown b))) (sym (ap (λ x. cond x None (created_as b e)) alive ∙ made))

  lived : (e : ℕ) (c : Create) (now : Option Create) → was_dead b e ≡ false → find_in e b.past ≡ Some c →
      find_in e b.current ≡ now → Result e (Some c) now
  lived e c now alive was is =
      let made : created_as b e ≡ Some c = created_split b e ∙ (λ i. option_or (was i) (is i)) in
      let lives : live_as (begun b e) e ≡ Some c = live_begun b e ∙ (λ i. cond (alive i) None (was i)) in
      let number = created_named b e c made in
      let flag : (has_client (begun b e) c.entity || is_among e es) ≡ is_shown b c.entity =
      ap (λ n. has_client (begun b e) n || is_among e es) number ∙ (λ i. had_client b e c lives i || among e i)
      ∙ sym (shown_is b e c alive made) ∙ ap (is_shown b) (sym number) in
      ap (λ x. Some (record { made = c; client = x })) flag ∙ there e c alive made

  came : (e : ℕ) (now : Option Create) → was_dead b e ≡ false → find_in e b.past ≡ None → find_in e b.current ≡ now → Result e None now
  came e None alive was is =
      let none : created_as b e ≡ None = created_split b e ∙ (λ i. option_or (was i) (is i)) in
      sym (ap (option_map (resident_of (is_shown b))) (λ i. cond (alive i) None (none i)))
  came e (Some c) alive was is =
      let made : created_as b e ≡ Some c = created_split b e ∙ (λ i. option_or (was i) (is i)) in
      let number = created_named b e c made in
      let flag : is_among e es ≡ is_shown b c.entity =
      among e ∙ sym (ap (λ x. x || list_any (joins e) b.current) (fresh e c is).2) ∙ sym (shown_is b e c alive made)
      ∙ ap (is_shown b) (sym number) in
      ap (λ x. Some (record { made = c; client = x })) flag ∙ there e c alive made

  present_by : (e : ℕ) (dead : Bool) (was now : Option Create) → was_dead b e ≡ dead → find_in e b.past ≡ was → find_in e b.current ≡ now →
      Result e (cond dead None was) now
  present_by e true was now dead is then = dead_by e now then dead
  present_by e false None now alive is then = came e now alive is then
  present_by e false (Some c) now alive is then = lived e c now alive is then

  pub present : Has (present_as b) (is_shown b) new
  present e =
      joined e
      ∙ ap (option_map (joined_if (is_among e es))) (adds e
      ∙ (λ i. option_or (has e i) (option_map newcomer (find_in e b.current)))
      ∙ (λ i. option_or (option_map (resident_of (has_client (begun b e))) (live_begun b e i)) (option_map newcomer (find_in e b.current))))
      ∙ present_by e (was_dead b e) (find_in e b.past) (find_in e b.current) refl refl refl

-- ---- a round ends

module _ (b : Book) (es : List ℕ) (among : (e : ℕ) → is_among e es ≡ list_any (destroys e) b.current) (old new : BTreeMap ℕ Resident)
    (has : Has (present_as b) (is_shown b) old) (removes : Removes es old new) where
  abbrev next : Book
  next = with_round_ended b

  same_entries : entries next ≡ entries b
  same_entries = append-nil (entries b)

  abbrev Left : ℕ → Bool → Bool → Option Create → Type 0
  Left e dead dies made =
      cond dies None (option_map (resident_of (is_shown b)) (cond dead None made))
      ≡ option_map (resident_of (has_client next)) (cond (dead || dies) None made)

  flag_is : (e : ℕ) (c : Create) → was_dead b e ≡ false → list_any (destroys e) b.current ≡ false → created_as b e ≡ Some c →
      is_shown b e ≡ has_client next e
  flag_is e c alive spared made =
      let lives : live_as next e ≡ Some c =
      ap (λ xs. cond (list_any (destroys e) xs) None (find_in e xs)) same_entries
      ∙ (λ i. cond ((any_split b e (destroys e) ∙ (λ j. alive j || spared j)) i) None (made i)) in
      shown_is b e c alive made ∙ sym (any_split b e (joins e))
      ∙ sym (λ i. is_some (lives i) && list_any (joins e) (same_entries i))

  left_by : (e : ℕ) (dead dies : Bool) (made : Option Create) → was_dead b e ≡ dead → list_any (destroys e) b.current ≡ dies →
      created_as b e ≡ made → Left e dead dies made
  left_by e true true made x y z = refl
  left_by e true false made x y z = refl
  left_by e false true made x y z = refl
  left_by e false false None x y z = refl
  left_by e false false (Some c) alive spared made =
      let number = created_named b e c made in
      ap (λ x. Some (record { made = c; client = x })) (ap (is_shown b) number ∙ flag_is e c alive spared made
      ∙ ap (has_client next) (sym number))

  live_next : (e : ℕ) → live_as next e ≡ cond (was_dead b e || list_any (destroys e) b.current) None (created_as b e)
  live_next e =
      ap (λ xs. cond (list_any (destroys e) xs) None (find_in e xs)) same_entries
      ∙ ap (λ x. cond x None (created_as b e)) (any_split b e (destroys e))

  pub left : Has (live_as next) (has_client next) new
  left e =
      removes e ∙ (λ i. cond (among e i) None (has e i))
      ∙ left_by e (was_dead b e) (list_any (destroys e) b.current) (created_as b e) refl refl refl
      ∙ ap (option_map (resident_of (has_client next))) (sym (live_next e))
