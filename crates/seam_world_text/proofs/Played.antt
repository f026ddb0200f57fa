-- What is found of those who are there in a played round is what the round prints.
use Rattle.std.proofs.Common.{◌≡◌, ℕ, ◌≤◌, Bool, true, false, cond, List, [], map, length, Option, None, Some, refl, sym, ap, ◌∙◌}
use Rattle.std.specs.Prelude.{Contains, filter, not, ◌||◌, ◌&&◌, is_some}
use Rattle.std.specs.List.{flat_map, list_any, sum_by}
use Rattle.std.specs.FinMap as table
use Rattle.std.proofs.lemmas.List.{length-map}
use Rattle.std.proofs.lemmas.List.Concat.{length-flat_map}
use Rattle.std.proofs.lemmas.List.Folds.{flat_map-map, list_any-append}
use Rattle.seam_node_steps.specs.Prelude.{Division, Part, Create, Line, RealView, PartView, Map, World}
use Rattle.seam_rule_rounds.specs.Prelude.{Header, Book, entries, created_as, live_as, destroys, joins, is_shown, was_dead}
use Rattle.seam_rule_rounds.specs.Prelude.{with_round_ended, Lists, DoneLine, done_lines, ClientLine, client_text}
use Rattle.seam_law_calls.specs.Prelude.{entity_flow, real_in}
use Rattle.seam_law_rounds.specs.Prelude.{IsBetweenRounds}
use Rattle.seam_law_book.specs.Prelude.{frame_of, GoesWith, Lives, done_in}
use Rattle.seam_law_transcript.specs.Prelude.{client_lines, lines_shown, lines_told}
use Rattle.seam_rule_lines.proofs.Lists.{listed_is_one}
use Rattle.seam_judge_expected.proofs.ListedLemmas.{lists_living}
use Rattle.seam_law_rounds.proofs.Shape.{Nowhere}
use Rattle.seam_law_book.proofs.Present.{undestroyed}
use Rattle.seam_law_book.proofs.Ended.{live_ended}
use Rattle.seam_world_text.specs.Residents.{ArePresent, present_as}
use Rattle.seam_world_text.specs.Farewells.{AreFarewells, kept_of}
use Rattle.seam_world_text.specs.Finding.{node_for, done_found, part_found}
use Rattle.seam_world_text.specs.Finding.{lines_found}
use Rattle.seam_world_text.specs.RoundParts.{done_of_type, lines_text, shown_so_far, kept_text, shown_of}
use Rattle.seam_world_text.specs.Sums.{kept_count, shown_count}
use Rattle.seam_world_text.specs.declared.farewells.Farewell.{Farewell}
use Rattle.seam_world_text.specs.declared.residents.Resident.{Resident}
use Rattle.seam_world_text.proofs.Gathering.{same_of_each, same_number_of_each, kept_give_all, kept_or_none, kept_once, gathered_twice}
use Rattle.seam_world_text.proofs.Listing.{mapped}
use Rattle.seam_world_text.proofs.Routes.{done_is_found, lines_are_found}

abbrev made_of : Resident → Create
made_of r = r.made

-- ---- who is there

same_lists : (f g : ℕ → Option Create) (cs : List Create) → ((e : ℕ) → f e ≡ g e) → Lists f cs → Lists g cs
same_lists f g cs same l = record {
  rising = l.rising;
  exact = λ c. ((λ has. sym (same c.entity) ∙ (l.exact c).0 has), (λ is. (l.exact c).1 (same c.entity ∙ is)));
}

module _ (b : Book) (rs : List Resident) (present : ArePresent b rs) where
  abbrev there : List Create
  there = map made_of rs

  -- among all that were created, those who were not dead before
  pub there_of : (made : List Create) → Lists (created_as b) made → there ≡ filter (λ c. not (was_dead b c.entity)) made
  there_of made listed =
      listed_is_one (present_as b) there (filter (λ c. not (was_dead b c.entity)) made) present.listed
      (lists_living (created_as b) (was_dead b) made listed)

  abbrev dies : Create → Bool
  dies c = list_any (destroys c.entity) b.current

  spared_by : (dead now : Bool) (o : Option Create) → cond now None (cond dead None o) ≡ cond (dead || now) None o
  spared_by true true o = refl
  spared_by true false o = refl
  spared_by false now o = refl

  live_is : (e : ℕ) → cond (list_any (destroys e) b.current) None (present_as b e) ≡ live_as b e
  live_is e =
      spared_by (was_dead b e) (list_any (destroys e) b.current) (created_as b e)
      ∙ ap (λ x. cond x None (created_as b e)) (sym (list_any-append (destroys e) b.past b.current))

  -- and of them those live who do not die in the round
  pub live_of : (live : List Create) → Lists (live_as b) live → live ≡ filter (λ c. not (dies c)) there
  live_of live listed =
      listed_is_one (live_as b) live (filter (λ c. not (dies c)) there) listed
      (same_lists (λ e. cond (list_any (destroys e) b.current) None (present_as b e)) (live_as b) (filter (λ c. not (dies c)) there) live_is
      (lists_living (present_as b) (λ e. list_any (destroys e) b.current) there present.listed))

not_false : (x : Bool) → not x ≡ false → x ≡ true
not_false true is = refl
not_false false is = absurd (let z = is in cc)

module _ (b : Book) (rs : List Resident) (present : ArePresent b rs) where
  -- ---- the calls

  module _ (h : Header) (tree : Division) (some : 1 ≤ h.settings.bases) (u : World) (between : IsBetweenRounds (frame_of h tree) u)
      (q : Part)
      (made : List Create) (listed : Lists (created_as b) made)
      (idle : (c : Create) → was_dead b c.entity ≡ true → done_in h u q c.entity ≡ []) where
    abbrev its_found : Create → List DoneLine
    its_found c = done_of_type c.ty (done_found q u c.entity)

    abbrev its_read : Create → List DoneLine
    its_read c = done_of_type c.ty (done_in h u q c.entity)

    abbrev was_alive : Create → Bool
    was_alive c = not (was_dead b c.entity)

    pub done_is_printed : flat_map (λ r. done_of_type r.made.ty (done_found q u r.made.entity)) rs ≡ done_lines (done_in h u q) made
    done_is_printed =
        sym (flat_map-map its_found made_of rs) ∙ ap (flat_map its_found) (there_of b rs present made listed)
        ∙ same_of_each its_found its_read (filter was_alive made)
        (λ c has. ap (done_of_type c.ty) (sym (done_is_found h tree some u between q c.entity)))
        ∙ kept_give_all was_alive its_read made (λ c has dead. ap (done_of_type c.ty) (idle c (not_false (was_dead b c.entity) dead)))

  -- ---- what the round leaves

  module _ {X : Type 0} (found : ℕ → List X) (read : ℕ → List X) (live : List Create) (listed : Lists (live_as b) live)
      (gone : (c : Create) → list_any (destroys c.entity) b.current ≡ true → found c.entity ≡ [])
      (same : (c : Create) → Contains live c → read c.entity ≡ found c.entity) where
    abbrev of_made : Create → List X
    of_made c = found c.entity

    abbrev spared : Create → Bool
    spared c = not (list_any (destroys c.entity) b.current)

    pub left_is_printed : flat_map (λ r. found r.made.entity) rs ≡ flat_map (λ c. read c.entity) live
    left_is_printed =
        sym (flat_map-map of_made made_of rs)
        ∙ sym (kept_give_all spared of_made (there b rs present)
        (λ c has dying. gone c (not_false (list_any (destroys c.entity) b.current) dying)))
        ∙ ap (flat_map of_made) (sym (live_of b rs present live listed))
        ∙ same_of_each of_made (λ c. read c.entity) live (λ c has. sym (same c has))

  -- ---- what clients were shown

  module _ (h : Header) (tree : Division) (some : 1 ≤ h.settings.bases) (called v : World)
      (between_called : IsBetweenRounds (frame_of h tree) called) (between : IsBetweenRounds (frame_of h tree) v) (made : List Create)
      (listed : Lists (created_as b) made) (kept : Map Farewell) (farewells : AreFarewells h.defs b called kept) where
    abbrev shows : Create → Bool
    shows c = is_shown b c.entity

    abbrev its_lines : Create → List ClientLine
    its_lines c = client_lines c (lines_told h b called v c.entity)

    abbrev lines_of_one : Resident → List ClientLine
    lines_of_one r = cond (shows r.made) (its_lines r.made) []

    second : (x y : Bool) → (x && y) ≡ true → y ≡ true
    second true y is = is
    second false y is = absurd (let z = is in cc)

    lines_are_printed : flat_map lines_of_one rs ≡ flat_map its_lines (filter shows made)
    lines_are_printed =
        sym (flat_map-map (λ c. cond (shows c) (its_lines c) []) made_of rs)
        ∙ sym (kept_or_none shows its_lines (there b rs present))
        ∙ ap (λ cs. flat_map its_lines (filter shows cs)) (there_of b rs present made listed)
        ∙ ap (flat_map its_lines) (kept_once shows (λ c. not (was_dead b c.entity)) made
        (λ c is. second (is_some (created_as b c.entity) && list_any (joins c.entity) (entries b)) (not (was_dead b c.entity)) is))

    -- ---- of one resident

    abbrev found_or : Create → Bool → List Line
    found_or c x = cond x (lines_found called c.entity) (lines_found v c.entity)

    told_is : (c : Create) (x : Bool) →
        found_or c x ≡ cond x (lines_shown h called c.entity) (lines_shown h v c.entity)
    told_is c true = sym (lines_are_found h tree some called between_called c.entity)
    told_is c false = sym (lines_are_found h tree some v between c.entity)

    text_by : (c : Create) (x : Bool) →
        kept_text (cond x (Some (kept_of h.defs called c)) None) (shown_so_far h.defs v c) ≡ lines_text h.defs c (found_or c x)
    text_by c true = refl
    text_by c false = refl

    count_by : (c : Create) (x : Bool) →
        kept_count (cond x (Some (kept_of h.defs called c)) None) (length (lines_found v c.entity)) ≡ length (client_lines c (found_or c x))
    count_by c true = sym (length-map (lines_found called c.entity) _)
    count_by c false = sym (length-map (lines_found v c.entity) _)

    text_is : (c : Create) → present_as b c.entity ≡ Some c → (x : Bool) → is_shown b c.entity ≡ x →
        cond x (kept_text (table.get kept c.entity) (shown_so_far h.defs v c)) [] ≡ flat_map (client_text h.defs) (cond x (its_lines c) [])
    text_is c here true is =
        let dies = list_any (destroys c.entity) b.current in
        ap (λ o. kept_text o (shown_so_far h.defs v c)) (farewells c here is) ∙ text_by c dies ∙ ap (lines_text h.defs c) (told_is c dies)
    text_is c here false is = refl

    count_is : (c : Create) → present_as b c.entity ≡ Some c → (x : Bool) → is_shown b c.entity ≡ x →
        cond x (kept_count (table.get kept c.entity) (length (lines_found v c.entity))) 0 ≡ length (cond x (its_lines c) [])
    count_is c here true is =
        let dies = list_any (destroys c.entity) b.current in
        ap (λ o. kept_count o (length (lines_found v c.entity))) (farewells c here is) ∙ count_by c dies
        ∙ ap (λ ls. length (client_lines c ls)) (told_is c dies)
    count_is c here false is = refl

    here : (r : Resident) → Contains rs r → present_as b r.made.entity ≡ Some r.made
    here r has = (present.listed.exact r.made).0 (mapped made_of rs r has)

    pub shown_is_printed : flat_map (shown_of h.defs kept v) rs ≡ flat_map (client_text h.defs) (flat_map its_lines (filter shows made))
    shown_is_printed =
        same_of_each (shown_of h.defs kept v) (λ r. flat_map (client_text h.defs) (lines_of_one r)) rs
        (λ r has. ap (λ x. cond x (kept_text (table.get kept r.made.entity) (shown_so_far h.defs v r.made)) []) (present.clients r has)
        ∙ text_is r.made (here r has) (shows r.made) refl)
        ∙ sym (gathered_twice (client_text h.defs) lines_of_one rs) ∙ ap (flat_map (client_text h.defs)) lines_are_printed

    pub shown_is_counted : sum_by (shown_count kept v) rs ≡ length (flat_map its_lines (filter shows made))
    shown_is_counted =
        same_number_of_each (shown_count kept v) (λ r. length (lines_of_one r)) rs
        (λ r has. ap (λ x. cond x (kept_count (table.get kept r.made.entity) (length (lines_found v r.made.entity))) 0)
        (present.clients r has)
        ∙ count_is r.made (here r has) (shows r.made) refl)
        ∙ sym (length-flat_map lines_of_one rs) ∙ ap length lines_are_printed

-- ---- who dies in the round is nowhere at its end

module _ (h : Header) (b : Book) (t : Division) (v : World) (goes : GoesWith h (with_round_ended b) t v) (e : ℕ)
    (dies : list_any (destroys e) b.current ≡ true) where
  not_alive : Lives (with_round_ended b) e → ⊥
  not_alive l = let z = sym dies ∙ undestroyed b e l.0 (sym (live_ended b e) ∙ l.1) in cc

  pub is_nowhere : Nowhere e v
  is_nowhere k = by (real_in ((entity_flow e v).slot k)) refl
    where
      by : (o : Option RealView) → real_in ((entity_flow e v).slot k) ≡ o → o ≡ None
      by None is = refl
      by (Some r) is = absurd (not_alive (goes.reals e k r is))

  pub has_no_part : part_found v e ≡ None
  has_no_part = by (part_found v e) refl
    where
      by : (o : Option PartView) → part_found v e ≡ o → o ≡ None
      by None is = refl
      by (Some q) is = absurd (not_alive (goes.parts e (node_for v e) q is))
