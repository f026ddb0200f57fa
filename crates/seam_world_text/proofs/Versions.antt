-- What the clients of a round are shown is one copy of each entity and version.
use Rattle.std.proofs.Common.{◌≡◌, ℕ, Bool, true, false, cond, List, [], ◌∷◌, None, Some, refl, sym, subst, ap, ◌∙◌}
use Rattle.std.specs.Prelude.{Contains, slice_index_or}
use Rattle.std.specs.List.{All, AllByRecursion, list_any, cons_option}
use Rattle.std.specs.Option.{option_map}
use Rattle.std.specs.FinMap as table
use Rattle.std.proofs.lemmas.List.Elements.{All-nil, All-cons, All-contains_itself}
use Rattle.seam_defs.specs.declared.flags.Part.TheVariants as part
use Rattle.seam_node_steps.specs.Prelude.{TypeDef, Create, GhostCopy, Line, Own, Enter, Set, Leave, ClientText, Map, World}
use Rattle.seam_rule_rounds.specs.Prelude.{Header, Book, created_as, destroys, is_shown, was_dead, shown_by, shown_by_lines, ShowsTruth}
use Rattle.seam_rule_rounds.specs.Prelude.{IsOther, truth_of, other_at, Standing}
use Rattle.seam_call.specs.declared.shown.ClientText.TheVariants as text
use Rattle.seam_report.specs.Spelled.{Versions, IsOf, ShowsOf}
use Rattle.seam_world_text.specs.Farewells.{AreFarewells, kept_of}
use Rattle.seam_world_text.specs.Finding.{lines_found}
use Rattle.seam_world_text.specs.Residents.{ArePresent, present_as}
use Rattle.seam_world_text.specs.Told.{ShowOf, unless_kept, told_by}
use Rattle.seam_world_text.specs.declared.farewells.Farewell.{Farewell}
use Rattle.seam_world_text.specs.declared.residents.Resident.{Resident}
use Rattle.seam_world_text.proofs.Listing.{mapped}

module _ (h : Header) (s t : Standing) where
  -- an entity at a version, as the calls leave it that it executed up to the standing after the round
  abbrev pub versions_of : Versions
  versions_of e v = option_map (λ made. other_at h made (t.orders part.Cell e) v) (created_as s.book e)

  other_is_of : (e : ℕ) (k : GhostCopy) → IsOther h s t e k → IsOf versions_of e k
  other_is_of e k is =
      ap (option_map (λ made. other_at h made (t.orders part.Cell e) k.version)) is.is
      ∙ ap (λ v. Some (other_at h is.made (t.orders part.Cell e) v)) (ap (λ (x : GhostCopy). x.version) is.same) ∙ ap Some (sym is.same)

  module _ (c : Create) where
    lines_by : (x : ClientText) (ls : List Line) →
        AllByRecursion (ShowsTruth (truth_of h s t c)) (cons_option (shown_by x) (shown_by_lines ls)) →
        ShowsOf versions_of x × AllByRecursion (ShowsTruth (truth_of h s t c)) (shown_by_lines ls)
    lines_by (text.Shown (Own v state)) ls all = (tt, all.1)
    lines_by (text.Shown (Enter e k)) ls all = (other_is_of e k all.0, all.1)
    lines_by (text.Shown (Set e k)) ls all = (other_is_of e k all.0, all.1)
    lines_by (text.Shown (Leave e)) ls all = (tt, all.1)
    lines_by (text.Base v props) ls all = (tt, all)

    -- true lines show those copies
    pub lines_are_of : (ls : List Line) → AllByRecursion (ShowsTruth (truth_of h s t c)) (shown_by_lines ls) → ShowOf versions_of ls
    lines_are_of [] all = All-nil (λ l. ShowsOf versions_of l.text)
    lines_are_of (l ∷ ls) all =
        let one = lines_by l.text ls all in All-cons (λ x. ShowsOf versions_of x.text) l ls one.0 (lines_are_of ls one.1)

-- ---- of all residents

present_created : (b : Book) (c : Create) → present_as b c.entity ≡ Some c → created_as b c.entity ≡ Some c
present_created b c is = by (was_dead b c.entity) is
  where
    by : (x : Bool) → cond x None (created_as b c.entity) ≡ Some c → created_as b c.entity ≡ Some c
    by true is = absurd (let z = is in cc)
    by false is = is

module _ (vs : Versions) (b : Book) (rs : List Resident) (present : ArePresent b rs) (called v : World) (kept : Map Farewell)
    (defs : List TypeDef) (farewells : AreFarewells defs b called kept)
    (each : (c : Create) → created_as b c.entity ≡ Some c → is_shown b c.entity ≡ true → list_any (destroys c.entity) b.current ≡ false →
    ShowOf vs (lines_found v c.entity)) where
  of_kept : (c : Create) → created_as b c.entity ≡ Some c → is_shown b c.entity ≡ true → (x : Bool) →
      list_any (destroys c.entity) b.current ≡ x →
      ShowOf vs (unless_kept (cond x (Some (kept_of defs called c)) None) (lines_found v c.entity))
  of_kept c made shown true is = All-nil (λ l. ShowsOf vs l.text)
  of_kept c made shown false is = each c made shown is

  of_client : (c : Create) → present_as b c.entity ≡ Some c → (x : Bool) → is_shown b c.entity ≡ x →
      ShowOf vs (cond x (unless_kept (table.get kept c.entity) (lines_found v c.entity)) [])
  of_client c here true is =
      subst (λ o. ShowOf vs (unless_kept o (lines_found v c.entity))) (sym (farewells c here is))
      (of_kept c (present_created b c here) is (list_any (destroys c.entity) b.current) refl)
  of_client c here false is = All-nil (λ l. ShowsOf vs l.text)

  pub all_are_of : All (λ r. ShowOf vs (told_by kept v r)) rs
  all_are_of k other within =
      let r = slice_index_or rs k other in
      let has : Contains rs r = All-contains_itself rs k other within in
      let there = (present.listed.exact r.made).0 (mapped (λ (x : Resident). x.made) rs r has) in
      subst (λ x. ShowOf vs (cond x (unless_kept (table.get kept r.made.entity) (lines_found v r.made.entity)) []))
      (sym (present.clients r has)) (of_client r.made there (is_shown b r.made.entity) refl)
