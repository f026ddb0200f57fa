-- The lines of clients of a legal round are in form.
use Rattle.std.proofs.Common.{◌≡◌, ℕ, ◌+◌, ◌-◌, ◌<◌, ◌≤◌, Bool, true, false, ◌&&◌, cond, List, [], ◌∷◌, ◌++◌, length, All, Option}
use Rattle.std.proofs.Common.{Some, None, refl, sym, ◌∙◌, ap, subst, arith, inl, inr, length-append}
use Rattle.std.specs.Prelude.{filter, ◌==◌, not, is_some, IsTrue}
use Rattle.std.specs.List.{AllByRecursion, list_any, range_with_len}
use Rattle.std.proofs.lemmas.Bool.Decides.{nat_tests}
use Rattle.seam_node_steps.specs.Prelude.{AreDefs, AreLegal, IsWhole, type_of, Create, cells_of}
use Rattle.seam_rule_rounds.specs.Prelude.{Header, Book, entries, created_as, joins, was_dead, is_shown, tree_of, Standing, replica_of}
use Rattle.seam_rule_rounds.specs.Prelude.{IsRound}
use Rattle.seam_rule_rounds.specs.Prelude.{RoundData, ClientLine, lines_to, told_in, Shown, Own, Enter, Set, Leave, ClientText, GhostCopy}
use Rattle.seam_rule_rounds.specs.ClientLines.{IsOther, ShowsClient, truth_of, base_versions, base_shown, texts_to, is_base}
use Rattle.seam_rule_rounds.specs.ClientLines.{shows_base}
use Rattle.seam_rule_rounds.specs.FlatTable.{version_of, public_at, has_changed_at}
use Rattle.seam_rule_lines.specs.FlatTable.{flat}
use Rattle.seam_rule_lines.specs.Book.{is_new_client}
use Rattle.seam_rule_rounds.proofs.Public.{public_at_most}
use Rattle.seam_rule_clients.specs.Clients.{new_client, shown_by, shown_by_lines}
use Rattle.seam_rule_clients.specs.Lines.{ShowsTruth}
use Rattle.seam_call.specs.declared.shown.Line.{Line}
use Rattle.seam_call.specs.declared.shown.ClientText.TheVariants as text
use Rattle.seam_defs.specs.declared.flags.Part.TheVariants as part
use Rattle.seam_defs.specs.declared.flags.Group.TheVariants as group
use Rattle.seam_law_texts.specs.Forms.{HasState, IsCopy, IsLong, IsShown, IsTo, IsClientText}
use Rattle.seam_law_book.specs.Prelude.{IsOfLines}
use Rattle.seam_law_forms.specs.Counting.{AreCounted, NamesWhole, HasWholeNumbers, WereWhole}
use Rattle.seam_law_forms.proofs.Members.{IsIn, each_in, each_all, all_in, all_each, in_append, in_filter, filter_in, map_in, in_map}
use Rattle.seam_law_forms.proofs.Members.{picked_in}
use Rattle.seam_law_forms.proofs.Members.{in_range}
use Rattle.seam_law_forms.proofs.Made.{made_is}
use Rattle.seam_law_forms.proofs.States.{has_own, has_other, has_client}
use Rattle.seam_law_forms.proofs.Executed.{type_is}
use Rattle.seam_law_forms.proofs.Entities.{cell_state, base_state}
use Rattle.seam_law_forms.proofs.Views.{HasWholeView, all_whole, shown_whole, names_whole}

-- an entity that has a client was created
made_shown : (b : Book) (e : ℕ) → is_shown b e ≡ true → (c : Create) × (created_as b e ≡ Some c)
made_shown b e shown = by (created_as b e) shown
  where
    by : (o : Option Create) → ((is_some o && list_any (joins e) (entries b)) && not (was_dead b e)) ≡ true → (c : Create) × (o ≡ Some c)
    by None is = absurd (cc)
    by (Some c) is = (c, refl)

same_number : (n : ℕ) → (n == n) ≡ true
same_number n = grind (arith, nat_tests)

module _ (h : Header) (s : Standing) (r : RoundData) (t : Standing) (of_lines : IsOfLines h s.book) (were : WereWhole s)
    (round : IsRound h s r t) where
  abbrev b : Book
  b = s.book

  module _ (c : Create) (is : created_as b c.entity ≡ Some c) (shown : IsTrue (is_shown b c.entity)) where
    abbrev shows : ShowsClient h s r t c
    shows = round.shown.each c is shown

    view_whole : HasWholeView (replica_of h s c.entity)
    view_whole = all_whole (new_client h.settings) (shown_by_lines (s.told c.entity)) (shown_whole (s.told c.entity) (were c.entity)) tt

    names : AllByRecursion NamesWhole (shown_by_lines (told_in r c.entity))
    names =
        names_whole (truth_of h s t c) c.entity
        (λ e copy other. let m = made_is h b of_lines e other.made other.is in subst IsWhole m.1 m.0.number)
        (replica_of h s c.entity) (shown_by_lines (told_in r c.entity)) view_whole shows.right.in_turn shows.right.true_

    -- what a line shows of cell parts is among what all lines of the client show
    shown_in : (l : Line) (x : Shown) → l.text ≡ text.Shown x → IsIn (told_in r c.entity) l → IsIn (shown_by_lines (told_in r c.entity)) x
    shown_in l x at has = picked_in (λ (m : Line). shown_by m.text) (told_in r c.entity) l x (ap shown_by at) has

    tells_by : (l : Line) → IsIn (told_in r c.entity) l → (x : ClientText) → l.text ≡ x → HasWholeNumbers x
    tells_by l has (text.Shown x) at = each_in NamesWhole (shown_by_lines (told_in r c.entity)) x names (shown_in l x at has)
    tells_by l has (text.Base v props) at = tt

    pub told_whole : AllByRecursion (λ (l : Line). HasWholeNumbers l.text) (told_in r c.entity)
    told_whole = each_all (λ (l : Line). HasWholeNumbers l.text) (told_in r c.entity) (λ l has. tells_by l has l.text refl)

  -- what made the entity of a line, and that it has a client
  record HasMade (l : ClientLine) : Type 0 where
    made : Create
    entity : made.entity ≡ l.entity
    is : created_as b made.entity ≡ Some made
    shown : IsTrue (is_shown b made.entity)
    among : IsIn (lines_to r made.entity) l

  has_made : (l : ClientLine) → IsIn r.shown l → HasMade l
  has_made l has =
      let shown = all_each (λ (m : ClientLine). IsTrue (is_shown b m.entity)) r.shown round.shown.only l has in
      let made = made_shown b l.entity shown in
      let same = (made_is h b of_lines l.entity made.0 made.1).1 in
      record {
        made = made.0;
        entity = same;
        is = ap (created_as b) same ∙ made.1;
        shown = subst (λ (e : ℕ). IsTrue (is_shown b e)) (sym same) shown;
        among =
            filter_in (λ (m : ClientLine). m.entity == made.0.entity) r.shown l
            (ap (λ (e : ℕ). l.entity == e) same ∙ same_number l.entity) has;
      }

  line_in : (e : ℕ) (l : ClientLine) → IsIn (lines_to r e) l → IsIn (told_in r e) l.line
  line_in e l has = map_in (λ (m : ClientLine). m.line) (lines_to r e) l has

  line_whole : (l : ClientLine) → IsIn r.shown l → HasWholeNumbers l.line.text
  line_whole l has =
      let m = has_made l has in
      each_in (λ (x : Line). HasWholeNumbers x.text) (told_in r m.made.entity) l.line (told_whole m.made m.is m.shown)
      (line_in m.made.entity l m.among)

  pub were_whole : WereWhole t
  were_whole e =
      subst (AllByRecursion (λ (l : Line). HasWholeNumbers l.text)) (sym (round.shown.told e))
      (each_all (λ (l : Line). HasWholeNumbers l.text) (s.told e ++ told_in r e) (λ l has. elim (in_append (s.told e) (told_in r e) l has) [
        | inl before ↦ each_in (λ (x : Line). HasWholeNumbers x.text) (s.told e) l (were e) before
        | inr now ↦
            let from = in_map (λ (m : ClientLine). m.line) (lines_to r e) l now in
            let line = in_filter (λ (m : ClientLine). m.entity == e) r.shown from.0 from.1 in
            subst (λ (x : Line). HasWholeNumbers x.text) from.2 (line_whole from.0 line.0)
      ]))

  module _ (legal : AreLegal h.settings) (defs : AreDefs h.defs) (homes : (e : ℕ) → (s.places e).home < cells_of (tree_of b))
      (counted : AreCounted s t) where
    copy_is : (e : ℕ) (k : GhostCopy) → IsOther h s t e k → IsCopy h.defs b e k
    copy_is e k other =
        let made = other.made in
        let order = t.orders part.Cell e in
        let m = made_is h b of_lines e made other.is in
        let v = public_at h made order other.version in
        let version : k.version ≡ v = ap (λ (x : GhostCopy). x.version) other.same in
        let most = public_at_most h made order other.version in
        let had = other.had.1 in
        let few = counted.orders part.Cell made.entity in
        record {
          entity = subst IsWhole m.1 m.0.number;
          ty = ap (λ (x : GhostCopy). x.ty) other.same ∙ type_is b e made other.is;
          version = omega (arith, version, most, had, few);
          state =
              subst (λ (x : GhostCopy). HasState (type_of h.defs x.ty) group.Other x.state) (sym other.same)
              (has_other h legal defs made (flat h part.Cell made order v)
              (cell_state h legal defs s r t of_lines homes counted round e made other.is v));
        }

    module _ (c : Create) (is : created_as b c.entity ≡ Some c) (shown : IsTrue (is_shown b c.entity)) where
      abbrev shows_ : ShowsClient h s r t c
      shows_ = round.shown.each c is shown

      shown_form : (x : Shown) → ShowsTruth (truth_of h s t c) x → NamesWhole x → IsShown h.defs b c.ty x
      shown_form (Own v state) (had, same) whole =
          let few = counted.orders part.Cell c.entity in
          let most = had.1 in (
            omega (arith, few, most),
            subst (HasState (type_of h.defs c.ty) group.Own) (sym same)
                (has_own h legal defs c (flat h part.Cell c (t.orders part.Cell c.entity) v)
                (cell_state h legal defs s r t of_lines homes counted round c.entity c is v)),
          )
      shown_form (Enter e k) other whole = copy_is e k other
      shown_form (Set e k) other whole = copy_is e k other
      shown_form (Leave e) tells whole = whole

      abbrev began : ℕ
      began = version_of s.orders part.Base c

      abbrev ended : ℕ
      ended = version_of t.orders part.Base c

      grew : began ≤ ended
      grew =
          let long =
          ap length (round.dob.further c.entity) ∙ length-append (s.orders part.Base c.entity) (round.dob.done c.entity) in
          omega (arith, long)

      -- a version at which the base part is shown is one that it had
      first_most : (w : ℕ) (new : Bool) → IsIn (cond new (began ∷ []) []) w → w ≤ ended
      first_most w true (inl same) = let more = grew in omega (arith, same, more)
      first_most w true (inr none) = absurd none
      first_most w false none = absurd none

      version_most : (w : ℕ) → IsIn (base_versions h s t c) w → w ≤ ended
      version_most w has =
          elim (in_append (cond (is_new_client b c.entity && shows_base h c) (began ∷ []) [])
          (filter (has_changed_at h part.Base c (t.orders part.Base c.entity)) (range_with_len (began + 1) (ended - began))) w has) [
            | inl here ↦ first_most w (is_new_client b c.entity && shows_base h c) here
            | inr later ↦
                let both =
                in_filter (has_changed_at h part.Base c (t.orders part.Base c.entity)) (range_with_len (began + 1) (ended - began)) w later
                in
                let within = (in_range (began + 1) (ended - began) w both.0).1 in
                let more = grew in
                omega (arith, within, more)
          ]

      base_form : (l : Line) → IsIn (told_in r c.entity) l → (v : ℕ) (props : _) → l.text ≡ text.Base v props →
          IsClientText h.defs b c.ty (text.Base v props)
      base_form l has v props at =
          let told = map_in (λ (m : Line). m.text) (told_in r c.entity) l has in
          let among = filter_in is_base (texts_to r c.entity) l.text (ap is_base at) told in
          let from =
          in_map (base_shown h t c) (base_versions h s t c) l.text
          (subst (λ (xs : List ClientText). IsIn xs l.text) shows_.bases among) in
          let most = version_most from.0 from.1 in
          let few = counted.orders part.Base c.entity in
          subst (IsClientText h.defs b c.ty) (from.2 ∙ at) (
            omega (arith, most, few),
            has_client h legal defs c (flat h part.Base c (t.orders part.Base c.entity) from.0)
                (base_state h legal defs s r t of_lines homes counted round c.entity c is from.0),
          )

      told_form : (l : Line) → IsIn (told_in r c.entity) l → (x : ClientText) → l.text ≡ x → IsClientText h.defs b c.ty x
      told_form l has (text.Shown x) at =
          let among = shown_in c is shown l x at has in
          shown_form x (each_in (ShowsTruth (truth_of h s t c)) (shown_by_lines (told_in r c.entity)) x shows_.right.true_ among)
          (each_in NamesWhole (shown_by_lines (told_in r c.entity)) x (names c is shown) among)
      told_form l has (text.Base v props) at = base_form l has v props at

      number_long : (l : Line) → IsIn (told_in r c.entity) l → IsLong l.number
      number_long l has =
          let told = map_in (λ (m : Line). m.number) (told_in r c.entity) l has in
          let within =
          (in_range (length (s.told c.entity) + 1) (length (told_in r c.entity)) l.number
          (subst (λ (xs : List ℕ). IsIn xs l.number) shows_.numbers told)).1 in
          let long = ap length (round.shown.told c.entity) ∙ length-append (s.told c.entity) (told_in r c.entity) in
          let few = counted.told c.entity in
          omega (arith, within, long, few)

      to_form : (l : ClientLine) → l.entity ≡ c.entity → IsIn (lines_to r c.entity) l → IsTo h.defs b l
      to_form l entity has =
          let type : l.ty ≡ c.ty = all_each (λ (m : ClientLine). m.ty ≡ c.ty) (lines_to r c.entity) shows_.types l has in
          let line = line_in c.entity l has in
          record {
            entity = subst IsWhole (sym entity) (made_is h b of_lines c.entity c is).0.number;
            ty = type ∙ type_is b l.entity c (ap (created_as b) entity ∙ is);
            number = number_long l.line line;
            told = subst (λ (ty : ℕ). IsClientText h.defs b ty l.line.text) (sym type) (told_form l.line line l.line.text refl);
          }

    pub clients_in_form : All (IsTo h.defs b) r.shown
    clients_in_form =
        all_in (IsTo h.defs b) r.shown (λ l has. let m = has_made l has in to_form m.made m.is m.shown l (sym m.entity) m.among)
