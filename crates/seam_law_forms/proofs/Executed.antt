-- What parts executed: it was accepted, and so it fits.
use Rattle.std.proofs.Common.{◌≡◌, ℕ, Bool, true, false, ◌&&◌, List, map, length, Option, Some, option_map, All}
use Rattle.std.proofs.Common.{refl, sym, ◌∙◌, ap, subst, arith}
use Rattle.std.specs.Prelude.{◌==◌, unwrap_or, Contains}
use Rattle.std.proofs.lemmas.Bool.Decides.{nat_tests}
use Rattle.std.proofs.lemmas.List.Elements.{All-map, All-weaker, All-contains_itself}
use Rattle.seam_node_steps.specs.Prelude.{AreLegal, IsWhole, FitsDeed, part_of_deed, type_of, Part, Call, Create, Sender, Deed}
use Rattle.seam_node_steps.specs.Prelude.{Move, Method, is_from, is_for, same_part, same_sender}
use Rattle.seam_rule_rounds.specs.Prelude.{Header, Book, entries, calls_of, created_as, accepted, IsFull, Lists, ExtendsOrders}
use Rattle.seam_rule_rounds.specs.Prelude.{DoneLine}
use Rattle.seam_call.specs.declared.sender.Sender.TheVariants as sender
use Rattle.seam_defs.specs.declared.flags.Part.TheVariants as part
use Rattle.seam_law_texts.specs.Forms.{IsDone, IsLong, GoesToPosition, type_in, no_number}
use Rattle.seam_law_book.specs.Prelude.{IsOfLines, StaysInside}
use Rattle.seam_law_forms.proofs.Members.{IsIn, each_in, all_in, in_right, in_filter, filter_in, all_flat}
use Rattle.seam_law_forms.proofs.Made.{IsTaken, made_is, all_taken, few_calls}
use Rattle.seam_law_forms.proofs.States.{FitsOn, is_place}

and_true : (a b : Bool) → (a && b) ≡ true → (a ≡ true) × (b ≡ true)
and_true true b is = (refl, is)
and_true false b is = absurd (cc)

part_is : (p q : Part) → same_part p q ≡ true → p ≡ q
part_is part.Cell part.Cell is = refl
part_is part.Base part.Base is = refl
part_is part.Cell part.Base is = absurd (cc)
part_is part.Base part.Cell is = absurd (cc)

same_self : (s : Sender) → same_sender s s ≡ true
same_self (sender.Base n) = grind (arith, nat_tests)
same_self (sender.Client e) = grind (arith, nat_tests)

-- the number of a type, of an entity that was created
pub type_is : (b : Book) (e : ℕ) (c : Create) → created_as b e ≡ Some c → c.ty ≡ type_in b e
type_is b e c is = sym (ap (λ (o : Option Create). unwrap_or (option_map (λ (d : Create). d.ty) o) no_number) is)

pub listed_is : (entities : ℕ → Option Create) (list : List Create) → Lists entities list →
    All (λ (c : Create). entities c.entity ≡ Some c) list
listed_is entities list listed =
    All-weaker (Contains list) (λ (c : Create). entities c.entity ≡ Some c) (λ c has. (listed.exact c).0 has) list
    (All-contains_itself list)

goes_to_place : (h : Header) → AreLegal h.settings → (d : Deed) → StaysInside h d → GoesToPosition d
goes_to_place h legal (Move p) inside = is_place h p legal inside
goes_to_place h legal (Method m args) inside = tt

module _ (h : Header) (b : Book) (of_lines : IsOfLines h b) (p : Part) (e : ℕ) (order : List Call)
    (full : IsFull (accepted b p e) order) where
  -- an executed call was accepted, for the part of the entity
  pub record WasTaken (x : Call) : Type 0 where
    pub taken : IsTaken h b x
    pub entity : x.entity ≡ e
    pub part : x.part ≡ p

  pub was_taken : (x : Call) → IsIn order x → WasTaken x
  was_taken x has =
      let own = filter_in (λ (c : Call). same_sender c.sender x.sender) order x (same_self x.sender) has in
      let found = in_filter (is_from p e x.sender) (calls_of (entries b)) x (subst (λ (ys : List Call). IsIn ys x) (full x.sender) own) in
      let parts = and_true (is_for p e x) (same_sender x.sender x.sender) found.1 in
      let both = and_true (x.entity == e) (same_part x.part p) parts.0 in
      record {
        taken = each_in (IsTaken h b) (calls_of (entries b)) x (all_taken h b of_lines) found.0;
        entity = grind (arith, nat_tests, both.0);
        part = part_is x.part p both.1;
      }

  -- what made its entity
  made_same : (x : Call) (t : WasTaken x) (c : Create) → created_as b e ≡ Some c → t.taken.made ≡ c
  made_same x t c is =
      let two : Some t.taken.made ≡ Some c = sym t.taken.is ∙ ap (created_as b) t.entity ∙ is in
      cc

  pub fits_on : (c : Create) → created_as b e ≡ Some c → (x : Call) → IsIn order x → FitsOn h (type_of h.defs c.ty) p x
  fits_on c is x has =
      let t = was_taken x has in
      let same = made_same x t c is in
      record {
        deed = subst (λ (d : Create). FitsDeed (type_of h.defs d.ty) x.deed) same t.taken.deed;
        part = sym t.part ∙ t.taken.part ∙ ap (λ (d : Create). part_of_deed (type_of h.defs d.ty) x.deed) same;
        inside = t.taken.inside;
      }

  pub all_fit : (c : Create) → created_as b e ≡ Some c → All (FitsOn h (type_of h.defs c.ty) p) order
  all_fit c is = all_in (FitsOn h (type_of h.defs c.ty) p) order (fits_on c is)

  pub done_is : AreLegal h.settings → IsLong (length (entries b)) → (c : Create) → created_as b e ≡ Some c → (x : Call) → IsIn order x →
      IsDone h.defs b p (record { ty = c.ty; call = x })
  done_is legal few c is x has =
      let t = was_taken x has in
      let fit = fits_on c is x has in
      let made = made_is h b of_lines e c is in
      record {
        entity = subst IsWhole (made.1 ∙ sym t.entity) made.0.number;
        ty = type_is b x.entity c (ap (created_as b) t.entity ∙ is);
        part = t.part;
        sender = t.taken.sender;
        number =
            let most = t.taken.number in
            let fewer = few_calls (entries b) in
            omega (arith, most, fewer, few);
        deed = fit.deed;
        place = goes_to_place h legal x.deed fit.inside;
      }

module _ (h : Header) (legal : AreLegal h.settings) (b : Book) (of_lines : IsOfLines h b) (few : IsLong (length (entries b))) (p : Part)
    (before after : ℕ → List Call) (lines : List DoneLine) (x : ExtendsOrders b p before after lines) where
  abbrev one_line : Create → Call → DoneLine
  one_line c y = record { ty = c.ty; call = y }

  abbrev lines_of_one : Create → List DoneLine
  lines_of_one c = map (one_line c) (x.done c.entity)

  of_one : (c : Create) → created_as b c.entity ≡ Some c → All (IsDone h.defs b p) (lines_of_one c)
  of_one c is =
      All-map (IsDone h.defs b p) (one_line c) (x.done c.entity)
      (all_in (λ (y : Call). IsDone h.defs b p (one_line c y)) (x.done c.entity)
      (λ y has. done_is h b of_lines p c.entity (after c.entity) (x.full c.entity) legal few c is y
      (subst (λ (ys : List Call). IsIn ys y) (sym (x.further c.entity)) (in_right (before c.entity) (x.done c.entity) y has))))

  -- the lines of what was executed are in form
  pub done_in_form : All (IsDone h.defs b p) lines
  done_in_form =
      subst (All (IsDone h.defs b p)) (sym x.are)
      (all_flat (IsDone h.defs b p) lines_of_one x.made
      (All-weaker (λ (c : Create). created_as b c.entity ≡ Some c) (λ (c : Create). All (IsDone h.defs b p) (lines_of_one c)) of_one x.made
      (listed_is (created_as b) x.made x.listed)))
