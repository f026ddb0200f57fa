-- What parts executed in a round, by the lines that show it.
use Rattle.std.proofs.Common.{◌≡◌, ◌≢◌, ℕ, Bool, true, false, List, [], ◌∷◌, ◌++◌, map, Option, None, Some, refl, sym, ap, ◌∙◌, subst}
use Rattle.std.proofs.Common.{arith}
use Rattle.std.proofs.Common.{append-nil, IsTrue}
use Rattle.std.specs.Prelude.{filter, ◌==◌, ◌&&◌, is_some, Contains}
use Rattle.std.specs.List.{flat_map}
use Rattle.std.proofs.lemmas.Bool.Decides.{nat_tests}
use Rattle.std.proofs.lemmas.List.{map-append}
use Rattle.std.proofs.lemmas.List.Elements.{All-contains, filter-append, Contains-append_right}
use Rattle.seam_rule_rounds.specs.Prelude.{Part, is_for, is_from, same_part, same_sender, Sender, Base, Client, Call, Create, Book, entries}
use Rattle.seam_rule_rounds.specs.Prelude.{creates_of, calls_of, created_as, DoneLine, done_lines, ExtendsOrders}
use Rattle.seam_defs.specs.declared.flags.Part.TheVariants as part
use Rattle.seam_rule_lines.proofs.Lists.{contains_first}
use Rattle.seam_rule_lines.proofs.InOrderLemmas.{found_entity}
use Rattle.seam_judge_expected.proofs.ListedLemmas.{in_filter, filter_has}
use Rattle.seam_judge_rounds.specs.After.{AreForMade}
use Rattle.seam_judge_rounds.proofs.Pieces.{pieces_kept, pieces_lost, no_piece, one_piece, piece_of}

and_true : (b c : Bool) → (b && c) ≡ true → (b ≡ true) × (c ≡ true)
and_true true c is = (refl, is)
and_true false c is = absurd (cc)

same_self : (s : Sender) → same_sender s s ≡ true
same_self (Base m) = grind (arith, nat_tests)
same_self (Client e) = grind (arith, nat_tests)

other_part : (x p q : Part) → p ≢ q → same_part x p ≡ true → same_part x q ≡ false
other_part part.Cell part.Cell part.Cell not is = absurd (not refl)
other_part part.Cell part.Cell part.Base not is = refl
other_part part.Base part.Cell q not is = absurd (cc)
other_part part.Cell part.Base q not is = absurd (cc)
other_part part.Base part.Base part.Base not is = absurd (not refl)
other_part part.Base part.Base part.Cell not is = refl

abbrev pub calls_in : List DoneLine → List Call
calls_in lines = map (λ (l : DoneLine). l.call) lines

calls_again : (ty : ℕ) (xs : List Call) → calls_in (map (λ (x : Call). record { ty = ty; call = x }) xs) ≡ xs
calls_again ty [] = refl
calls_again ty (x ∷ xs) = ap (λ (ys : List Call). x ∷ ys) (calls_again ty xs)

calls_of_lines : (done : ℕ → List Call) (made : List Create) →
    calls_in (done_lines done made) ≡ flat_map (λ (c : Create). done c.entity) made
calls_of_lines done [] = refl
calls_of_lines done (c ∷ made) =
    map-append (λ (l : DoneLine). l.call) (map (λ (x : Call). record { ty = c.ty; call = x }) (done c.entity)) (done_lines done made)
    ∙ (λ i. calls_again c.ty (done c.entity) i ++ calls_of_lines done made i)

module _ (b : Book) (p : Part) (before after : ℕ → List Call) (lines : List DoneLine) (x : ExtendsOrders b p before after lines) where
  -- what was executed was accepted for the part of the entity
  accepted_for : (e : ℕ) (y : Call) → Contains (x.done e) y →
      Contains (calls_of (entries b)) y × ((y.entity == e) ≡ true) × (same_part y.part p ≡ true)
  accepted_for e y has =
      let there = subst (λ (ys : List Call). Contains ys y) (sym (x.further e)) (Contains-append_right (before e) (x.done e) y has) in
      let of_sender = filter_has (λ (c : Call). same_sender c.sender y.sender) (after e) y (same_self y.sender) there in
      let found = in_filter (is_from p e y.sender) (calls_of (entries b)) y
      (subst (λ (ys : List Call). Contains ys y) (x.full e y.sender) of_sender) in
      let parts = and_true (is_for p e y) (same_sender y.sender y.sender) found.1 in
      let both = and_true (y.entity == e) (same_part y.part p) parts.0 in
      (found.0, both.0, both.1)

  shown : calls_in lines ≡ flat_map (λ (c : Create). x.done c.entity) x.made
  shown = ap calls_in x.are ∙ calls_of_lines x.done x.made

  tells : (e : ℕ) (c : Create) → Contains x.made c → (y : Call) → Contains (x.done c.entity) y → is_for p e y ≡ (c.entity == e)
  tells e c there y has =
      let own = accepted_for c.entity y has in
      let entity : y.entity ≡ c.entity = grind (arith, nat_tests, own.1) in
      ap (λ (z : Bool). (y.entity == e) && z) own.2 ∙ and_same (y.entity == e) ∙ ap (λ (n : ℕ). n == e) entity
    where
      and_same : (z : Bool) → (z && true) ≡ z
      and_same true = refl
      and_same false = refl

  none_unmade : AreForMade b → (e : ℕ) → created_as b e ≡ None → x.done e ≡ []
  none_unmade made e none = by (x.done e) refl
    where
      by : (ys : List Call) → x.done e ≡ ys → ys ≡ []
      by [] is = refl
      by (y ∷ ys) is =
          let own = accepted_for e y (subst (λ (zs : List Call). Contains zs y) (sym is) (contains_first y ys)) in
          let entity : y.entity ≡ e = grind (arith, nat_tests, own.1) in
          let some = All-contains (λ (z : Call). IsTrue (is_some (created_as b z.entity))) (calls_of (entries b)) y made own.0 in
          let no : false ≡ true = sym (ap is_some (ap (created_as b) entity ∙ none)) ∙ some in
          absurd (cc)

  -- the lines show what each part executed
  pub part_executed : AreForMade b → (e : ℕ) → filter (is_for p e) (calls_in lines) ≡ x.done e
  part_executed made e =
      ap (filter (is_for p e)) shown ∙ pieces_kept (λ (c : Create). x.done c.entity) (is_for p e) e x.made (tells e)
      ∙ by (created_as b e) refl
    where
      by : (o : Option Create) → created_as b e ≡ o → flat_map (piece_of (λ (c : Create). x.done c.entity) e) x.made ≡ x.done e
      by None is =
          no_piece (λ (c : Create). x.done c.entity) e x.made
          (λ c has same.
          let created = (x.listed.exact c).0 has in
          let no : None ≡ Some c = sym is ∙ ap (created_as b) (sym same) ∙ created in
          absurd (cc))
          ∙ sym (none_unmade made e is)
      by (Some c) is =
          let entity : c.entity ≡ e = found_entity (creates_of (entries b)) e c is in
          let has = (x.listed.exact c).1 (ap (created_as b) entity ∙ is) in
          subst (λ (n : ℕ). flat_map (piece_of (λ (d : Create). x.done d.entity) n) x.made ≡ x.done n) entity
          (one_piece (λ (d : Create). x.done d.entity) c x.made x.listed.rising has)

  -- and nothing of the other part
  pub none_of_other : (q : Part) → p ≢ q → (e : ℕ) → filter (is_for q e) (calls_in lines) ≡ []
  none_of_other q other e =
      ap (filter (is_for q e)) shown
      ∙ pieces_lost (λ (c : Create). x.done c.entity) (is_for q e) x.made
      (λ c there y has. ap (λ (z : Bool). (y.entity == e) && z) (other_part y.part p q other (accepted_for c.entity y has).2)
      ∙ and_false (y.entity == e))
    where
      and_false : (z : Bool) → (z && false) ≡ false
      and_false true = refl
      and_false false = refl

-- what both parts executed
module _ (b : Book) (cells cells_after bases bases_after : ℕ → List Call) (did dob : List DoneLine) (made : AreForMade b)
    (x : ExtendsOrders b part.Cell cells cells_after did) (y : ExtendsOrders b part.Base bases bases_after dob)
  where
    split : (p : Part) (e : ℕ) → filter (is_for p e) (calls_in (did ++ dob)) ≡ filter (is_for p e) (calls_in did)
        ++ filter (is_for p e) (calls_in dob)
    split p e =
        ap (filter (is_for p e)) (map-append (λ (l : DoneLine). l.call) did dob) ∙ filter-append (is_for p e) (calls_in did) (calls_in dob)

    differ : part.Cell ≢ part.Base
    differ is = absurd (cc)

    pub cells_executed : (e : ℕ) → cells e ++ filter (is_for part.Cell e) (calls_in (did ++ dob)) ≡ cells_after e
    cells_executed e =
        ap (λ (ys : List Call). cells e ++ ys)
        (split part.Cell e
        ∙ (λ i. part_executed b part.Cell cells cells_after did x made e i
        ++ none_of_other b part.Base bases bases_after dob y part.Cell (λ is. differ (sym is)) e i)
        ∙ append-nil (x.done e))
        ∙ sym (x.further e)

    pub bases_executed : (e : ℕ) → bases e ++ filter (is_for part.Base e) (calls_in (did ++ dob)) ≡ bases_after e
    bases_executed e =
        ap (λ (ys : List Call). bases e ++ ys)
        (split part.Base e
        ∙ (λ i. none_of_other b part.Cell cells cells_after did x part.Base differ e i
        ++ part_executed b part.Base bases bases_after dob y made e i))
        ∙ sym (y.further e)
