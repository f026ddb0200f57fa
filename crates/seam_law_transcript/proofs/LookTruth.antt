-- What one look shows is true where the rows of its table are.
use Rattle.seam_law_transcript.proofs.Prelude.{◌≡◌, ℕ, Bool, true, false, cond, eqb, List, [], ◌∷◌, ◌++◌, Option, None, Some, refl, subst}
use Rattle.seam_law_transcript.proofs.Prelude.{Contains, find, not, option_map, AllByRecursion, filter_map, cons_option, eqb-true}
use Rattle.seam_law_transcript.proofs.Prelude.{none-some, Look, Shown, Own, Enter, Set, Leave, ClientReplica, Truth, ShowsTruth, Row}
use Rattle.seam_law_transcript.proofs.Prelude.{row_of, rows_but, shown_for, is_newer, own_shown, look_by, one_look, contains_first}
use Rattle.seam_law_transcript.proofs.Prelude.{contains_later, in_filter}
use Rattle.seam_view.specs.declared.Look.TheVariants as look

pub found : {X : Type 0} (p : X → Bool) (xs : List X) (x : X) → find p xs ≡ Some x → Contains xs x × (p x ≡ true)
found p [] x is = absurd (none-some x is)
found {X} p (y ∷ ys) x is = by (p y) refl is (found p ys x)
  where
    by : (b : Bool) → p y ≡ b → cond b (Some y) (find p ys) ≡ Some x → (find p ys ≡ Some x → Contains ys x × (p x ≡ true)) →
        Contains (y ∷ ys) x × (p x ≡ true)
    by true at same rest =
        let one : y ≡ x = cc in (subst (Contains (y ∷ ys)) one (contains_first y ys), subst (λ z. p z ≡ true) one at)
    by false at later rest = let r = rest later in (contains_later y x ys r.0, r.1)

module _ (t : Truth) where
  all_append : (xs ys : List Shown) → AllByRecursion (ShowsTruth t) xs → AllByRecursion (ShowsTruth t) ys →
      AllByRecursion (ShowsTruth t) (xs ++ ys)
  all_append [] ys a b = b
  all_append (x ∷ xs) ys a b = (a.0, all_append xs ys a.1 b)

  module _ (rows : List Row) (other : (r : Row) → Contains rows r → t.other r.entity r.other) where
    of_row : (e : ℕ) (r : Row) → row_of rows e ≡ Some r → t.other e r.other
    of_row e r is = let f = found (λ x. eqb x.entity e) rows r is in subst (λ n. t.other n r.other) (eqb-true r.entity e f.1) (other r f.0)

    shown_by : (l : Look) (x : Shown) → shown_for rows l ≡ Some x → ShowsTruth t x
    shown_by (look.Leave e) x is = let same : Leave e ≡ x = cc in subst (ShowsTruth t) same tt
    shown_by (look.Set e) x is = by (row_of rows e) (of_row e) is
      where
        by : (o : Option Row) → ((r : Row) → o ≡ Some r → t.other e r.other) → option_map (λ r. Set e r.other) o ≡ Some x → ShowsTruth t x
        by None each none = absurd (none-some x none)
        by (Some r) each some = let same : Set e r.other ≡ x = cc in subst (ShowsTruth t) same (each r refl)
    shown_by (look.Enter e) x is = by (row_of rows e) (of_row e) is
      where
        by : (o : Option Row) → ((r : Row) → o ≡ Some r → t.other e r.other) → option_map (λ r. Enter e r.other) o ≡ Some x → ShowsTruth t x
        by None each none = absurd (none-some x none)
        by (Some r) each some = let same : Enter e r.other ≡ x = cc in subst (ShowsTruth t) same (each r refl)

    all_shown : (ls : List Look) → AllByRecursion (ShowsTruth t) (filter_map (shown_for rows) ls)
    all_shown [] = tt
    all_shown (l ∷ ls) = by (shown_for rows l) (shown_by l) (all_shown ls)
      where
        by : (o : Option Shown) → ((x : Shown) → o ≡ Some x → ShowsTruth t x) →
            AllByRecursion (ShowsTruth t) (filter_map (shown_for rows) ls) →
            AllByRecursion (ShowsTruth t) (cons_option o (filter_map (shown_for rows) ls))
        by None each rest = rest
        by (Some x) each rest = (each x refl, rest)

  pub look_is_true : (me : ℕ) (c : ClientReplica) (rows : List Row) → ((r : Row) → Contains rows r → r.entity ≡ me → t.own r.version r.own)
      → ((r : Row) → Contains rows r → t.other r.entity r.other) → AllByRecursion (ShowsTruth t) (one_look c me rows)
  look_is_true me c rows own other = by (row_of rows me) refl
    where
      mine : (r : Row) (b : Bool) → t.own r.version r.own → AllByRecursion (ShowsTruth t) (cond b (Own r.version r.own ∷ []) [])
      mine r true is = (is, tt)
      mine r false is = tt

      by : (o : Option Row) → row_of rows me ≡ o → AllByRecursion (ShowsTruth t) (look_by c o (rows_but me rows))
      by None is = tt
      by (Some r) is =
          let f = found (λ x. eqb x.entity me) rows r is in
          all_append (own_shown c r) _ (mine r (is_newer c.own r.version) (own r f.0 (eqb-true r.entity me f.1)))
          (all_shown (rows_but me rows) (λ x has. other x (in_filter (λ y. not (eqb y.entity me)) rows x has).0) _)
