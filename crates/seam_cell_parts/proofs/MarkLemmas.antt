-- Which entities are marked when a real is taken out or put in, and the first of them.
use Rattle.std.proofs.Common.{◌≡◌, ℕ, Bool, true, false, cond, not, eqb, ◌&&◌, T, List, [], ◌∷◌, find, map, None, Some}
use Rattle.std.proofs.Common.{refl, sym, ap, ◌∙◌, arith}
use Rattle.std.specs.Prelude.{option_map}
use Rattle.std.specs.List.{filter}
use Rattle.std.specs.Ordering.{nat_cmp, is_lt, is_eq, match_ordering}
use Rattle.std.specs.declared.cmp.Ordering.{Ordering}
use Rattle.std.specs.declared.cmp.Ordering.TheVariants.{Less, Equal, Greater}
use Rattle.std.specs.Cmp.{nat_cmp_total, tied_itself}
use Rattle.std.specs.FinMap as table
use Rattle.std.specs.FinMap.Entries.{put, is_sorted, below_all, find as key_find}
use Rattle.std.proofs.lemmas.Bool.Decides.{nat_tests}
use Rattle.seam_node_steps.specs.Prelude.{Map, number_of, set_at, without}
use Rattle.seam_node_steps.proofs.Slots.{set_at-same}
use Rattle.seam_node_steps.specs.Prelude.{with_entity}
use Rattle.seam_cell_parts.specs.Sets.{first_of}
use Rattle.seam_cell_parts.specs.Kept.{marked, with_mark}

-- ---- a number put in and taken out

pub itself : (e : ℕ) → eqb e e ≡ true
itself e = grind (arith, nat_tests)

other : (e x : ℕ) → is_eq (nat_cmp e x) ≡ false → eqb x e ≡ false
other e x t = grind (arith, nat_tests)

module _ (e : ℕ) where
  put_by : (x : ℕ) (xs : List ℕ) (o : Ordering) → nat_cmp e x ≡ o → with_entity e (with_entity e xs) ≡ with_entity e xs →
      with_entity e (match_ordering o (e ∷ x ∷ xs) (x ∷ xs) (x ∷ with_entity e xs))
      ≡ match_ordering o (e ∷ x ∷ xs) (x ∷ xs) (x ∷ with_entity e xs)
  put_by x xs Less is more =
      ap (λ o. match_ordering o (e ∷ e ∷ x ∷ xs) (e ∷ x ∷ xs) (e ∷ with_entity e (x ∷ xs))) (tied_itself nat_cmp_total e)
  put_by x xs Equal is more = ap (λ o. match_ordering o (e ∷ x ∷ xs) (x ∷ xs) (x ∷ with_entity e xs)) is
  put_by x xs Greater is more =
      ap (λ o. match_ordering o (e ∷ x ∷ with_entity e xs) (x ∷ with_entity e xs) (x ∷ with_entity e (with_entity e xs))) is
      ∙ ap (λ l. x ∷ l) more

  pub put_twice : (xs : List ℕ) → with_entity e (with_entity e xs) ≡ with_entity e xs
  put_twice [] = ap (λ o. match_ordering o (e ∷ e ∷ []) (e ∷ []) (e ∷ e ∷ [])) (tied_itself nat_cmp_total e)
  put_twice (x ∷ xs) = put_by x xs (nat_cmp e x) refl (put_twice xs)

  out_by : (x : ℕ) (xs : List ℕ) (o : Ordering) → without e (with_entity e xs) ≡ without e xs →
      without e (match_ordering o (e ∷ x ∷ xs) (x ∷ xs) (x ∷ with_entity e xs)) ≡ without e (x ∷ xs)
  out_by x xs Less more = ap (λ b. cond (not b) (e ∷ without e (x ∷ xs)) (without e (x ∷ xs))) (itself e)
  out_by x xs Equal more = refl
  out_by x xs Greater more = ap (λ l. cond (not (eqb x e)) (x ∷ l) l) more

  pub out_again : (xs : List ℕ) → without e (with_entity e xs) ≡ without e xs
  out_again [] = ap (λ b. cond (not b) (e ∷ []) []) (itself e)
  out_again (x ∷ xs) = out_by x xs (nat_cmp e x) (out_again xs)

  pub mark_twice : (b : Bool) (xs : List ℕ) → with_entity e (with_mark b e xs) ≡ with_entity e xs
  mark_twice true xs = put_twice xs
  mark_twice false xs = refl

  pub unmarked : (b : Bool) (xs : List ℕ) → without e (with_mark b e xs) ≡ without e xs
  unmarked true xs = out_again xs
  unmarked false xs = refl

-- ---- marks of entries

first : (a b : Bool) → T (a && b) → T a
first true b p = tt
first false b p = p

second : (a b : Bool) → T (a && b) → T b
second true b p = p
second false b p = absurd p

less : (o : Ordering) → T (is_lt o) → o ≡ Less
less Less p = refl
less Equal p = absurd p
less Greater p = absurd p

module _ {X : Type 0} (test : ℕ × X → Bool) where
  abbrev marks : List (ℕ × X) → List ℕ
  marks es = map number_of (filter test es)

  head_by : (e : ℕ) (p : ℕ × X) (es : List (ℕ × X)) (b : Bool) → nat_cmp e p.0 ≡ Less →
      with_entity e (marks es) ≡ e ∷ marks es →
      with_entity e (map number_of (cond b (p ∷ filter test es) (filter test es)))
      ≡ e ∷ map number_of (cond b (p ∷ filter test es) (filter test es))
  head_by e p es true is more =
      ap (λ o. match_ordering o (e ∷ p.0 ∷ marks es) (p.0 ∷ marks es) (p.0 ∷ with_entity e (marks es))) is
  head_by e p es false is more = more

  -- a number below all comes first
  comes_first : (e k : ℕ) (es : List (ℕ × X)) → nat_cmp e k ≡ Less → T (below_all nat_cmp k es) →
      with_entity e (marks es) ≡ e ∷ marks es
  comes_first e k [] is h = refl
  comes_first e k (p ∷ es) is h =
      head_by e p es (test p) (nat_cmp_total.trans e k p.0 is (less _ (first _ _ h))) (comes_first e k es is (second _ _ h))

  alone : (e : ℕ) (x : X) (b : Bool) → map number_of (cond b ((e, x) ∷ []) []) ≡ with_mark b e []
  alone e x true = refl
  alone e x false = refl

  before : (e : ℕ) (x : X) (es : List (ℕ × X)) (b : Bool) → with_entity e (marks es) ≡ e ∷ marks es →
      map number_of (cond b ((e, x) ∷ filter test es) (filter test es)) ≡ with_mark b e (marks es)
  before e x es true h = sym h
  before e x es false h = refl

  after : (e : ℕ) (p : ℕ × X) (es put_es : List (ℕ × X)) (b c : Bool) → nat_cmp e p.0 ≡ Greater →
      marks put_es ≡ with_mark b e (marks es) →
      map number_of (cond c (p ∷ filter test put_es) (filter test put_es))
      ≡ with_mark b e (map number_of (cond c (p ∷ filter test es) (filter test es)))
  after e p es put_es true true is more =
      ap (λ l. p.0 ∷ l) more
      ∙ sym (ap (λ o. match_ordering o (e ∷ p.0 ∷ marks es) (p.0 ∷ marks es) (p.0 ∷ with_entity e (marks es))) is)
  after e p es put_es false true is more = ap (λ l. p.0 ∷ l) more
  after e p es put_es b false is more = more

  put_at : (e : ℕ) (x : X) (p : ℕ × X) (es : List (ℕ × X)) (o : Ordering) → nat_cmp e p.0 ≡ o →
      T (is_sorted nat_cmp (p ∷ es)) → cond (is_eq o) (Some p.1) (key_find nat_cmp e es) ≡ None →
      (key_find nat_cmp e es ≡ None → marks (put nat_cmp e x es) ≡ with_mark (test (e, x)) e (marks es)) →
      marks (match_ordering o ((e, x) ∷ p ∷ es) ((p.0, x) ∷ es) (p ∷ put nat_cmp e x es)) ≡ with_mark (test (e, x)) e (marks (p ∷ es))
  put_at e x p es Less is s none more =
      before e x (p ∷ es) (test (e, x)) (head_by e p es (test p) is (comes_first e p.0 es is (first _ _ s)))
  put_at e x p es Equal is s none more = cc
  put_at e x p es Greater is s none more = after e p es (put nat_cmp e x es) (test (e, x)) (test p) is (more none)

  marks_put : (e : ℕ) (x : X) (es : List (ℕ × X)) → T (is_sorted nat_cmp es) → key_find nat_cmp e es ≡ None →
      marks (put nat_cmp e x es) ≡ with_mark (test (e, x)) e (marks es)
  marks_put e x [] s none = alone e x (test (e, x))
  marks_put e x (p ∷ es) s none = put_at e x p es (nat_cmp e p.0) refl s none (marks_put e x es (second _ _ s))

  kept_by : (e : ℕ) (p : ℕ × X) (es : List (ℕ × X)) (b : Bool) → eqb p.0 e ≡ false →
      without e (marks es) ≡ marks es →
      without e (map number_of (cond b (p ∷ filter test es) (filter test es)))
      ≡ map number_of (cond b (p ∷ filter test es) (filter test es))
  kept_by e p es true is more =
      ap (λ b. cond (not b) (p.0 ∷ without e (marks es)) (without e (marks es))) is ∙ ap (λ l. p.0 ∷ l) more
  kept_by e p es false is more = more

  missing_by : (e : ℕ) (p : ℕ × X) (es : List (ℕ × X)) (b : Bool) → is_eq (nat_cmp e p.0) ≡ b →
      cond b (Some p.1) (key_find nat_cmp e es) ≡ None → (key_find nat_cmp e es ≡ None → without e (marks es) ≡ marks es) →
      without e (marks (p ∷ es)) ≡ marks (p ∷ es)
  missing_by e p es true is none more = cc
  missing_by e p es false is none more = kept_by e p es (test p) (other e p.0 is) (more none)

  missing : (e : ℕ) (es : List (ℕ × X)) → key_find nat_cmp e es ≡ None → without e (marks es) ≡ marks es
  missing e [] none = refl
  missing e (p ∷ es) none = missing_by e p es (is_eq (nat_cmp e p.0)) refl none (missing e es)

  first_by : (p : ℕ × X) (es : List (ℕ × X)) (b : Bool) → first_of (marks es) ≡ option_map number_of (find test es) →
      first_of (map number_of (cond b (p ∷ filter test es) (filter test es))) ≡ option_map number_of (cond b (Some p) (find test es))
  first_by p es true more = refl
  first_by p es false more = more

  pub first_marked : (es : List (ℕ × X)) → first_of (marks es) ≡ option_map number_of (find test es)
  first_marked [] = refl
  first_marked (p ∷ es) = first_by p es (test p) (first_marked es)

-- ---- marks of a map

cond_twice : {A : Type 0} (b : Bool) (x y z : A) → cond b x (cond b y z) ≡ cond b x z
cond_twice true x y z = refl
cond_twice false x y z = refl

module _ {X : Type 0} (m : Map X) (e : ℕ) where
  pub put_again : (x : X) → table.insert (table.remove m e) e x ≡ table.insert m e x
  put_again x = table.same_map nat_cmp_total table.nat_cmp-IsAntisymmetric _ _
      (λ q. simp (table.get-insert, table.get-remove, nat_cmp_total, cond_twice))

  -- what is put back as it was changes nothing
  pub put_back : (x : X) → table.get m e ≡ Some x → table.insert (table.remove m e) e x ≡ m
  put_back x is = put_again x ∙ (ap (set_at m e) (sym is) ∙ set_at-same m e)

  pub removed_gone : table.get (table.remove m e) e ≡ None
  removed_gone =
      table.get-remove nat_cmp_total m e e ∙ ap (λ o. cond (is_eq o) None (table.get m e)) (tied_itself nat_cmp_total e)

  pub remove_none : table.get m e ≡ None → table.remove m e ≡ m
  remove_none none = ap (set_at m e) (sym none) ∙ set_at-same m e

module _ {X : Type 0} (test : ℕ × X → Bool) (m : Map X) (e : ℕ) where
  -- a real that is put in is marked where it passes
  pub marked_in : (x : X) → table.get m e ≡ None → marked test (table.insert m e x) ≡ with_mark (test (e, x)) e (marked test m)
  marked_in x none =
      ap (λ es. map number_of (filter test es)) (table.entries-insert nat_cmp_total m e x)
      ∙ marks_put test e x (table.entries m) (table.entries_sorted m) (sym (table.get-entries m e) ∙ none)

  -- and its mark goes where it is taken out
  pub not_marked : table.get m e ≡ None → without e (marked test m) ≡ marked test m
  not_marked none = missing test e (table.entries m) (sym (table.get-entries m e) ∙ none)

-- the marks of a map are those of the map without a real, and that one's
pub marked_out : {X : Type 0} (test : ℕ × X → Bool) (m : Map X) (e : ℕ) (x : X) → table.get m e ≡ Some x →
    marked test m ≡ with_mark (test (e, x)) e (marked test (table.remove m e))
marked_out test m e x at =
    ap (marked test) (sym (put_back m e x at)) ∙ marked_in test (table.remove m e) e x (removed_gone m e)
