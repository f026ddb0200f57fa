-- The types of created entities, one after the other.
use Rattle.std.proofs.Common.{◌≡◌, ℕ, Bool, true, false, cond, List, [], ◌∷◌, ◌++◌, Option, Some, None, option_map, refl, sym, ◌∙◌, ap}
use Rattle.std.proofs.Common.{arith, subst, ◌+◌, ◌<◌, length, take, get_or, not, Bor}
use Rattle.std.specs.Option.{is_some, option_copied}
use Rattle.std.proofs.lemmas.List.{take_more}
use Rattle.std.specs.Prelude.{find, ◌==◌}
use Rattle.std.specs.Ordering.{nat_cmp, is_eq, eq_by_cmp}
use Rattle.std.specs.FinMap as table
use Rattle.std.specs.Cmp.{nat_cmp_total, tied_itself}
use Rattle.std.proofs.lemmas.Bool.Decides.{nat_tests}
use Rattle.seam_call.specs.declared.create.Create.{Create}

-- the type of the first that has a number
abbrev pub type_among : List Create → ℕ → Option ℕ
type_among creates e = option_map (λ c. c.ty) (find (λ c. c.entity == e) creates)

-- an answer, or that of one more
abbrev or_that : Option ℕ → Bool → ℕ → Option ℕ
or_that (Some t) b ty = Some t
or_that None b ty = cond b (Some ty) None

with_one : (x : Create) (b : Bool) → option_map (λ (c : Create). c.ty) (cond b (Some x) None) ≡ cond b (Some x.ty) None
with_one x true = refl
with_one x false = refl

one_more : (xs : List Create) (x : Create) (e : ℕ) → type_among (xs ++ x ∷ []) e ≡ or_that (type_among xs e) (x.entity == e) x.ty
one_more [] x e = with_one x (x.entity == e)
one_more (y ∷ ys) x e = by (y.entity == e) (one_more ys x e)
  where
    by : (b : Bool) → type_among (ys ++ x ∷ []) e ≡ or_that (type_among ys e) (x.entity == e) x.ty →
        option_map (λ (c : Create). c.ty) (cond b (Some y) (find (λ c. c.entity == e) (ys ++ x ∷ [])))
        ≡ or_that (option_map (λ (c : Create). c.ty) (cond b (Some y) (find (λ c. c.entity == e) ys))) (x.entity == e) x.ty
    by true again = refl
    by false again = again

same_key : (q k : ℕ) → eq_by_cmp nat_cmp q k ≡ true → q ≡ k
same_key q k is = grind (arith, nat_tests, is)

key_is : (q k : ℕ) (b : Bool) → (k == q) ≡ b → eq_by_cmp nat_cmp q k ≡ b
key_is q k true is =
    let same : k ≡ q = grind (arith, nat_tests, is) in
    subst (λ (n : ℕ). eq_by_cmp nat_cmp q n ≡ true) (sym same) (ap is_eq (tied_itself nat_cmp_total q))
key_is q k false is = by (eq_by_cmp nat_cmp q k) refl
  where
    by : (b : Bool) → eq_by_cmp nat_cmp q k ≡ b → b ≡ false
    by false at = refl
    by true at = let same : q ≡ k = same_key q k at in absurd (grind (arith, nat_tests, is, same))

module _ (xs : List Create) (x : Create) (types : table.FinMap nat_cmp ℕ)
    (are : (e : ℕ) → table.get types e ≡ type_among xs e)
  where
    -- an entity that has no type yet gets one
    pub types_with : table.get types x.entity ≡ None → (e : ℕ) →
        table.get (table.insert types x.entity x.ty) e ≡ type_among (xs ++ x ∷ []) e
    types_with none e =
        table.get-insert nat_cmp_total types x.entity x.ty e ∙ by (x.entity == e) refl ∙ sym (one_more xs x e)
      where
        unchanged : (o : Option ℕ) → o ≡ or_that o false x.ty
        unchanged None = refl
        unchanged (Some t) = refl

        by : (b : Bool) → (x.entity == e) ≡ b →
            cond (eq_by_cmp nat_cmp e x.entity) (Some x.ty) (table.get types e) ≡ or_that (type_among xs e) (x.entity == e) x.ty
        by true is =
            let same : x.entity ≡ e = grind (arith, nat_tests, is) in
            let nothing : type_among xs e ≡ None = sym (are e) ∙ ap (table.get types) (sym same) ∙ none in
            ap (λ (b : Bool). cond b (Some x.ty) (table.get types e)) (key_is e x.entity true is)
            ∙ ap (λ (b : Bool). cond b (Some x.ty) None) (sym is) ∙ ap (λ (o : Option ℕ). or_that o (x.entity == e) x.ty) (sym nothing)
        by false is =
            ap (λ (b : Bool). cond b (Some x.ty) (table.get types e)) (key_is e x.entity false is) ∙ are e
            ∙ unchanged (type_among xs e) ∙ ap (λ (b : Bool). or_that (type_among xs e) b x.ty) (sym is)

    -- an entity that has one keeps it
    pub types_without : (t : ℕ) → table.get types x.entity ≡ Some t → (e : ℕ) → table.get types e ≡ type_among (xs ++ x ∷ []) e
    types_without t some e = are e ∙ by (x.entity == e) refl ∙ sym (one_more xs x e)
      where
        kept : (b : Bool) (o : Option ℕ) → o ≡ Some t → o ≡ or_that o b x.ty
        kept b (Some u) at = refl
        kept b None at = absurd (cc)

        unchanged : (o : Option ℕ) → o ≡ or_that o false x.ty
        unchanged None = refl
        unchanged (Some u) = refl

        by : (b : Bool) → (x.entity == e) ≡ b → type_among xs e ≡ or_that (type_among xs e) (x.entity == e) x.ty
        by true is =
            let same : x.entity ≡ e = grind (arith, nat_tests, is) in
            kept (x.entity == e) (type_among xs e) (sym (are e) ∙ ap (table.get types) (sym same) ∙ some)
        by false is = unchanged (type_among xs e) ∙ ap (λ (b : Bool). or_that (type_among xs e) b x.ty) (sym is)

-- ---- a list of creations, one after the other

pub copied_none : (o : Option (Bor ℕ)) (none : Bool) → is_some o ≡ not none → none ≡ true → option_copied o ≡ None
copied_none None none is at = refl
copied_none (Some x) none is at = absurd (by (is ∙ ap not at))
  where
    by : true ≡ false → ⊥
    by e = cc

pub copied_some : (o : Option (Bor ℕ)) (none : Bool) → is_some o ≡ not none → none ≡ false → (t : ℕ) × (option_copied o ≡ Some t)
copied_some (Some x) none is at = (x.now, refl)
copied_some None none is at = absurd (by (is ∙ ap not at))
  where
    by : false ≡ true → ⊥
    by e = cc

module _ (xs : List Create) (i : ℕ) (d : Create) (below : i < length xs) (old new : table.FinMap nat_cmp ℕ)
    (are : (e : ℕ) → table.get old e ≡ type_among (take i xs) e)
  where
    taken : take (i + 1) xs ≡ take i xs ++ get_or xs i d ∷ []
    taken = take_more xs i d below

    pub one_kept : table.get old (get_or xs i d).entity ≡ None → new ≡ table.insert old (get_or xs i d).entity (get_or xs i d).ty →
        (e : ℕ) → table.get new e ≡ type_among (take (i + 1) xs) e
    one_kept none is e =
        ap (λ (m : table.FinMap nat_cmp ℕ). table.get m e) is ∙ types_with (take i xs) (get_or xs i d) old are none e
        ∙ ap (λ (ys : List Create). type_among ys e) (sym taken)

    pub one_known : (t : ℕ) → table.get old (get_or xs i d).entity ≡ Some t → new ≡ old → (e : ℕ) →
        table.get new e ≡ type_among (take (i + 1) xs) e
    one_known t some is e =
        ap (λ (m : table.FinMap nat_cmp ℕ). table.get m e) is ∙ types_without (take i xs) (get_or xs i d) old are t some e
        ∙ ap (λ (ys : List Create). type_among ys e) (sym taken)
