-- For callers: how maps and sets of a few entries compute. std's do not unfold; these rules say what they are.
use Rattle.std.proofs.Common.{◌≡◌, ℕ, Bool, true, false, cond, eqb, List, [], ◌∷◌, Option, None, Some, length}
use Rattle.std.proofs.Common.{refl, sym, ap, ◌∙◌, arith, is_some}
use Rattle.std.specs.Ordering.{nat_cmp, eq_by_cmp}
use Rattle.std.specs.Cmp.{nat_cmp_total}
use Rattle.std.specs.Str.{is_utf8}
use Rattle.std.proofs.lemmas.Str.{is_utf8-from_IsUtf8, IsUtf8-nil}
use Rattle.std.specs.FinMap as table
use Rattle.std.proofs.lemmas.Bool.Decides.{nat_tests}
use Rattle.std.specs.FinSet as set
use Rattle.seam_ghosts.proofs.Forgotten.{get_with_copies}
use Rattle.seam_node_steps.specs.Prelude.{Map, Ghost, copy_in, with_copies}

no_length : {A : Type 0} (es : List A) → length es ≡ 0 → es ≡ []
no_length [] e = refl
no_length (x ∷ es) e = absurd (omega (arith, e))

pub entries_empty : {X : Type 0} → table.entries (table.empty {K = ℕ} {X = X} {R = nat_cmp}) ≡ []
entries_empty {X} = no_length _ (sym (table.len-entries (table.empty {K = ℕ} {X = X} {R = nat_cmp})) ∙ table.len-empty nat_cmp X)

cond_same : {A : Type 0} (b : Bool) (x y z : A) → cond b x (cond b y z) ≡ cond b x z
cond_same true x y z = refl
cond_same false x y z = refl

cond_one : {A : Type 0} (b : Bool) (x : A) → cond b x x ≡ x
cond_one true x = refl
cond_one false x = refl

module _ {X : Type 0} where
  pub insert_again : (m : table.FinMap nat_cmp X) (k : ℕ) (x y : X) → table.insert (table.insert m k x) k y ≡ table.insert m k y
  insert_again m k x y = table.same_map nat_cmp_total table.nat_cmp-IsAntisymmetric _ _
      (λ q. simp (table.get-insert, nat_cmp_total, cond_same))

  pub remove_inserted : (m : table.FinMap nat_cmp X) (k : ℕ) (x : X) → table.remove (table.insert m k x) k ≡ table.remove m k
  remove_inserted m k x = table.same_map nat_cmp_total table.nat_cmp-IsAntisymmetric _ _
      (λ q. simp (table.get-insert, table.get-remove, nat_cmp_total, cond_same))

  pub remove_empty : (k : ℕ) → table.remove (table.empty {K = ℕ} {X = X} {R = nat_cmp}) k ≡ table.empty
  remove_empty k = table.same_map nat_cmp_total table.nat_cmp-IsAntisymmetric _ _
      (λ q. simp (table.get-remove, table.get-empty, nat_cmp_total, cond_one))

module _ {X : Type 0} (m : table.FinMap nat_cmp X) (i j : ℕ) (x : X) where
  -- two keys are set in any order
  insert_other : (y : X) → eqb i j ≡ false → table.insert (table.insert m i x) j y ≡ table.insert (table.insert m j y) i x
  insert_other y differ = table.same_map nat_cmp_total table.nat_cmp-IsAntisymmetric _ _
      (λ q. simp (table.get-insert, nat_cmp_total) (by q (eq_by_cmp nat_cmp q i) (eq_by_cmp nat_cmp q j) refl refl))
    where
      by : (q : ℕ) (a b : Bool) → eq_by_cmp nat_cmp q i ≡ a → eq_by_cmp nat_cmp q j ≡ b →
          cond b (Some y) (cond a (Some x) (table.get m q)) ≡ cond a (Some x) (cond b (Some y) (table.get m q))
      by q true true h k = absurd (grind (arith, nat_tests, h, k, differ))
      by q true false h k = refl
      by q false b h k = refl

  -- to remove another key
  pub remove_other : eqb i j ≡ false → table.remove (table.insert m i x) j ≡ table.insert (table.remove m j) i x
  remove_other differ = table.same_map nat_cmp_total table.nat_cmp-IsAntisymmetric _ _
      (λ q. simp (table.get-insert, table.get-remove, nat_cmp_total)
      (by q (eq_by_cmp nat_cmp q i) (eq_by_cmp nat_cmp q j) refl refl))
    where
      by : (q : ℕ) (a b : Bool) → eq_by_cmp nat_cmp q i ≡ a → eq_by_cmp nat_cmp q j ≡ b →
          cond b None (cond a (Some x) (table.get m q)) ≡ cond a (Some x) (cond b None (table.get m q))
      by q true true h k = absurd (grind (arith, nat_tests, h, k, differ))
      by q true false h k = refl
      by q false b h k = refl

-- of the entities 1, 2 and 3 the greater is set first
module _ {X : Type 0} (m : table.FinMap nat_cmp X) (x y : X) where
  pub second_before_first : table.insert (table.insert m 1 x) 2 y ≡ table.insert (table.insert m 2 y) 1 x
  second_before_first = insert_other m 1 2 x y refl

  pub third_before_first : table.insert (table.insert m 1 x) 3 y ≡ table.insert (table.insert m 3 y) 1 x
  third_before_first = insert_other m 1 3 x y refl

  pub third_before_second : table.insert (table.insert m 2 x) 3 y ≡ table.insert (table.insert m 3 y) 2 x
  third_before_second = insert_other m 2 3 x y refl

-- ---- the ghosts that have a copy

abbrev copy_or_none : {P : Type 0} (o : Option (Ghost P)) → Option (Ghost P)
copy_or_none o = cond (is_some (copy_in o)) o None

module _ {P : Type 0} where
  pub copies_empty : with_copies (table.empty {K = ℕ} {X = Ghost P} {R = nat_cmp}) ≡ table.empty
  copies_empty = table.same_map nat_cmp_total table.nat_cmp-IsAntisymmetric _ _
      (λ q. get_with_copies table.empty q ∙ (ap copy_or_none (table.get-empty nat_cmp q) ∙ sym (table.get-empty nat_cmp q)))

  -- one with a copy stays
  pub copies_stay : (m : Map (Ghost P)) (k beat : ℕ) (c : P) →
      with_copies (table.insert m k (record { beat = beat; copy = Some c }))
      ≡ table.insert (with_copies m) k (record { beat = beat; copy = Some c })
  copies_stay m k beat c = table.same_map nat_cmp_total table.nat_cmp-IsAntisymmetric _ _ (λ q.
      get_with_copies (table.insert m k g) q
      ∙ (ap copy_or_none (table.get-insert nat_cmp_total m k g q)
      ∙ (by q (eq_by_cmp nat_cmp q k)
      ∙ (ap (cond (eq_by_cmp nat_cmp q k) (Some g)) (sym (get_with_copies m q))
      ∙ sym (table.get-insert nat_cmp_total (with_copies m) k g q)))))
    where
      g : Ghost P
      g = record { beat = beat; copy = Some c }

      by : (q : ℕ) (b : Bool) → copy_or_none (cond b (Some g) (table.get m q)) ≡ cond b (Some g) (copy_or_none (table.get m q))
      by q true = refl
      by q false = refl

  -- one without a copy goes
  pub beats_go : (m : Map (Ghost P)) (k beat : ℕ) → with_copies (table.insert m k (record { beat = beat; copy = None }))
      ≡ table.remove (with_copies m) k
  beats_go m k beat = table.same_map nat_cmp_total table.nat_cmp-IsAntisymmetric _ _ (λ q.
      get_with_copies (table.insert m k g) q
      ∙ (ap copy_or_none (table.get-insert nat_cmp_total m k g q)
      ∙ (by q (eq_by_cmp nat_cmp q k)
      ∙ (ap (cond (eq_by_cmp nat_cmp q k) None) (sym (get_with_copies m q))
      ∙ sym (table.get-remove nat_cmp_total (with_copies m) k q)))))
    where
      g : Ghost P
      g = record { beat = beat; copy = None }

      by : (q : ℕ) (b : Bool) → copy_or_none (cond b (Some g) (table.get m q)) ≡ cond b None (copy_or_none (table.get m q))
      by q true = refl
      by q false = refl

-- an empty text is one
pub is_utf8-nil : is_utf8 [] ≡ true
is_utf8-nil = is_utf8-from_IsUtf8 [] IsUtf8-nil

-- what of a world that has few entities computes
pub ruleset computing = (
  table.get-insert,
  table.get-empty,
  set.contains-empty,
  set.contains-insert,
  nat_cmp_total,
  table.entries-insert,
  entries_empty,
  insert_again,
  second_before_first,
  third_before_first,
  third_before_second,
  remove_other,
  remove_inserted,
  remove_empty,
  copies_empty,
  copies_stay,
  beats_go,
  is_utf8-nil,
)
